use Rattle.real_edge.proofs.Positions.{found_at}
use Rattle.real_edge.proofs.shelf_files.find.Goals as goal

pub returns-in-Ok : goal.returns-in-Ok
returns-in-Ok c =
    found_at c.args.key.now c.args.objects.now c.in-Ok.at c.index-objects-at.result c.requires c.in-Ok.ensures.ok.within (c.in-Ok.ensures.ok.key_is c.index-objects-at.result)
