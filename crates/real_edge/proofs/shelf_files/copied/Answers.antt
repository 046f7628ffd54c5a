use Rattle.std.proofs.Common.{◌∙◌, arith}
use Rattle.std.proofs.lemmas.List.{take_all}
use Rattle.real_edge.proofs.Parts.{copied_more}
use Rattle.real_edge.proofs.shelf_files.copied.Goals as goal

pub loop-object-init : goal.loop-object-init
loop-object-init c = c.new-copy.ensures.items

pub loop-object-preserved : goal.loop-object-preserved
loop-object-preserved c =
    copied_more c.args.objects.now c.loop-object.object-index c.object-item.result c.in_ok-one.one c.loop-object.copy.items c.push.new.self.items c.loop-object-test.true c.object-item.is c.in_ok-one.ensures c.loop-object.invariant c.in_ok-push.ensures.items

pub returns : goal.returns
returns c = c.loop-object.invariant ∙ take_all c.loop-object.object-index c.args.objects.now (omega (arith, c.loop-object-test.false))
