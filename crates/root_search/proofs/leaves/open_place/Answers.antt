use Rattle.root_search.specs.Leaves.{AreSure}
use Rattle.root_search.proofs.ShareWholes.{if_known}
use Rattle.root_search.proofs.leaves.open_place.Goals as goal

pub returns-in-None-clause-sure : goal.returns-in-None-clause-sure
returns-in-None-clause-sure c = if_known c.open_share.result (AreSure c.args.request.now c.args.views.now c.args.shares.now) c.in-None.ensures
