use Rattle.std.specs.List.{AllZip}
use Rattle.root_search.specs.Leaves.{AreSure, GivesShare}
use Rattle.root_search.specs.Shares.{AreEnough}
use Rattle.root_search.proofs.ShareJoins.{shares_counted, some_is}
use Rattle.root_search.proofs.ShareWholes.{join_of_shares}
use Rattle.root_search.proofs.leaves.search_shares.Goals as goal

pub joined-requires : goal.joined-requires
joined-requires g c =
    let s = c.args.schema.now in
    let r = c.args.request.now in
    let views = c.args.views.now in
    let give = some_is (AllZip (GivesShare s r) views) c.in_ok-shares-2.field-0 c.in-Some-3.shares c.in_ok-shares-2.ensures.give c.in-Some-3.is in
    shares_counted s r views c.in-Some-3.shares c.in_ok-answers_of_shares.field-0.items give c.in_ok-answers_of_shares.ensures

pub returns-in-Ok-clause-each : goal.returns-in-Ok-clause-each
returns-in-Ok-clause-each g c =
    let s = c.args.schema.now in
    let r = c.args.request.now in
    let views = c.args.views.now in
    let shares = c.in-Some-3.shares in
    let give = some_is (AllZip (GivesShare s r) views) c.in_ok-shares-2.field-0 shares c.in_ok-shares-2.ensures.give c.in-Some-3.is in
    let sure = some_is (AreSure r views) c.in_ok-shares-2.field-0 shares c.in_ok-shares-2.ensures.sure c.in-Some-3.is in
    let enough = some_is (AreEnough r.order r.wanted) c.in_ok-shares-2.field-0 shares c.in_ok-shares-2.ensures.enough c.in-Some-3.is in
    join_of_shares s r views shares c.in_ok-answers_of_shares.field-0.items c.in-Ok.all give sure enough c.in_ok-answers_of_shares.ensures c.in-Ok.ensures.each
