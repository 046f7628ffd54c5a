use Rattle.root_search.specs.FetchedSplits.{IsLentBy}
use Rattle.root_search.proofs.ShareWholes.{sure_at}
use Rattle.root_search.proofs.Zipped.{at_place, zip_at}
use Rattle.root_search.proofs.leaves.is_sure_at.Goals as goal

pub is_sure-requires : goal.is_sure-requires
is_sure-requires c =
    let views = c.args.views.now in
    let splits = c.args.splits.now in
    let one = c.in-Some.ensures.lookup.3 in
    let other = c.in-Some-get.ensures.lookup.3 in
    zip_at IsLentBy splits views c.args.place c.in-Some-get.split.now c.in-Some.view.now c.requires.lent (at_place splits c.args.place c.in-Some-get.split.now other.0 other.1) (at_place views c.args.place c.in-Some.view.now one.0 one.1)

pub returns : goal.returns
returns c =
    let views = c.args.views.now in
    let shares = c.args.shares.now in
    let one = c.in-Some.ensures.lookup.3 in
    let other = c.in-Some-get-2.ensures.lookup.3 in
    sure_at c.args.request.now views shares c.args.place c.in-Some.view.now c.in-Some-get-2.share.now c.is_sure.result c.is_sure.ensures (at_place views c.args.place c.in-Some.view.now one.0 one.1) (at_place shares c.args.place c.in-Some-get-2.share.now other.0 other.1)
