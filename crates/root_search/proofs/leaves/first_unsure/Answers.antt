use Rattle.std.proofs.Common.{arith}
use Rattle.root_search.specs.Leaves.{IsSureAt}
use Rattle.root_search.proofs.ShareWholes.{below_more}
use Rattle.root_search.proofs.leaves.first_unsure.Goals as goal

pub loop-place-preserved : goal.loop-place-preserved
loop-place-preserved c = below_more (IsSureAt c.args.request.now c.args.views.now c.args.shares.now) c.loop-place.place c.loop-place.invariant c.if-not-is_sure_at.ensures

pub returns : goal.returns
returns c = λ i low. c.loop-place.invariant i (let past = c.loop-place-test.false in omega (arith, low, past))
