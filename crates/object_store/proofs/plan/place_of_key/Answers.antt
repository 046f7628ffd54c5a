use Rattle.std.proofs.Common.{refl}
use Rattle.object_store.proofs.Plans.{key_found, key_passed}
use Rattle.object_store.proofs.plan.place_of_key.Goals as goal

pub returns-then-is_same-clause-some : goal.returns-then-is_same-clause-some
returns-then-is_same-clause-some c =
    key_found c.args.key.now c.args.keys.now c.loop-at.at c.index-keys-at.result c.loop-at.invariant c.loop-at-test.true c.index-keys-at.is (c.if-is_same.ensures.0 refl)

pub loop-at-preserved : goal.loop-at-preserved
loop-at-preserved c =
    key_passed c.args.key.now c.args.keys.now c.loop-at.at c.index-keys-at.result c.loop-at.invariant c.loop-at-test.true c.index-keys-at.is (λ e. let f = c.if-is_same.ensures.1 e in cc)
