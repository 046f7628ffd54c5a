use Rattle.std.proofs.Common.{◌≡◌, ◌∙◌, ℕ, ℤ, nat_le, Some, true, ◌*ℤ◌, ◌<◌, ◌^◌}
use Rattle.std.proofs.lemmas.Bool.{le-leb}
use Rattle.std.proofs.lemmas.Map.Views.{All-turn}
use Rattle.std.proofs.lemmas.Option.{MatchOption-at_some}
use Rattle.std.specs.BTreeMap.{get}
use Rattle.std.specs.Int.RustNames.{unsigned_abs}
use Rattle.std.specs.Map.Iter.{deref_pair}
use Rattle.std.specs.Ordering.{int_cmp}
use Rattle.agg_model.specs.Answers.{step_bucket}
use Rattle.agg_model.proofs.Shown.{kept_push}
use Rattle.agg_model.proofs.histogram.frequent_steps.Goals as goal

pub step_bucket-requires : goal.step_bucket-requires
step_bucket-requires c =
    let found : get int_cmp c.args.steps.now c.in-Some.step.now ≡ Some c.in-Some.count.now =
    All-turn deref_pair (λ e. get int_cmp c.args.steps.now e.0 ≡ Some e.1) _ _ _ _ _ _ _ c.iter-step-items.ensures.found
    (c.into_iter-step-iterator.ensures.into_iter_gives ∙ c.iter-step-items.ensures.rest) c.loop-step.yielded_by c.in-Some.is c.next.ensures.steps in
    MatchOption-at_some (Unit {0}) (λ (n : ℕ). unsigned_abs (c.in-Some.step.now *ℤ c.args.scale.now.interval) < 2 ^ 98) c.in-Some.count.now found (c.requires c.in-Some.step.now)

pub loop-step-preserved-in-Continue-1 : goal.loop-step-preserved-in-Continue-1
loop-step-preserved-in-Continue-1 c =
    let low : nat_le c.args.least c.in-Some.count.now ≡ true = le-leb c.args.least c.in-Some.count.now (rw c.from.ensures at c.if-count-from.true) in
    kept_push (λ (e : ℤ × ℕ). step_bucket c.args.scale.now.interval c.args.scale.now.offset (λ _. e.1) e.0) (λ (e : ℤ × ℕ). nat_le c.args.least e.1) (c.in-Some.step.now, c.in-Some.count.now) c.next.new.self
    c.loop-step.buckets c.push.new.self _ c.step_bucket.result c.in_ok-push.ensures.ok low c.step_bucket.ensures (rw c.in-Some.ensures.steps at c.loop-step.invariant)
