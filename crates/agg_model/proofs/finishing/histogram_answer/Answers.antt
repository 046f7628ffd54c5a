use Rattle.std.proofs.Common.{◌∙◌, ap, ℕ, arith, unwrap_or}
use Rattle.std.proofs.lemmas.Option.{IfSome_then}
use Rattle.std.specs.BTreeMap.{get}
use Rattle.std.specs.Map.{keys_of}
use Rattle.std.specs.Ordering.{int_cmp}
use Rattle.agg_model.specs.Answers.{step_bucket}
use Rattle.agg_model.specs.Spans.{spread, steps_with}
use Rattle.agg_model.proofs.Histograms.{map_same, entry_counts, kept_buckets}
use Rattle.agg_model.proofs.Rising.{rising_keys, every_shown, frequent_shown}
use Rattle.agg_model.proofs.finishing.histogram_answer.Goals as goal

pub returns-then-least-eq0 : goal.returns-then-least-eq0
returns-then-least-eq0 c = λ count same. record {
  steps = spread c.args.steps.now.entries;
  are = rw c.if-least-eq0.true (every_shown count c.args.steps.now.entries (rising_keys (keys_of c.args.steps.now.entries) c.len.ensures.ordered) same
      (λ s. IfSome_then (get int_cmp c.args.steps.now s) (c.requires.near.1 s) (λ n h. h.some)));
  given = c.in_ok-buckets.ensures
      ∙ map_same (step_bucket c.args.scale.now.interval c.args.scale.now.offset (λ s. unwrap_or (get int_cmp c.args.steps.now s) 0)) (step_bucket c.args.scale.now.interval c.args.scale.now.offset count)
      (λ z. ap (λ (n : ℕ). step_bucket c.args.scale.now.interval c.args.scale.now.offset (λ _. n) z) (same z)) (spread c.args.steps.now.entries);
}

pub returns : goal.returns
returns c = λ count same. record {
  steps = steps_with c.args.least c.args.steps.now.entries;
  are = frequent_shown count c.args.steps.now.entries (rising_keys (keys_of c.args.steps.now.entries) c.len.ensures.ordered) same
      (λ s. IfSome_then (get int_cmp c.args.steps.now s) (c.requires.near.1 s) (λ n h. h.some)) c.args.least (omega arith);
  given = c.in_ok-buckets-2.ensures
      ∙ kept_buckets c.args.scale.now.interval c.args.scale.now.offset c.args.least count c.args.steps.now.entries (entry_counts c.args.steps.now count c.len.ensures.ordered same);
}
