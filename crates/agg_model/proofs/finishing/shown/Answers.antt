use Rattle.std.proofs.Common.{refl}
use Rattle.std.proofs.lemmas.List.Sorted.{IsPermutation-refl}
use Rattle.std.proofs.lemmas.Option.{IfSome_then}
use Rattle.std.specs.Map.{keys_of}
use Rattle.agg_model.specs.Counting.{step_count}
use Rattle.agg_model.specs.Listed.{all_listed}
use Rattle.agg_model.specs.Partials.{in_step, interval_of, offset_of}
use Rattle.agg_model.specs.Spans.{steps_shown}
use Rattle.agg_model.proofs.Intervals.{at_least_one}
use Rattle.agg_model.proofs.Listing.{listed_counted}
use Rattle.agg_model.proofs.Rising.{rising_keys, steps_are_shown}
use Rattle.agg_model.proofs.finishing.shown.Goals as goal

pub spread_of-requires : goal.spread_of-requires
spread_of-requires c = (
  interval_of c.args.agg.now,
  offset_of c.args.agg.now,
  at_least_one c.args.agg.now c.requires.interval,
  λ z. IfSome_then (in_step c.args.counts.now z) (c.requires.part.1.steps z) (λ n h. h.place),
)

pub returns-in-Terms-clause-has : goal.returns-in-Terms-clause-has
returns-in-Terms-clause-has c =
    rw c.in-Terms.is (λ ds stands. (
      all_listed c.args.counts.now,
      listed_counted c.requires.part.0 c.in-Terms.field c.in-Terms.size c.args.counts.now ds (all_listed c.args.counts.now) c.values_of.ensures.unique c.requires.part.1.tallies stands
          (IsPermutation-refl (all_listed c.args.counts.now)),
      refl,
    ))

pub returns-in-Histogram-default-default-default-eq0-default-clause-has : goal.returns-in-Histogram-default-default-default-eq0-default-clause-has
returns-in-Histogram-default-default-default-eq0-default-clause-has c =
    rw c.in-Histogram-default-default-default-eq0-default.is (λ ds stands. (
      steps_shown c.in-Histogram-default-default-default-eq0-default.min_doc_count c.args.counts.now.steps.entries,
      steps_are_shown c.in-Histogram-default-default-default-eq0-default.min_doc_count (step_count c.in-Histogram-default-default-default-eq0-default.field c.in-Histogram-default-default-default-eq0-default.interval c.in-Histogram-default-default-default-eq0-default.offset ds) c.args.counts.now.steps.entries
          (rising_keys (keys_of c.args.counts.now.steps.entries) c.spread_of.ensures.ordered) stands
          (λ s. IfSome_then (in_step c.args.counts.now s) (c.requires.part.1.steps s) (λ n h. h.some)),
      refl,
    ))

pub returns-in-Histogram-clause-has : goal.returns-in-Histogram-clause-has
returns-in-Histogram-clause-has c =
    rw c.in-Histogram.is (λ ds stands. (
      steps_shown c.in-Histogram.min_doc_count c.args.counts.now.steps.entries,
      steps_are_shown c.in-Histogram.min_doc_count (step_count c.in-Histogram.field c.in-Histogram.interval c.in-Histogram.offset ds) c.args.counts.now.steps.entries
          (rising_keys (keys_of c.args.counts.now.steps.entries) c.frequent_of.ensures.ordered) stands
          (λ s. IfSome_then (in_step c.args.counts.now s) (c.requires.part.1.steps s) (λ n h. h.some)),
      refl,
    ))
