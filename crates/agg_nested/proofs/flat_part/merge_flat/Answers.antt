use Rattle.std.proofs.Common.{arith}
use Rattle.agg_nested.proofs.Flats.{metric_has_room, ranges_have_room, metrics_merged, ranges_merged, counts_merged, counts_other, metric_other, ranges_other, both_weaker}
use Rattle.agg_nested.proofs.flat_part.merge_flat.Goals as goal
use Rattle.agg_nested.proofs.flat_part.merge_flat.Goals.{in-Counted-Counted, in-Metric-Metric, in-Ranges-Ranges, in_default, in_default-2, in_default-3}

pub merge-requires-clause-mine : goal.merge-requires-clause-mine
merge-requires-clause-mine c =
    let few = c.requires.known.4 in
    metric_has_room c.args.agg.now c.in-Metric-Metric.metric c.requires.known.0 (rw c.in-Metric-Metric.is-0 at c.requires.known.2) (omega arith)

pub merge-requires-clause-yours : goal.merge-requires-clause-yours
merge-requires-clause-yours c =
    let few = c.requires.known.4 in
    metric_has_room c.args.agg.now c.in-Metric-Metric.other c.requires.known.1 (rw c.in-Metric-Metric.is-1 at c.requires.known.3) (omega arith)

pub merge_ranges-requires-clause-mine : goal.merge_ranges-requires-clause-mine
merge_ranges-requires-clause-mine c =
    let few = c.requires.known.4 in
    ranges_have_room c.args.agg.now c.in-Ranges-Ranges.counts c.requires.known.0 (rw c.in-Ranges-Ranges.is-0 at c.requires.known.2) (omega arith)

pub merge_ranges-requires-clause-yours : goal.merge_ranges-requires-clause-yours
merge_ranges-requires-clause-yours c =
    let few = c.requires.known.4 in
    rw c.as_slice.ensures (ranges_have_room c.args.agg.now c.in-Ranges-Ranges.others c.requires.known.1 (rw c.in-Ranges-Ranges.is-1 at c.requires.known.3) (omega arith))

pub returns : goal.returns
returns c = elim c.match-into.branch [
  | in-Counted-Counted w ↦ rw (w.result-is, w.into-is, w.in-Counted-Counted.is-0, w.in-Counted-Counted.is-1)
      (both_weaker w.merge_partials.result (counts_merged c.args.agg.now w.in-Counted-Counted.asked _ w.in-Counted-Counted.partial w.in-Counted-Counted.other w.merge_partials.new.into)
      w.merge_partials.ensures.partial w.merge_partials.ensures.stands)
  | in-Metric-Metric w ↦ rw (w.result-is, w.into-is, w.in-Metric-Metric.is-0, w.in-Metric-Metric.is-1)
      (metrics_merged c.args.agg.now w.in-Metric-Metric.metric w.in-Metric-Metric.other w.merge.new.self w.merge.ensures)
  | in-Ranges-Ranges w ↦ rw (w.result-is, w.into-is, w.in-Ranges-Ranges.is-0, w.in-Ranges-Ranges.is-1)
      (ranges_merged c.args.agg.now w.in-Ranges-Ranges.counts w.in-Ranges-Ranges.others w.merge_ranges.new.counts (rw w.as_slice.ensures at w.merge_ranges.ensures))
  | in_default w ↦ absurd (let o = counts_other c.args.agg.now _ _ c.args.other.now _ _ (rw w.in_default.is-0 at c.requires.known.2) c.requires.known.3 in w.in_default.not-Counted-1 o.0 o.1 o.2)
  | in_default-2 w ↦ absurd (let o = metric_other c.args.agg.now _ c.args.other.now _ _ (rw w.in_default.is-0 at c.requires.known.2) c.requires.known.3 in w.in_default.not-Metric-1 o.0 o.1)
  | in_default-3 w ↦ absurd (let o = ranges_other c.args.agg.now _ c.args.other.now _ _ (rw w.in_default.is-0 at c.requires.known.2) c.requires.known.3 in w.in_default.not-Ranges-1 o.0 o.1)
]
