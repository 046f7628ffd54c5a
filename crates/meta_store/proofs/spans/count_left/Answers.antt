use Rattle.std.proofs.Common.{ap, ◌∙◌, length, get_or, arith}
use Rattle.std.specs.Prelude.{map}
use Rattle.std.proofs.lemmas.List.{length-map}
use Rattle.source_checkpoint.specs.Deltas.{range_of}
use Rattle.split_states.specs.Rows.{row_at, row_spans}
use Rattle.meta_store.proofs.Retiring.{spans_long}
use Rattle.meta_store.proofs.spans.count_left.Goals as goal

pub loop-number-preserved : goal.loop-number-preserved
loop-number-preserved c =
    let long = spans_long c.args.rows.now.list c.args.numbers.now c.loop-number.number-index c.loop-number-test.true in
    let count = c.span_count.ensures ∙ ap (λ o. length (map range_of (row_spans o))) c.get.ensures ∙ length-map (row_spans (row_at c.args.rows.now.list (get_or c.args.numbers.now c.loop-number.number-index 0))) range_of in
    omega (arith, long, count, c.saturating_sub-left.ensures, c.loop-number.invariant)
