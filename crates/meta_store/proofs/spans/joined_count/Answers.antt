use Rattle.std.proofs.Common.{ap, ◌∙◌, length, get_or, arith}
use Rattle.std.specs.Prelude.{map}
use Rattle.std.proofs.lemmas.List.{length-map}
use Rattle.source_checkpoint.specs.Deltas.{range_of}
use Rattle.split_states.specs.Rows.{row_at, row_spans}
use Rattle.meta_store.proofs.Retiring.{spans_long}
use Rattle.meta_store.proofs.Steps.{sum_held}
use Rattle.meta_store.proofs.spans.joined_count.Goals as goal

pub loop-number-preserved : goal.loop-number-preserved
loop-number-preserved c =
    let long = spans_long c.args.rows.now.list c.args.numbers.now c.loop-number.number-index c.loop-number-test.true in
    let count = c.span_count.ensures ∙ ap (λ o. length (map range_of (row_spans o))) c.get.ensures ∙ length-map (row_spans (row_at c.args.rows.now.list (get_or c.args.numbers.now c.loop-number.number-index 0))) range_of in
    let more = sum_held c.checked_add.result _ _ c.in-Some.more c.checked_add.ensures c.in-Some.is in
    omega (arith, long, count, more, c.loop-number.invariant)
