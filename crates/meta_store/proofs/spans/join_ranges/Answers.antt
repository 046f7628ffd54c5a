use Rattle.std.proofs.Common.{◌≡◌, ◌+◌, ◌∙◌, suc, ap, sym, length, drop, arith}
use Rattle.std.specs.Prelude.{map}
use Rattle.std.proofs.Math.ListN.{drop_of_length-le}
use Rattle.source_checkpoint.specs.Deltas.{range_of}
use Rattle.meta_store.specs.Retired.{with_range, with_ranges}
use Rattle.meta_store.proofs.Retiring.{next_of, ranges_next}
use Rattle.meta_store.proofs.spans.join_ranges.Goals as goal

pub join_range-requires : goal.join_range-requires
join_range-requires c =
    let i = c.loop-span.span-index in
    let next : length (drop i c.args.spans.now) ≡ suc (length (drop (i + 1) c.args.spans.now)) = ap length (next_of c.args.spans.now i c.span-item.result c.loop-span-test.true c.span-item.is) in
    omega (arith, next, c.loop-span.invariant.left, c.loop-span.invariant.room, c.requires)

pub loop-span-preserved : goal.loop-span-preserved
loop-span-preserved c =
    let i = c.loop-span.span-index in
    let lt = c.loop-span-test.true in
    let spans = c.args.spans.now in
    let next : length (drop i spans) ≡ suc (length (drop (i + 1) spans)) = ap length (next_of spans i c.span-item.result lt c.span-item.is) in
    record {
      filled =
          ranges_next spans i c.span-item.result c.loop-span.ranges.items c.join_range.new.ranges.items lt c.span-item.is
          (c.join_range.ensures.items ∙ ap (λ r. with_range r c.loop-span.ranges.items) c.range.ensures)
          ∙ c.loop-span.invariant.filled;
      left = omega (arith, next, c.join_range.ensures.len, c.loop-span.invariant.left);
      room = omega (arith, c.join_range.ensures.room, c.loop-span.invariant.room);
    }

pub returns-clause-items : goal.returns-clause-items
returns-clause-items c =
    ap (λ l. with_ranges (map range_of l) c.loop-span.ranges.items) (sym (drop_of_length-le c.args.spans.now (omega arith)))
    ∙ c.loop-span.invariant.filled
