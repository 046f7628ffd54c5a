use Rattle.std.proofs.Common.{[], arith}
use Rattle.agg_nested.specs.Spots.{spots_in}
use Rattle.agg_nested.proofs.Filled.{part_told}
use Rattle.agg_nested.proofs.NothingNested.{own_told, some_nested}
use Rattle.agg_nested.proofs.totals.count_part.Goals as goal

pub returns-then-is_empty : goal.returns-then-is_empty
returns-then-is_empty c = λ documents h.
    own_told c.args.asked.now documents c.in_ok-own.own (c.is_empty.ensures.0 c.if-is_empty.true) (omega arith) (c.in_ok-own.ensures documents h.flat)

pub returns : goal.returns
returns c = λ documents h.
    let vacant = rw c.as_slice.ensures at c.in_ok-vacant.ensures in
    let each = rw (c.as_slice-3.ensures, c.as_slice-4.ensures.value) at c.in_ok-each.ensures in
    part_told c.args.asked.now c.requires.step documents c.in_ok-own.own c.in_ok-inner.inner c.in_ok-each.each c.buckets_in.result c.saturating_sub-empty.result
    c.saturating_add.result c.saturating_mul.result c.saturating_add-2.result (spots_in c.in_ok-filled.filled)
    (c.in_ok-own.ensures documents h.flat) (c.in_ok-filled.ensures documents h.flat) (c.in_ok-inner.ensures documents (h.groups (some_nested c.is_empty.result c.args.asked.now.nested c.is_empty.ensures.1 c.if-is_empty.false))) (each [] vacant)
    c.buckets_in.ensures c.saturating_sub-empty.ensures c.saturating_add.ensures c.saturating_mul.ensures c.saturating_add-2.ensures

pub count_inner-requires-clause-known : goal.count_inner-requires-clause-known
count_inner-requires-clause-known c = (c.requires.known.0, c.requires.known.1.groups (some_nested c.is_empty.result c.args.asked.now.nested c.is_empty.ensures.1 c.if-is_empty.false), c.requires.known.2)
