use Rattle.std.proofs.Common.{arith}
use Rattle.fast_fields.proofs.Grown.{row_count, no_cells}
use Rattle.fast_fields.proofs.entries.cell_count.Goals as goal

pub overflow_add-count : goal.overflow_add-count
overflow_add-count c = omega (arith, c.loop-row.invariant, c.requires, c.len-count.ensures, row_count c.in-Some.row.now c.loop-row.rest.now c.in-Some.behind.now c.in-Some.ensures.cases.0)

pub loop-row-preserved : goal.loop-row-preserved
loop-row-preserved c = omega (arith, c.loop-row.invariant, c.len-count.ensures, row_count c.in-Some.row.now c.loop-row.rest.now c.in-Some.behind.now c.in-Some.ensures.cases.0)

pub returns : goal.returns
returns c = omega (arith, c.loop-row.invariant, no_cells c.loop-row.rest.now c.in_default.ensures.cases)
