use Rattle.std.proofs.Common.{◌<◌, length, arith}
use Rattle.doc_sets.proofs.Columned.{block_behind}
use Rattle.doc_sets.proofs.value_columns.begun_blocks.Goals as goal

pub loop-number-preserved : goal.loop-number-preserved
loop-number-preserved c =
    let i = c.loop-number.invariant in
    let prefix = c.args.prefix.now in
    let lt : c.loop-number.number < length c.args.index.now = omega (arith, c.loop-number-test.true, c.len-number-end.ensures) in
    let step = block_behind prefix c.args.index.now c.loop-number.number c.at.result.now lt c.at.ensures in
    record {
      few = omega (arith, i.few, c.begun_by-begun.ensures.few);
      rest = omega (arith, i.rest, step, c.begun_by-begun.ensures.exact);
    }
