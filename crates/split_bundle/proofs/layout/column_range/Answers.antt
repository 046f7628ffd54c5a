use Rattle.std.proofs.Common.{arith}
use Rattle.split_bundle.specs.Reading.{column_among}
use Rattle.split_bundle.proofs.Walks.{columns_end, columns_more, columns_found, columns_found_fault, columns_fault}
use Rattle.split_bundle.proofs.layout.column_range.Goals as goal

pub returns-in-Ok-column_end : goal.returns-in-Ok-column_end
returns-in-Ok-column_end c =
    columns_found c.args.bytes.now c.args.table.count c.loop-passed.passed c.loop-passed.at c.args.number c.args.size (column_among c.args.table.count c.args.number c.args.size c.args.bytes.now c.args.table.at) c.loop-passed.invariant.so_far c.in-Ok.column c.in-Ok.next c.in-Ok-column_end.end (omega arith) c.in-Ok.ensures.exact c.if-column-number.true c.in-Ok-column_end.ensures

pub returns-in-Err-column_end : goal.returns-in-Err-column_end
returns-in-Err-column_end c =
    columns_found_fault c.args.bytes.now c.args.table.count c.loop-passed.passed c.loop-passed.at c.args.number c.args.size (column_among c.args.table.count c.args.number c.args.size c.args.bytes.now c.args.table.at) c.loop-passed.invariant.so_far c.in-Ok.column c.in-Ok.next c.in-Err-column_end.fault (omega arith) c.in-Ok.ensures.exact c.if-column-number.true c.in-Err-column_end.ensures

pub returns-in-Err : goal.returns-in-Err
returns-in-Err c =
    columns_fault c.args.bytes.now c.args.table.count c.loop-passed.passed c.loop-passed.at c.args.number c.args.size (column_among c.args.table.count c.args.number c.args.size c.args.bytes.now c.args.table.at) c.loop-passed.invariant.so_far c.in-Err.fault (omega arith) c.in-Err.ensures.exact

pub loop-passed-preserved : goal.loop-passed-preserved
loop-passed-preserved c = record {
  so_far = columns_more c.args.bytes.now c.args.table.count c.loop-passed.passed c.loop-passed.at c.args.number c.args.size (column_among c.args.table.count c.args.number c.args.size c.args.bytes.now c.args.table.at) c.loop-passed.invariant.so_far c.in-Ok.column c.in-Ok.next (omega arith) c.in-Ok.ensures.exact c.if-column-number.false;
  within = c.in-Ok.ensures.within;
}

pub returns : goal.returns
returns c =
    columns_end c.args.bytes.now c.args.table.count c.loop-passed.passed c.loop-passed.at c.args.number c.args.size (column_among c.args.table.count c.args.number c.args.size c.args.bytes.now c.args.table.at) c.loop-passed.invariant.so_far (omega arith)
