use Rattle.std.proofs.Common.{arith}
use Rattle.split_build.specs.HeldColumns.{texts_of}
use Rattle.split_build.proofs.CellLemmas.{cell_more}
use Rattle.split_merge.specs.Lent.{value_of}
use Rattle.split_merge.proofs.cells.add_cell.Goals as goal

pub returns-clause-cells : goal.returns-clause-cells
returns-clause-cells c = λ cs h.
    cell_more (texts_of c.args.log.now.texts.keys) (texts_of c.number_of.new.texts.keys) c.args.document c.in_ok-number.number cs (value_of c.args.value) c.args.log.now.entries.items c.push.new.self.items c.in_ok-number.ensures c.in_ok-push.ensures.items (omega arith) h
