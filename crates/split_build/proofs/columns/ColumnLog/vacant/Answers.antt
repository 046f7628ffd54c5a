use Rattle.std.proofs.Common.{ap}
use Rattle.split_build.specs.HeldColumns.{texts_of}
use Rattle.split_build.proofs.CellLemmas.{no_cells}
use Rattle.split_build.proofs.columns.ColumnLog.vacant.Goals as goal

pub returns-clause-cells : goal.returns-clause-cells
returns-clause-cells c = no_cells (texts_of c.new.result.keys) c.new-2.result.items (ap texts_of c.new.ensures.empty) c.new-2.ensures.items
