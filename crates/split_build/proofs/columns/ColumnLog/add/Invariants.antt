use Rattle.std.proofs.Common.{◌≡◌, ◌++◌, List, length}
use Rattle.doc_value.specs.Documents.{values_in}
use Rattle.fast_fields.specs.Columns.{Cell, cells_of}
use Rattle.split_build.specs.HeldColumns.{HasCells, texts_of}
use Rattle.split_build.proofs.OnWay.{IsOnWay}
use Rattle.split_build.proofs.columns.ColumnLog.add.Given as goal

abbrev pub invariant-loop-value : goal.invariant-loop-value
invariant-loop-value l = record {
  number : l.self.number ≡ l.fn.self.number;
  cells : (cs : List Cell) → HasCells (texts_of l.fn.self.texts.keys) l.document cs l.fn.self.entries.items
      → IsOnWay {X = Cell} (λ ds. HasCells (texts_of l.self.texts.keys) l.document ds l.self.entries.items) (cells_of l.document l.rest) (cs ++ cells_of l.document (values_in l.doc l.fn.self.number));
}

abbrev pub decreases-loop-value : goal.decreases-loop-value
decreases-loop-value l = length l.rest
