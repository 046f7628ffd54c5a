use Rattle.std.proofs.Common.{List, length}
use Rattle.split_bundle.specs.declared.placed.Placed.{Placed}
use Rattle.split_bundle.specs.Columns.{fast_fields}
use Rattle.split_bundle.specs.Splits.{AreDocumentsOf}
use Rattle.split_build.specs.HeldColumns.{HasColumns}
use Rattle.split_build.proofs.ColumnLemmas.{AreWritten}
use Rattle.split_build.proofs.column_parts.write_columns.Given as goal

abbrev pub invariant-loop-log : goal.invariant-loop-log
invariant-loop-log l = (documents : List Placed) → AreDocumentsOf l.schema documents → HasColumns documents (fast_fields l.schema) l.logs → AreWritten l.schema documents l.starts.items l.bytes.items l.rest

abbrev pub decreases-loop-log : goal.decreases-loop-log
decreases-loop-log l = length l.rest
