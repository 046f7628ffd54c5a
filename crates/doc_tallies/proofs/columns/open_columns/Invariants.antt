use Rattle.std.proofs.Common.{List, take}
use Rattle.std.specs.List.{All}
use Rattle.split_bundle.specs.Files.{Parts}
use Rattle.split_bundle.specs.Lending.{IsPartOf}
use Rattle.split_bundle.specs.declared.placed.Placed.{Placed}
use Rattle.doc_tallies.specs.AggColumns.{AreColumnsFor}
use Rattle.doc_tallies.specs.Cells.{IsFast}
use Rattle.doc_tallies.proofs.columns.open_columns.Given as goal

abbrev pub invariant-loop-number : goal.invariant-loop-number
invariant-loop-number l =
    (documents : List Placed) (p : Parts) → IsPartOf l.view l.schema documents p → All (IsFast l.schema) l.fields → AreColumnsFor l.schema documents (take l.number-index l.fields) l.columns.items
