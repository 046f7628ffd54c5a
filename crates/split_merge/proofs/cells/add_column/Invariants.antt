use Rattle.std.proofs.Common.{◌≡◌, ◌++◌, ◌∷◌, [], List, length}
use Rattle.split_bundle.specs.declared.placed.Placed.{Placed}
use Rattle.split_bundle.specs.Columns.{FastField}
use Rattle.split_build.proofs.Zipped.{Partly}
use Rattle.split_merge.specs.Facts.{HasColumnOf, HaveColumns}
use Rattle.split_merge.specs.Lent.{Gains, value_of}
use Rattle.split_merge.proofs.cells.add_column.Given as goal

abbrev pub invariant-loop-i : goal.invariant-loop-i
invariant-loop-i l = record {
  size : length l.logs.items ≡ l.i-end;
  logs : (fields : List FastField) (documents : List Placed) (d e : Placed) → l.document ≡ length documents → Gains l.number (value_of l.value) d.doc e.doc → HaveColumns (documents ++ d ∷ []) fields l.fn.logs.items
      → Partly (HasColumnOf (documents ++ e ∷ [])) (HasColumnOf (documents ++ d ∷ [])) l.i fields l.logs.items;
}
