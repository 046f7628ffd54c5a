use Rattle.std.proofs.Common.{◌≡◌, ◌++◌, ◌∷◌, [], List, length}
use Rattle.doc_value.specs.declared.schema.Schema.{Schema}
use Rattle.split_bundle.specs.declared.placed.Placed.{Placed}
use Rattle.split_bundle.specs.Columns.{fast_fields}
use Rattle.split_build.specs.HeldColumns.{HasColumns, HasRows}
use Rattle.split_build.proofs.Zipped.{Partly}
use Rattle.split_build.proofs.column_parts.add_columns.Given as goal

abbrev pub invariant-loop-i : goal.invariant-loop-i
invariant-loop-i l = record {
  size : length l.logs.items ≡ l.i-end;
  logs : (s : Schema) (documents : List Placed) → l.document ≡ length documents → HasColumns documents (fast_fields s) l.fn.logs.items
      → Partly (HasRows (documents ++ l.placed ∷ [])) (HasRows documents) l.i (fast_fields s) l.logs.items;
}
