-- Values that are lent, and what one more of them makes of a document.
use Rattle.std.specs.Prelude.{◌≡◌, ℕ, List, [], ◌∷◌, ◌++◌}
use Rattle.doc_value.specs.declared.doc.DocField.{DocField}
use Rattle.doc_value.specs.declared.doc.Value.{Value}
use Rattle.doc_value.specs.declared.doc.Value.TheVariants as values
use Rattle.doc_value.specs.Documents.{values_in}
use Rattle.split_merge.specs.declared.lent.LentValue.{LentValue}
use Rattle.split_merge.specs.declared.lent.LentValue.TheVariants as lent

abbrev pub value_of : LentValue → Value
value_of (lent.Text t) = values.Text t.now
value_of (lent.I64 z) = values.I64 z
value_of (lent.U64 n) = values.U64 n
value_of (lent.Bool b) = values.Bool b
value_of (lent.Datetime z) = values.Datetime z

-- a document with one value more of the field with a number
pub record Gains (number : ℕ) (v : Value) (old new : List DocField) : Type 0 where
  pub here : values_in new number ≡ values_in old number ++ v ∷ []
  pub other : (n : ℕ) → (n ≡ number → ⊥) → values_in new n ≡ values_in old n
