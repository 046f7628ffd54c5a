-- How much text a document has.
use Rattle.std.specs.Prelude.{ℕ, suc, ◌+◌, List, [], ◌∷◌, length, Option, if◌then◌else◌}
use Rattle.doc_value.specs.declared.doc.Value.{Value}
use Rattle.doc_value.specs.declared.doc.Value.TheVariants as values
use Rattle.doc_value.specs.declared.doc.DocField.{DocField}
use Rattle.dynamic_paths.specs.Leaves.{is_number}

-- the bytes of a text, and one more for the text itself
abbrev pub value_size : Value → ℕ
value_size (values.Text t) = suc (length t)
value_size (values.I64 n) = 0
value_size (values.U64 n) = 0
value_size (values.Bool b) = 0
value_size (values.Datetime s) = 0

abbrev pub values_size : List Value → ℕ
values_size [] = 0
values_size (v ∷ vs) = value_size v + values_size vs

abbrev pub doc_size : List DocField → ℕ
doc_size [] = 0
doc_size (part ∷ parts) = values_size part.values + doc_size parts

-- the same of a document's fields but the one of that number
abbrev pub mapped_size : Option ℕ → List DocField → ℕ
mapped_size o [] = 0
mapped_size o (part ∷ parts) = (if is_number o part.number then 0 else values_size part.values) + mapped_size o parts

-- what a document can have of the leaves of a record: 65,536 texts of at most 255 bytes
abbrev pub max_leaf_size : ℕ
max_leaf_size = 16777216
