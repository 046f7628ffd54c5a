-- What a row knows of values: the second of a datetime, and the terms of tag fields.
use Rattle.std.specs.Prelude.{ℕ, ℤ, suc, List, [], ◌∷◌, length, nat_le, if◌then◌else◌}
use Rattle.doc_value.specs.declared.doc.Value.{Value}
use Rattle.doc_value.specs.declared.doc.Value.TheVariants as values
use Rattle.doc_value.specs.declared.schema.Field.{Field}
use Rattle.doc_value.specs.Terms.{term_bytes}
use Rattle.text_tokens.specs.Tokens.{max_token}

-- the second of a datetime
abbrev pub second_of : Value → List ℤ
second_of (values.Datetime z) = z ∷ []
second_of (values.Text t) = []
second_of (values.I64 z) = []
second_of (values.U64 n) = []
second_of (values.Bool b) = []

-- a value's term, if it has one: a text of more than 255 bytes has none
abbrev pub value_term : Value → List (List ℕ)
value_term (values.Text t) = if nat_le (length t) max_token then t ∷ [] else []
value_term (values.I64 z) = term_bytes (values.I64 z) ∷ []
value_term (values.U64 n) = term_bytes (values.U64 n) ∷ []
value_term (values.Bool b) = term_bytes (values.Bool b) ∷ []
value_term (values.Datetime z) = term_bytes (values.Datetime z) ∷ []

-- so many distinct terms are listed of a field
abbrev pub max_tags : ℕ
max_tags = 100

-- the numbers of the tag fields, of which the first field has that number
abbrev pub tag_numbers : ℕ → List Field → List ℕ
tag_numbers number [] = []
tag_numbers number (f ∷ fs) = if f.tag then number ∷ tag_numbers (suc number) fs else tag_numbers (suc number) fs
