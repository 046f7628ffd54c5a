-- The keys that a document says, each with the places where it stands.
use Rattle.std.specs.Prelude.{ℕ, suc, ◌+◌, ◌*◌, ◌/◌, ◌%◌, ◌^◌, List, [], ◌∷◌, ◌++◌, if◌then◌else◌}
use Rattle.doc_value.specs.declared.schema.Field.{Field}
use Rattle.doc_value.specs.declared.schema.Schema.{Schema}
use Rattle.doc_value.specs.declared.doc.Value.{Value}
use Rattle.doc_value.specs.declared.doc.Value.TheVariants as values
use Rattle.doc_value.specs.declared.doc.DocField.{DocField}
use Rattle.doc_value.specs.Terms.{term_bytes}
use Rattle.text_tokens.specs.declared.tokens.Token.{Token}
use Rattle.query_ast.specs.FieldTokens.{field_tokens}
use Rattle.doc_value.specs.Documents.{values_in}

-- a key, and a place where it stands in a document: a value's place among the values of its field, times 2^32, and a
-- token's position in that value
pub record Occurrence : Type 0 where
  pub key : List ℕ
  pub place : ℕ

-- the key of a term of a field: the field's number in two bytes, the high one first, and the term's bytes
abbrev pub field_key : ℕ → List ℕ → List ℕ
field_key number term = (number / 256) ∷ (number % 256) ∷ term

-- the key of the documents that have a value of a field
abbrev pub presence_key : ℕ → List ℕ
presence_key number = 255 ∷ 255 ∷ (number / 256) ∷ (number % 256) ∷ []

abbrev pub value_place : ℕ → ℕ → ℕ
value_place place position = place * 2 ^ 32 + position

-- the tokens of a value, each with its key
abbrev pub of_tokens : ℕ → ℕ → List Token → List Occurrence
of_tokens number place [] = []
of_tokens number place (t ∷ ts) = record { key = field_key number t.text; place = value_place place t.position } ∷ of_tokens number place ts

-- what a value at a place among its field's values gives
abbrev pub of_value : Field → ℕ → ℕ → Value → List Occurrence
of_value f number place (values.Text s) = of_tokens number place (field_tokens f s)
of_value f number place v = record { key = field_key number (term_bytes v); place = value_place place 0 } ∷ []

abbrev pub of_values : Field → ℕ → ℕ → List Value → List Occurrence
of_values f number place [] = []
of_values f number place (v ∷ vs) = of_value f number place v ++ of_values f number (suc place) vs

-- that there is a value
abbrev pub of_presence : ℕ → List Value → List Occurrence
of_presence number [] = []
of_presence number (v ∷ vs) = record { key = presence_key number; place = 0 } ∷ []

-- only indexed fields have keys
abbrev pub of_field : Field → ℕ → List Value → List Occurrence
of_field f number vs = if f.indexed then of_presence number vs ++ of_values f number 0 vs else []

-- the keys of a document by the fields of a schema, of which the first has that number
abbrev pub of_fields : List Field → ℕ → List DocField → List Occurrence
of_fields [] number d = []
of_fields (f ∷ fs) number d = of_field f number (values_in d number) ++ of_fields fs (suc number) d

abbrev pub keys_of : Schema → List DocField → List Occurrence
keys_of s d = of_fields s.fields 0 d
