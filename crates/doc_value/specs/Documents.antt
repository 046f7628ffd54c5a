-- Which lists of fields are a schema, and which documents are of a schema.
use Rattle.std.specs.Prelude.{◌≡◌, ◌≢◌, ◌==◌, ℕ, suc, nat_eq, true, false, ◌<◌, ◌≤◌, List, [], ◌∷◌, ◌++◌, length, take, drop, slice_get, if◌then◌else◌, IfSome, MatchOption, Option, Some, None}
use Rattle.std.specs.Ordering.{nat_cmp}
use Rattle.std.specs.Str.{bytes_eq, IsUtf8}
use Rattle.std.specs.Cmp.Lexicographic.{slice_cmp}
use Rattle.std.specs.declared.cmp.Ordering.TheVariants.{Less}
use Rattle.doc_value.specs.declared.schema.Field.{Field}
use Rattle.doc_value.specs.declared.schema.Kind.{Kind}
use Rattle.doc_value.specs.declared.schema.Kind.TheVariants as kinds
use Rattle.doc_value.specs.declared.schema.Schema.{Schema}
use Rattle.doc_value.specs.declared.schema.Tokenizer.TheVariants as tokenizers
use Rattle.doc_value.specs.declared.doc.Value.{Value}
use Rattle.doc_value.specs.declared.doc.Value.TheVariants as values
use Rattle.doc_value.specs.declared.doc.DocField.{DocField}

-- a schema has at most so many fields
abbrev pub max_fields : ℕ
max_fields = 256

-- one path comes before another in byte order
abbrev pub IsBefore : List ℕ → List ℕ → Type 0
IsBefore a b = slice_cmp nat_cmp a b ≡ Less

-- each path comes before the next
abbrev pub PathsRise : List Field → Type 0
PathsRise [] = Unit {0}
PathsRise (f ∷ []) = Unit {0}
PathsRise (f ∷ g ∷ fs) = IsBefore f.path g.path × PathsRise (g ∷ fs)

-- each path is a text with at least one byte
abbrev pub AreNamed : List Field → Type 0
AreNamed fields = (n : ℕ) (f : Field) → slice_get fields n ≡ Some f → IsUtf8 f.path × (f.path ≢ [])

-- each of these is the number of a field
abbrev pub AreNumbers : List Field → List ℕ → Type 0
AreNumbers fields [] = Unit {0}
AreNumbers fields (n ∷ ns) = (n < length fields) × AreNumbers fields ns

-- the timestamp field is a fast field of datetimes
abbrev pub IsTimestamp : List Field → ℕ → Type 0
IsTimestamp fields number =
    MatchOption (slice_get fields number) ⊥ (λ f. (f.kind ≡ kinds.Datetime) × (f.fast ≡ true))

-- the field that holds what is not mapped: a list of texts, each one token, and no more than its terms is kept of it
abbrev pub IsDynamic : List Field → ℕ → Type 0
IsDynamic fields number = MatchOption (slice_get fields number) ⊥ (λ f.
    (f.kind ≡ kinds.TextList) × (f.tokenizer ≡ tokenizers.Raw) × (f.indexed ≡ true) × (f.fast ≡ false) × (f.tag ≡ false) × (f.positions ≡ false))

-- at most 256 fields whose paths rise in byte order, the number of a fast datetime field if there is a timestamp, and that of a
-- field for what is not mapped if there is one
pub record IsSchema (schema : Schema) : Type 0 where
  pub few : length schema.fields ≤ max_fields
  pub rise : PathsRise schema.fields
  pub timestamp : IfSome schema.timestamp (IsTimestamp schema.fields)
  pub dynamic : IfSome schema.dynamic (IsDynamic schema.fields)

-- the fields but the one of this number
abbrev pub but_one : Option ℕ → List Field → List Field
but_one None fields = fields
but_one (Some n) fields = take n fields ++ drop (suc n) fields

-- the fields that are mapped: all but the one that holds what is not
abbrev pub mapped_fields : Schema → List Field
mapped_fields schema = but_one schema.dynamic schema.fields

-- a number unless it is that one
abbrev pub but_number : Option ℕ → Option ℕ → Option ℕ
but_number o None = None
but_number None (Some n) = Some n
but_number (Some m) (Some n) = if nat_eq m n then None else Some n

-- a value is of its field's kind
abbrev pub IsOfKind : Kind → Value → Type 0
IsOfKind kinds.Text (values.Text t) = Unit {0}
IsOfKind kinds.TextList (values.Text t) = Unit {0}
IsOfKind kinds.I64 (values.I64 n) = Unit {0}
IsOfKind kinds.U64 (values.U64 n) = Unit {0}
IsOfKind kinds.Bool (values.Bool b) = Unit {0}
IsOfKind kinds.Datetime (values.Datetime s) = Unit {0}
IsOfKind _ _ = ⊥

abbrev pub AreOfKind : Kind → List Value → Type 0
AreOfKind kind [] = Unit {0}
AreOfKind kind (v ∷ vs) = IsOfKind kind v × AreOfKind kind vs

-- how many values a document may have of a field of this kind: lists of texts alone may have more than one
abbrev pub HasGoodCount : Kind → List Value → Type 0
HasGoodCount kinds.TextList vs = 0 < length vs
HasGoodCount _ vs = length vs ≡ 1

-- a field's values in a document: the field stands in the schema, and each value is of its kind
abbrev pub FitsField : List Field → DocField → Type 0
FitsField fields part =
    MatchOption (slice_get fields part.number) ⊥ (λ f. AreOfKind f.kind part.values × HasGoodCount f.kind part.values)

-- the document's fields stand in rising order of their numbers, from `least` on, and each fits
abbrev pub FitsFrom : List Field → ℕ → List DocField → Type 0
FitsFrom fields least [] = Unit {0}
FitsFrom fields least (part ∷ parts) =
    (least ≤ part.number) × FitsField fields part × FitsFrom fields (suc part.number) parts

-- a document is of a schema
abbrev pub IsOfSchema : Schema → List DocField → Type 0
IsOfSchema schema doc = FitsFrom schema.fields 0 doc

-- the number of the field with this path, where the first field has that number
abbrev pub number_from : ℕ → List Field → List ℕ → Option ℕ
number_from n [] path = None
number_from n (f ∷ fs) path = if bytes_eq f.path path then Some n else number_from (suc n) fs path

-- the number of the field with this path
abbrev pub number_of : List Field → List ℕ → Option ℕ
number_of fields path = number_from 0 fields path

-- a document's values of the field with this number
abbrev pub values_in : List DocField → ℕ → List Value
values_in [] number = []
values_in (f ∷ fs) number = if f.number == number then f.values else values_in fs number
