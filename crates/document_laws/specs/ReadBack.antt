-- What the JSON that is printed of a document reads as.
use Rattle.std.specs.Prelude.{◌≡◌, ◌≢◌, ◌⊎◌, ℕ, ◌^◌, ◌<◌, ◌≤◌, false, List, [], ◌∷◌, ◌++◌, length, slice_get, MatchOption, Option, Some, None, ℤ, pos, negsuc}
use Rattle.json.specs.Json as json
use Rattle.json.specs.Lex.{tokens}
use Rattle.json.specs.Tree.{json_tokens}
use Rattle.serde_json.specs.Data.{Data, null, boolean, number, string, array, object, Items, no_items, item, Members, member, unsigned}
use Rattle.serde_json.specs.Find.{of_integer}
use Rattle.serde_json.specs.Read.{read}
use Rattle.doc_value.specs.Documents.{IsBefore}
use Rattle.doc_value.specs.Printed.{names_of, printed_doc}
use Rattle.doc_value.specs.declared.schema.Field.{Field}
use Rattle.doc_value.specs.declared.schema.Kind.{Kind}
use Rattle.doc_value.specs.declared.schema.Kind.TheVariants as kinds
use Rattle.doc_value.specs.declared.schema.Schema.{Schema}
use Rattle.doc_value.specs.declared.doc.Value.{Value}
use Rattle.doc_value.specs.declared.doc.Value.TheVariants as values
use Rattle.doc_value.specs.declared.doc.DocField.{DocField}
use Rattle.doc_mapping.specs.Documents.{value_at}
use Rattle.doc_mapping.specs.Faults.{has_dot}

-- ---- which documents

-- all of these names begin those
abbrev pub IsFront : List (List ℕ) → List (List ℕ) → Type 0
IsFront [] ms = Unit {0}
IsFront (n ∷ ns) [] = ⊥
IsFront (n ∷ ns) (m ∷ ms) = (n ≡ m) × IsFront ns ms

-- neither path is the other, nor lies in it
abbrev pub AreApart : List (List ℕ) → List (List ℕ) → Type 0
AreApart ns ms = (IsFront ns ms → ⊥) × (IsFront ms ns → ⊥)

abbrev pub IsApartFrom : List (List ℕ) → List (List (List ℕ)) → Type 0
IsApartFrom ns [] = Unit {0}
IsApartFrom ns (ms ∷ paths) = AreApart ns ms × IsApartFrom ns paths

-- no two of the paths are one, and none lies in another
abbrev pub AllApart : List (List (List ℕ)) → Type 0
AllApart [] = Unit {0}
AllApart (ns ∷ paths) = IsApartFrom ns paths × AllApart paths

-- a path has at most 126 names, so that an array at it lies in at most 126 objects
abbrev pub AreShort : List (List (List ℕ)) → Type 0
AreShort [] = Unit {0}
AreShort (ns ∷ paths) = (length ns ≤ 126) × AreShort paths

abbrev pub path_before : Option Field → List (List (List ℕ)) → List (List (List ℕ))
path_before None paths = paths
path_before (Some f) paths = names_of f.path ∷ paths

-- the paths of a document's fields, each as its names
abbrev pub paths_of : List Field → List DocField → List (List (List ℕ))
paths_of fields [] = []
paths_of fields (part ∷ parts) = path_before (slice_get fields part.number) (paths_of fields parts)

-- the path of a field for what is not mapped is one name, and no other field's path goes on behind it
abbrev pub IsBeside : Schema → Type 0
IsBeside schema = (n : ℕ) (f : Field) → schema.dynamic ≡ Some n → slice_get schema.fields n ≡ Some f
    → (has_dot f.path ≡ false) × ((m : ℕ) (g : Field) (rest : List ℕ) → slice_get schema.fields m ≡ Some g → g.path ≢ f.path ++ 46 ∷ rest)

-- a whole number of 64 bits with a sign
abbrev pub IsI64 : ℤ → Type 0
IsI64 (pos n) = n < 2 ^ 63
IsI64 (negsuc n) = n < 2 ^ 63

-- a number fits its type, as it does in memory
abbrev pub IsInType : Value → Type 0
IsInType (values.Text t) = Unit {0}
IsInType (values.I64 n) = IsI64 n
IsInType (values.U64 n) = n < 2 ^ 64
IsInType (values.Bool b) = Unit {0}
IsInType (values.Datetime s) = IsI64 s

abbrev pub AreInType : List Value → Type 0
AreInType [] = Unit {0}
AreInType (v ∷ vs) = IsInType v × AreInType vs

abbrev pub HasNumbers : List DocField → Type 0
HasNumbers [] = Unit {0}
HasNumbers (part ∷ parts) = AreInType part.values × HasNumbers parts

-- ---- keys

-- a key comes before the first of these members
abbrev pub IsBelow : List ℕ → json.Members → Type 0
IsBelow k json.no_members = Unit {0}
IsBelow k (json.member l j ms) = IsBefore k l

-- in each object each key comes before the next in byte order, so no key comes twice
abbrev mutual
  pub KeysRise : json.Json → Type 0
  KeysRise json.null = Unit {0}
  KeysRise (json.boolean b) = Unit {0}
  KeysRise (json.number s) = Unit {0}
  KeysRise (json.string s) = Unit {0}
  KeysRise (json.array js) = ItemKeysRise js
  KeysRise (json.object ms) = MemberKeysRise ms

  pub ItemKeysRise : json.Items → Type 0
  ItemKeysRise json.no_items = Unit {0}
  ItemKeysRise (json.item j js) = KeysRise j × ItemKeysRise js

  pub MemberKeysRise : json.Members → Type 0
  MemberKeysRise json.no_members = Unit {0}
  MemberKeysRise (json.member k j ms) = IsBelow k ms × KeysRise j × MemberKeysRise ms

-- a text's tokens are those of an object whose keys rise, as those of all objects in it
abbrev pub HasRisingKeys : List ℕ → Type 0
HasRisingKeys text = (ms : json.Members) × (tokens text ≡ json_tokens (json.object ms)) × MemberKeysRise ms

-- ---- values at their paths

-- a value in JSON; a datetime is its whole seconds
abbrev pub data_of : Value → Data
data_of (values.Text t) = string t
data_of (values.I64 n) = number (of_integer n)
data_of (values.U64 n) = number (unsigned n)
data_of (values.Bool b) = boolean b
data_of (values.Datetime s) = number (of_integer s)

abbrev pub items_of : List Value → Items
items_of [] = no_items
items_of (v ∷ vs) = item (data_of v) (items_of vs)

-- a field's one value; there is one in a document of a schema
abbrev pub only_of : List Value → Data
only_of [] = null
only_of (v ∷ vs) = data_of v

-- a field's values: a list of texts as an array, else the value
abbrev pub field_data : Kind → List Value → Data
field_data kinds.TextList vs = array (items_of vs)
field_data kinds.Text vs = only_of vs
field_data kinds.I64 vs = only_of vs
field_data kinds.U64 vs = only_of vs
field_data kinds.Bool vs = only_of vs
field_data kinds.Datetime vs = only_of vs

-- the field has this path, and these are its values
abbrev pub IsAt : List (List ℕ) → Data → List Value → Field → Type 0
IsAt names d vs f = (names_of f.path ≡ names) × (field_data f.kind vs ≡ d)

-- the document has a field with this path and these values
abbrev pub Has : List Field → List DocField → List (List ℕ) → Data → Type 0
Has fields [] names d = ⊥
Has fields (part ∷ parts) names d = MatchOption (slice_get fields part.number) ⊥ (IsAt names d part.values) ⊎ Has fields parts names d

-- no object, or an empty one
abbrev pub IsLeaf : Data → Type 0
IsLeaf (object (member k d ms)) = ⊥
IsLeaf _ = Unit {0}

-- a text reads as the object that has just the document's values, each at its path
pub record ReadsBack (schema : Schema) (doc : List DocField) : Type 0 where
  pub members : Members
  pub read : read (printed_doc schema doc) ≡ Some (object members)
  -- at the path of each of its fields stand the field's values
  pub has : (names : List (List ℕ)) (d : Data) → Has schema.fields doc names d → value_at names (object members) ≡ Some d
  -- and nothing else stands in the object but the objects on the way
  pub only : (name : List ℕ) (names : List (List ℕ)) (d : Data) → value_at (name ∷ names) (object members) ≡ Some d → IsLeaf d → Has schema.fields doc (name ∷ names) d
