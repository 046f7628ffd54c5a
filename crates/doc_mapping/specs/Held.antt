-- What a record that was accepted holds at the paths of the schema.
use Rattle.std.specs.Prelude.{◌≡◌, ◌⊎◌, ℕ, ◌==◌, Bool, true, false, List, [], ◌∷◌, ◌++◌, slice_get, Option, Some, None, ℤ, if◌then◌else◌}
use Rattle.serde_json.specs.Data.{Num, Data, null, boolean, number, string, array, object, Items, no_items, item}
use Rattle.serde_json.specs.Find.{as_i64, as_u64}
use Rattle.clock_time.specs.Datetimes.{rfc3339_seconds, unix_seconds}
use Rattle.doc_value.specs.declared.schema.Field.{Field}
use Rattle.doc_value.specs.declared.schema.Kind.{Kind}
use Rattle.doc_value.specs.declared.schema.Kind.TheVariants as kinds
use Rattle.doc_value.specs.declared.doc.Value.{Value}
use Rattle.doc_value.specs.declared.doc.Value.TheVariants as values
use Rattle.doc_value.specs.declared.doc.DocField.{DocField}
use Rattle.doc_value.specs.declared.schema.Schema.{Schema}
use Rattle.doc_value.specs.Printed.{names_of}
use Rattle.index_config.specs.declared.config.Mode.TheVariants.{Strict}
use Rattle.index_config.specs.declared.config.Formats.{Formats}
use Rattle.index_config.specs.declared.config.IndexConfig.{IndexConfig}
use Rattle.doc_mapping.specs.Documents.{value_at, leaf_values}
use Rattle.doc_mapping.specs.Faults.{under, formats_at, has_dot, mapped_at, number_of_mapped}

-- the document's values of a field
abbrev pub values_at : List DocField → ℕ → List Value
values_at [] n = []
values_at (part ∷ parts) n = if part.number == n then part.values else values_at parts n

-- an array of strings that is this list of texts
abbrev pub AreTexts : Items → List Value → Type 0
AreTexts no_items vs = vs ≡ []
AreTexts (item d ds) vs = (t : List ℕ) × (us : List Value) × ((d ≡ string t) × (vs ≡ values.Text t ∷ us) × AreTexts ds us)

-- a text or a whole number that is this second, spelled as the formats take it
abbrev pub IsSecond : Formats → Data → ℤ → Type 0
IsSecond formats d second =
    ((t : List ℕ) × ((formats.rfc3339 ≡ true) × (d ≡ string t) × (rfc3339_seconds t ≡ Some second)))
    ⊎ ((n : Num) × (z : ℤ) × ((formats.unix ≡ true) × (d ≡ number n) × (as_i64 n ≡ Some z) × (unix_seconds z ≡ Some second)))

-- a value of a record that is just these values of a field; an empty array is no value of a list
abbrev pub IsJust : Kind → Formats → Data → List Value → Type 0
IsJust kinds.Text formats d vs = (t : List ℕ) × ((d ≡ string t) × (vs ≡ values.Text t ∷ []))
IsJust kinds.I64 formats d vs = (n : Num) × (z : ℤ) × ((d ≡ number n) × (as_i64 n ≡ Some z) × (vs ≡ values.I64 z ∷ []))
IsJust kinds.U64 formats d vs = (n : Num) × (m : ℕ) × ((d ≡ number n) × (as_u64 n ≡ Some m) × (vs ≡ values.U64 m ∷ []))
IsJust kinds.Bool formats d vs = (b : Bool) × ((d ≡ boolean b) × (vs ≡ values.Bool b ∷ []))
IsJust kinds.Datetime formats d vs = (second : ℤ) × (IsSecond formats d second × (vs ≡ values.Datetime second ∷ []))
IsJust kinds.TextList formats d vs =
    ((t : List ℕ) × ((d ≡ string t) × (vs ≡ values.Text t ∷ []))) ⊎ ((ds : Items) × ((d ≡ array ds) × AreTexts ds vs))

-- at a field's path stands nothing, null, or just the document's values
abbrev pub Holds : Kind → Formats → Option Data → List Value → Type 0
Holds kind formats None vs = vs ≡ []
Holds kind formats (Some d) vs = ((d ≡ null) × (vs ≡ [])) ⊎ IsJust kind formats d vs

-- at an object's path stands nothing, null, or an object
abbrev pub HoldsObject : Option Data → Type 0
HoldsObject None = Unit {0}
HoldsObject (Some null) = Unit {0}
HoldsObject (Some (object ms)) = Unit {0}
HoldsObject (Some (boolean b)) = ⊥
HoldsObject (Some (number n)) = ⊥
HoldsObject (Some (string s)) = ⊥
HoldsObject (Some (array ds)) = ⊥

-- some mapped field lies in the object at this path, and none stands there itself
abbrev pub IsObjectAt : Schema → List ℕ → Type 0
IsObjectAt schema path = ((n : ℕ) × (f : Field) × (rest : List ℕ) × ((mapped_at schema n ≡ Some f) × (f.path ≡ path ++ 46 ∷ rest))) × (number_of_mapped schema path ≡ None)

-- the path that names behind a path make
abbrev pub path_from : List ℕ → List (List ℕ) → List ℕ
path_from path [] = path
path_from path (name ∷ names) = path_from (under path name) names

-- no name has a dot
abbrev pub ArePlain : List (List ℕ) → Type 0
ArePlain [] = Unit {0}
ArePlain (name ∷ names) = (has_dot name ≡ false) × ArePlain names

-- what stands behind these names in a record is at a mapped field's path, or in an object that some mapped field lies in
abbrev pub IsMapped : Schema → List (List ℕ) → Type 0
IsMapped schema names =
    ArePlain names
    × ((n : ℕ) × (f : Field) × ((mapped_at schema n ≡ Some f)
    × ((f.path ≡ path_from [] names) ⊎ ((rest : List ℕ) × (f.path ≡ path_from [] names ++ 46 ∷ rest)))))

-- A record holds a document: at each mapped field's path its values, at each object's an object, in strict mode nothing else, and
-- a field for what is not mapped has just the leaf texts that are kept.
pub record IsHeldBy (config : IndexConfig) (d : Data) (doc : List DocField) : Type 0 where
  pub mapped : (n : ℕ) (f : Field) → mapped_at config.schema n ≡ Some f
      → Holds f.kind (formats_at config.formats n) (value_at (names_of f.path) d) (values_at doc n)
  pub objects : (path : List ℕ) → IsObjectAt config.schema path → HoldsObject (value_at (names_of path) d)
  pub strict : config.mode ≡ Strict → (name : List ℕ) (names : List (List ℕ)) (e : Data) → value_at (name ∷ names) d ≡ Some e
      → IsMapped config.schema (name ∷ names)
  pub leaves : (n : ℕ) (f : Field) → config.schema.dynamic ≡ Some n → slice_get config.schema.fields n ≡ Some f → f.kind ≡ kinds.TextList
      → values_at doc n ≡ leaf_values config.schema d
