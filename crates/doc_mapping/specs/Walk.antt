-- What one walk over a record's keys gathers: for each field the values that stand at its path.
use Rattle.std.specs.Prelude.{◌≡◌, ◌≢◌, ◌⊎◌, ℕ, suc, true, false, ◌≤◌, List, [], ◌∷◌, ◌++◌, slice_get, Option, Some, None, Result, Ok, Err, ℤ}
use Rattle.serde_json.specs.Data.{Data, object, Items, Members}
use Rattle.serde_json.specs.Find.{as_str}
use Rattle.doc_value.specs.declared.schema.Field.{Field}
use Rattle.doc_value.specs.declared.schema.Schema.{Schema}
use Rattle.doc_value.specs.declared.schema.Kind.{Kind}
use Rattle.doc_value.specs.declared.schema.Kind.TheVariants as kinds
use Rattle.doc_value.specs.declared.doc.Value.{Value}
use Rattle.doc_value.specs.declared.doc.DocField.{DocField}
use Rattle.doc_value.specs.Documents.{PathsRise}
use Rattle.doc_value.specs.Printed.{names_of}
use Rattle.index_config.specs.Accepted.{BeginPlain}
use Rattle.index_config.specs.declared.config.Formats.{Formats}
use Rattle.doc_mapping.specs.declared.misfit.Misfit.{Misfit}
use Rattle.doc_mapping.specs.declared.misfit.Misfit.TheVariants as misfits
use Rattle.doc_mapping.specs.declared.reject.Reject.{Reject}
use Rattle.doc_mapping.specs.declared.reject.Reject.TheVariants.{WrongType, BadDate}
use Rattle.doc_mapping.specs.Documents.{value_at, second_of, texts_in, values_of, found_values}
use Rattle.doc_mapping.specs.Faults.{under, has_dot, mapped_at, i64_of, u64_of, all_texts, date_fault, value_fault}
use Rattle.doc_mapping.specs.Held.{values_at}

-- the paths of the fields rise, and none begins with a dot
abbrev pub AreRegular : List Field → Type 0
AreRegular fields = PathsRise fields × BeginPlain fields

-- no path of a field has a dot
abbrev pub AreFlat : List Field → Type 0
AreFlat fields = (n : ℕ) (f : Field) → slice_get fields n ≡ Some f → has_dot f.path ≡ false

-- the refusal of a value that doesn't fit, at its path
abbrev pub refusal_at : List ℕ → Misfit → Reject
refusal_at path misfits.WrongType = WrongType path
refusal_at path misfits.BadDate = BadDate path

-- the values of what fits a field, or its refusal
abbrev pub Fits : Kind → Formats → Data → Result (List Value) Misfit → Type 0
Fits kind formats d (Ok vs) = ((path : List ℕ) → value_fault kind formats path d ≡ None) × (vs ≡ values_of kind d)
Fits kind formats d (Err misfit) = (path : List ℕ) → value_fault kind formats path d ≡ Some (refusal_at path misfit)

-- the second of what fits a datetime field, or its refusal
abbrev pub FitsSecond : Formats → Data → Result ℤ Misfit → Type 0
FitsSecond formats d (Ok second) =
    ((path : List ℕ) → date_fault formats path (as_str d) (i64_of d) (u64_of d) ≡ None) × (second_of (as_str d) (i64_of d) ≡ Some second)
FitsSecond formats d (Err misfit) = (path : List ℕ) → date_fault formats path (as_str d) (i64_of d) (u64_of d) ≡ Some (refusal_at path misfit)

-- the texts of an array of strings, or that it has another item
abbrev pub FitsTexts : Items → Result (List Value) Misfit → Type 0
FitsTexts ds (Ok vs) = (all_texts ds ≡ true) × (vs ≡ texts_in ds)
FitsTexts ds (Err misfit) = (all_texts ds ≡ false) × (misfit ≡ misfits.WrongType)

-- a kind whose values are whole numbers or truth values
abbrev pub IsPlain : Kind → Type 0
IsPlain kinds.I64 = Unit {0}
IsPlain kinds.U64 = Unit {0}
IsPlain kinds.Bool = Unit {0}
IsPlain kinds.Text = ⊥
IsPlain kinds.Datetime = ⊥
IsPlain kinds.TextList = ⊥

-- a document's parts from a number on: their numbers rise, and each has values
abbrev pub RiseFrom : ℕ → List DocField → Type 0
RiseFrom least [] = Unit {0}
RiseFrom least (part ∷ parts) = (least ≤ part.number) × (part.values ≢ []) × RiseFrom (suc part.number) parts

-- parts with these values of a field more, of which they had none
pub record Enters (number : ℕ) (values : List Value) (old new : List DocField) : Type 0 where
  pub rise : RiseFrom 0 new
  pub own : values_at new number ≡ values
  pub others : (n : ℕ) → n ≢ number → values_at new n ≡ values_at old n

-- the same, of what a value gives of the field's kind
abbrev pub HasEntered : List Field → ℕ → Data → List DocField → List DocField → Type 0
HasEntered fields number d old new = (f : Field) → slice_get fields number ≡ Some f → Enters number (values_of f.kind d) old new

-- a path is another one, or goes on behind it by these names
abbrev pub LiesAt : List ℕ → List (List ℕ) → List ℕ → Type 0
LiesAt at names path = ((names ≡ []) × (path ≡ at)) ⊎ ((rest : List ℕ) × ((names ≡ names_of rest) × (path ≡ at ++ 46 ∷ rest)))

-- no part is of a field that lies there
abbrev pub IsFree : Schema → List ℕ → List DocField → Type 0
IsFree schema at parts = (n : ℕ) (f : Field) (names : List (List ℕ)) → mapped_at schema n ≡ Some f → LiesAt at names f.path → values_at parts n ≡ []

-- parts with what a value at a path brings: of each field that lies there its values
pub record Brings (schema : Schema) (at : List ℕ) (d : Data) (old new : List DocField) : Type 0 where
  pub rise : RiseFrom 0 new
  pub own : (n : ℕ) (f : Field) (names : List (List ℕ)) → mapped_at schema n ≡ Some f → LiesAt at names f.path
      → values_at new n ≡ found_values f.kind (value_at names d)
  pub others : (n : ℕ) → ((f : Field) (names : List (List ℕ)) → mapped_at schema n ≡ Some f → LiesAt at names f.path → ⊥)
      → values_at new n ≡ values_at old n

-- the same, of regular fields and of parts that rise and have nothing yet of what lies there
abbrev pub Gathers : Schema → List ℕ → Data → List DocField → List DocField → Type 0
Gathers schema at d old new = AreRegular schema.fields → RiseFrom 0 old → IsFree schema at old → Brings schema at d old new

-- the way to a field goes by this key of the object at a path, and then by these names
abbrev pub GoesBy : Schema → List ℕ → List ℕ → List (List ℕ) → ℕ → Field → Type 0
GoesBy schema prefix key names n f = (has_dot key ≡ false) × (mapped_at schema n ≡ Some f) × LiesAt (under prefix key) names f.path

abbrev pub AreFree : Schema → List ℕ → List DocField → Type 0
AreFree schema prefix parts = (key : List ℕ) (n : ℕ) (f : Field) (names : List (List ℕ)) → GoesBy schema prefix key names n f → values_at parts n ≡ []

-- parts with what the members of an object bring
pub record BringAll (schema : Schema) (prefix : List ℕ) (ms : Members) (old new : List DocField) : Type 0 where
  pub rise : RiseFrom 0 new
  pub own : (key : List ℕ) (n : ℕ) (f : Field) (names : List (List ℕ)) → GoesBy schema prefix key names n f
      → values_at new n ≡ found_values f.kind (value_at (key ∷ names) (object ms))
  pub others : (n : ℕ) → ((key : List ℕ) (f : Field) (names : List (List ℕ)) → GoesBy schema prefix key names n f → ⊥)
      → values_at new n ≡ values_at old n

abbrev pub GatherAll : Schema → List ℕ → Members → List DocField → List DocField → Type 0
GatherAll schema prefix ms old new = AreRegular schema.fields → RiseFrom 0 old → AreFree schema prefix old → BringAll schema prefix ms old new

-- the same, of a value where an object is asked
abbrev pub GatherInner : Schema → List ℕ → Option Members → List DocField → List DocField → Type 0
GatherInner schema path None old new = new ≡ old
GatherInner schema path (Some ms) old new = GatherAll schema path ms old new
