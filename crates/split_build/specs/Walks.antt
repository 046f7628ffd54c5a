-- What is added to the lists of keys.
use Rattle.std.specs.Prelude.{◌≡◌, ℕ, ◌^◌, ◌<◌, Bool, List, ◌++◌, length, ⊤}
use Rattle.std.specs.List.{AllByRecursion}
use Rattle.doc_value.specs.declared.schema.Schema.{Schema}
use Rattle.doc_value.specs.declared.doc.DocField.{DocField}
use Rattle.doc_value.specs.declared.doc.Value.{Value}
use Rattle.doc_value.specs.declared.doc.Value.TheVariants as values
use Rattle.doc_value.specs.Documents.{values_in}
use Rattle.split_bundle.specs.Keys.{field_key}
use Rattle.split_bundle.specs.Lists.{keeps_places}
use Rattle.split_build.specs.declared.terms.TermLog.{TermLog}
use Rattle.split_build.specs.Said.{Said}
use Rattle.split_build.specs.HeldTerms.{HasSaid}

-- these occurrences were added behind those that were held
abbrev pub Adds : TermLog → TermLog → Schema → List Said → Type 0
Adds old new s more = (log : List Said) → HasSaid old s log → HasSaid new s (log ++ more)

-- the keys of a field keep places, or do not
abbrev pub IsKept : Schema → ℕ → Bool → Type 0
IsKept s number kept = (term : List ℕ) → kept ≡ keeps_places s (field_key number term)

-- a text whose tokens have positions below 2 ^ 32
abbrev pub IsShort : Value → Type 0
IsShort (values.Text t) = length t < 2 ^ 32
IsShort _ = ⊤

-- values whose places are below 2 ^ 32
pub record AreShort (vs : List Value) : Type 0 where
  pub each : AllByRecursion IsShort vs
  pub few : length vs < 2 ^ 32

abbrev pub IsShortDoc : List DocField → Type 0
IsShortDoc doc = (number : ℕ) → AreShort (values_in doc number)
