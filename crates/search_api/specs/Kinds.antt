-- What stands at a key of a request: nothing, a value of the key's kind, or a refusal.
use Rattle.std.specs.Prelude.{ℕ, ◌==◌, ◌&&◌, nat_le, List, [], ◌∷◌, Option, Some, None, option_and_then, ℤ, Result, Ok, Err, if◌then◌else◌}
use Rattle.serde_json.specs.Data.{Data, Items, no_items, item}
use Rattle.serde_json.specs.Find.{as_number, as_str, as_array, as_i64, as_u64, as_integer, get}
use Rattle.search_api.specs.declared.request_error.RequestError.{RequestError}
use Rattle.search_api.specs.declared.request_error.RequestError.TheVariants.{WrongKind, MissingKey}

-- what the second answer is, once the first is there
infixl 10 ◌>>=◌
abbrev pub ◌>>=◌ : {A B E : Type 0} → Result A E → (A → Result B E) → Result B E
(Ok x) >>= f = f x
(Err e) >>= f = Err e

-- a whole number of 64 bits with a sign
abbrev pub second_of : Data → Option ℤ
second_of d = option_and_then as_i64 (as_number d)

-- a whole number of 64 bits, with a sign or without
abbrev pub whole_of : Data → Option ℤ
whole_of d = option_and_then as_integer (as_number d)

abbrev pub between : ℕ → ℕ → ℕ → Option ℕ
between low high n = if nat_le low n && nat_le n high then Some n else None

-- a whole number between two
abbrev pub count_of : ℕ → ℕ → Data → Option ℕ
count_of low high d = option_and_then (between low high) (option_and_then as_u64 (as_number d))

-- what lies between commas
abbrev pub onto_first : ℕ → List (List ℕ) → List (List ℕ)
onto_first c [] = (c ∷ []) ∷ []
onto_first c (part ∷ parts) = (c ∷ part) ∷ parts

abbrev pub cut : List ℕ → List (List ℕ)
cut [] = [] ∷ []
cut (c ∷ cs) = if c == 44 then [] ∷ cut cs else onto_first c (cut cs)

abbrev pub with_text : Option (List ℕ) → Option (List (List ℕ)) → Option (List (List ℕ))
with_text (Some t) (Some ts) = Some (t ∷ ts)
with_text (Some t) None = None
with_text None ts = None

-- a list of texts
abbrev pub texts_of : Items → Option (List (List ℕ))
texts_of no_items = Some []
texts_of (item d ds) = with_text (as_str d) (texts_of ds)

-- a text of paths between commas, or a list of texts
abbrev pub paths_in : Option (List ℕ) → Option Items → Option (List (List ℕ))
paths_in (Some text) items = Some (cut text)
paths_in None items = option_and_then texts_of items

abbrev pub paths_of : Data → Option (List (List ℕ))
paths_of d = paths_in (as_str d) (as_array d)

-- a value of its kind
abbrev pub of_kind : {A : Type 0} → List ℕ → Option A → Result (Option A) RequestError
of_kind name None = Err (WrongKind name)
of_kind name (Some x) = Ok (Some x)

abbrev pub kept : {A : Type 0} → List ℕ → (Data → Option A) → Option Data → Result (Option A) RequestError
kept name kind None = Ok None
kept name kind (Some d) = of_kind name (kind d)

-- what stands at a key
abbrev pub at : {A : Type 0} → List ℕ → (Data → Option A) → Data → Result (Option A) RequestError
at name kind d = kept name kind (get name d)

abbrev pub present : {A : Type 0} → List ℕ → Option A → Result A RequestError
present name None = Err (MissingKey name)
present name (Some x) = Ok x

-- what has to stand at a key
abbrev pub needed : {A : Type 0} → List ℕ → (Data → Option A) → Data → Result A RequestError
needed name kind d = at name kind d >>= present name
