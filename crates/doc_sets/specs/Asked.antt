-- What a query asks of the keys of a document.
use Rattle.std.specs.Prelude.{ℕ, nat_eq, nat_lt, suc, ◌<◌, ◌≤◌, ◌++◌, if◌then◌else◌, ◌+◌, ◌-◌, ◌==◌, Bool, true, false, ◌&&◌, ◌||◌, List, [], ◌∷◌}
use Rattle.text_tokens.specs.declared.tokens.Token.{Token}
use Rattle.std.specs.Str.{bytes_eq}
use Rattle.std.specs.List.{AllByRecursion, starts_with}
use Rattle.doc_value.specs.declared.schema.Field.{Field}
use Rattle.doc_value.specs.declared.doc.Value.{Value}
use Rattle.doc_value.specs.declared.doc.Value.TheVariants as values
use Rattle.query_ast.specs.Meaning.{tokens_in, first_position}
use Rattle.split_bundle.specs.Keys.{Occurrence, field_key, value_place}
use Rattle.split_bundle.specs.Lists.{has_key, places_of}

-- each token is a term
abbrev pub has_each : ℕ → List Token → List Occurrence → Bool
has_each number [] os = true
has_each number (t ∷ ts) os = has_key (field_key number t.text) os && has_each number ts os

-- some place equals a number
abbrev pub is_among : ℕ → List ℕ → Bool
is_among n [] = false
is_among n (p ∷ ps) = (p == n) || is_among n ps

-- each token stands as far behind a place as it stands behind the first one in the phrase
abbrev pub stands_from : ℕ → List Token → ℕ → ℕ → List Occurrence → Bool
stands_from number [] from place os = true
stands_from number (t ∷ ts) from place os =
    is_among (place + (t.position - from)) (places_of (field_key number t.text) os) && stands_from number ts from place os

abbrev pub stands_from_one : ℕ → List Token → ℕ → List ℕ → List Occurrence → Bool
stands_from_one number ts from [] os = false
stands_from_one number ts from (p ∷ ps) os = stands_from number ts from p os || stands_from_one number ts from ps os

-- the phrase stands at one of the places of its first token
abbrev pub has_run : ℕ → List Token → List Occurrence → Bool
has_run number [] os = false
has_run number (t ∷ ts) os = stands_from_one number (t ∷ ts) t.position (places_of (field_key number t.text) os) os

-- ---- the same of the values themselves

-- the places of a term among the tokens of a value
abbrev pub token_places : List ℕ → ℕ → List Token → List ℕ
token_places term place [] = []
token_places term place (t ∷ ts) = if bytes_eq t.text term then value_place place t.position ∷ token_places term place ts else token_places term place ts

abbrev pub term_places : Field → List ℕ → ℕ → List Value → List ℕ
term_places f term place [] = []
term_places f term place (v ∷ vs) = token_places term place (tokens_in f v) ++ term_places f term (suc place) vs

-- each value is a text
abbrev pub AreTexts : List Value → Type 0
AreTexts [] = Unit {0}
AreTexts (values.Text s ∷ vs) = AreTexts vs
AreTexts (_ ∷ vs) = ⊥

-- positions in a value are below 2^31
abbrev pub AreNear : List Token → Type 0
AreNear ts = AllByRecursion (λ t. t.position < 2147483648) ts

-- the tokens of each value are near
abbrev pub AllNear : Field → List Value → Type 0
AllNear f [] = Unit {0}
AllNear f (v ∷ vs) = AreNear (tokens_in f v) × AllNear f vs

-- the distances of a phrase from its first token are small, and none goes back
abbrev pub IsShort : ℕ → List Token → Type 0
IsShort from ts = AllByRecursion (λ t. (from ≤ t.position) × (t.position < from + 2147483648)) ts

-- some occurrence has a key that passes a test
abbrev pub such : (List ℕ → Bool) → List Occurrence → Bool
such test [] = false
such test (o ∷ os) = test o.key || such test os

-- some occurrence has a key that begins so
abbrev pub begins : List ℕ → List Occurrence → Bool
begins prefix os = such (λ key. starts_with nat_eq key prefix) os

-- some of these keys is had
abbrev pub has_some : List (List ℕ) → List Occurrence → Bool
has_some [] os = false
has_some (k ∷ ks) os = has_key k os || has_some ks os

-- the keys of a list that pass a test
abbrev pub chosen : (List ℕ → Bool) → List (List ℕ) → List (List ℕ)
chosen test [] = []
chosen test (k ∷ ks) = if test k then k ∷ chosen test ks else chosen test ks

-- the keys of a list that begin so
abbrev pub beginning : List ℕ → List (List ℕ) → List (List ℕ)
beginning prefix keys = chosen (λ key. starts_with nat_eq key prefix) keys

abbrev pub is_listed : List ℕ → List (List ℕ) → Bool
is_listed key [] = false
is_listed key (k ∷ ks) = bytes_eq k key || is_listed key ks

-- no token of a phrase stands 2^31 places or more behind a position
abbrev pub are_close : ℕ → List Token → Bool
are_close from [] = true
are_close from (t ∷ ts) = nat_lt (t.position - from) 2147483648 && are_close from ts

-- no token of a phrase stands before its first one
abbrev pub AreBehindFirst : List Token → Type 0
AreBehindFirst phrase = AllByRecursion (λ t. first_position phrase ≤ t.position) phrase
