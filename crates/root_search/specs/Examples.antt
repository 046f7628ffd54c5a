-- Answers worked out by hand, over three records of p0: the number 5, the number 9, and none.
use Rattle.std.specs.Prelude.{◌≡◌, ℕ, Bool, false, true, [], ◌∷◌, Some, None, codes, refl}
use Rattle.doc_value.specs.declared.doc.Value.TheVariants as values
use Rattle.doc_value.specs.declared.facts.TimeRange.{TimeRange}
use Rattle.doc_value.specs.declared.schema.Kind.TheVariants as kinds
use Rattle.doc_value.specs.declared.schema.Schema.{Schema}
use Rattle.doc_value.specs.declared.schema.Tokenizer.TheVariants as tokenizers
use Rattle.query_ast.specs.Sought as sought
use Rattle.split_bundle.specs.declared.placed.Placed.{Placed}
use Rattle.search_api.specs.Resolved.{Search}
use Rattle.search_api.specs.declared.reply.Said.TheVariants.{Found}
use Rattle.root_search.specs.Answer.{answer, matching, shown}
use Rattle.root_search.specs.LeafAsks.{wanted_of}

abbrev five : Placed
five = record { partition = codes "p0"; offset = 0; doc = (record { number = 0; values = values.U64 5 ∷ [] }) ∷ [] }

abbrev nine : Placed
nine = record { partition = codes "p0"; offset = 1; doc = (record { number = 0; values = values.U64 9 ∷ [] }) ∷ [] }

abbrev none : Placed
none = record { partition = codes "p0"; offset = 2; doc = [] }

abbrev always : TimeRange
always = record { start = None; end = None }

-- all documents by the number, upwards or downwards
abbrev by_number : Bool → ℕ → ℕ → Search
by_number descending passed most =
    record { query = sought.All; times = always; start_offset = passed; max_hits = most; sort = Some (record { field = 0; descending = descending }); aggs = [] }

-- and by their places alone
abbrev by_place : ℕ → ℕ → Search
by_place passed most = record { query = sought.All; times = always; start_offset = passed; max_hits = most; sort = None; aggs = [] }

pub all_match : (s : Schema) → matching s (by_place 0 20) (nine ∷ none ∷ five ∷ []) ≡ nine ∷ none ∷ five ∷ []
all_match s = refl

pub in_place : shown (by_place 0 20) (nine ∷ none ∷ five ∷ []) ≡ five ∷ nine ∷ none ∷ []
in_place = refl

-- what has no number stands last in both
pub upwards : shown (by_number false 0 20) (none ∷ nine ∷ five ∷ []) ≡ five ∷ nine ∷ none ∷ []
upwards = refl

pub downwards : shown (by_number true 0 20) (none ∷ nine ∷ five ∷ []) ≡ nine ∷ five ∷ none ∷ []
downwards = refl

pub second : shown (by_number true 1 1) (none ∷ nine ∷ five ∷ []) ≡ five ∷ []
second = refl

-- a split is asked for what is passed over too, but for nothing where nothing is shown
pub wanted_too : wanted_of (by_number true 1 1) ≡ 2
wanted_too = refl

pub none_wanted : wanted_of (by_number true 1 0) ≡ 0
none_wanted = refl

-- ---- the answer

abbrev numbered : Schema
numbered =
    record {
      fields = record { path = codes "n"; kind = kinds.U64; fast = true; indexed = true; tag = false; tokenizer = tokenizers.Default; positions = false } ∷ [];
      timestamp = None;
      dynamic = None;
    }

-- three match, and the last of them is shown
pub the_last_of_three : answer numbered (by_place 2 1) (none ∷ nine ∷ five ∷ []) ≡ Found 3 (codes "{}" ∷ []) []
the_last_of_three = refl

-- of no documents nothing is shown
pub none_found : answer numbered (by_place 0 20) [] ≡ Found 0 [] []
none_found = refl
