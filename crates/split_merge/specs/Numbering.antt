-- The numbers of documents among those that are kept.
use Rattle.std.specs.Prelude.{ℕ, zero, suc, ◌+◌, ◌==◌, List, [], ◌∷◌, Option, Some, None, slice_get, if◌then◌else◌}
use Rattle.split_bundle.specs.declared.split_view.SplitView.{SplitView}
use Rattle.split_merge.specs.Keeping.{is_named}

-- what stands in place of a number where a document is dropped
abbrev pub no_number : ℕ
no_number = 4294967295

abbrev pub number_of : Option ℕ → Option ℕ
number_of None = None
number_of (Some n) = if n == no_number then None else Some n

-- the new number of a document by a table; none of one that is dropped, or that there is not
abbrev pub number_in : List ℕ → ℕ → Option ℕ
number_in table doc = number_of (slice_get table doc)

-- the table of so many documents, of which the first has this place and the first that is kept this number
abbrev pub table_of : List ℕ → ℕ → ℕ → ℕ → List ℕ
table_of dropped place next zero = []
table_of dropped place next (suc left) =
    if is_named place dropped then no_number ∷ table_of dropped (suc place) next left else next ∷ table_of dropped (suc place) (suc next) left

-- how many of them are kept
abbrev pub kept_count : List ℕ → ℕ → ℕ → ℕ
kept_count dropped place zero = 0
kept_count dropped place (suc left) = if is_named place dropped then kept_count dropped (suc place) left else suc (kept_count dropped (suc place) left)

-- how many documents of views are kept
abbrev pub kept_in : List ℕ → ℕ → List SplitView → ℕ
kept_in dropped place [] = 0
kept_in dropped place (v ∷ vs) = kept_count dropped place v.layout.docs + kept_in dropped (place + v.layout.docs) vs

-- the tables of views, one behind the other
abbrev pub tables_of : List ℕ → ℕ → ℕ → List SplitView → List (List ℕ)
tables_of dropped place next [] = []
tables_of dropped place next (v ∷ vs) =
    table_of dropped place next v.layout.docs ∷ tables_of dropped (place + v.layout.docs) (next + kept_count dropped place v.layout.docs) vs
