-- The occurrences of a key, grouped by their documents.
use Rattle.std.specs.Prelude.{ℕ, suc, ◌==◌, Bool, true, false, List, [], ◌∷◌, ◌++◌, if◌then◌else◌}
use Rattle.term_postings.specs.declared.list.Posting.{Posting}

-- positions of a document before those of others
abbrev pub onto : ℕ → List ℕ → List Posting → List Posting
onto d ps [] = record { document = d; positions = ps } ∷ []
onto d ps (q ∷ qs) = if q.document == d then record { document = d; positions = ps ++ q.positions } ∷ qs else record { document = d; positions = ps } ∷ q ∷ qs

-- so many occurrences by their documents, each with its place where they are kept
abbrev pub grouped : Bool → List ℕ → List ℕ → List Posting
grouped kept [] places = []
grouped true (d ∷ ds) [] = []
grouped true (d ∷ ds) (p ∷ ps) = onto d (p ∷ []) (grouped true ds ps)
grouped false (d ∷ ds) places = onto d [] (grouped false ds places)

-- how many of the first numbers are this one
abbrev pub run_of : ℕ → List ℕ → ℕ
run_of d [] = 0
run_of d (x ∷ xs) = if x == d then suc (run_of d xs) else 0
