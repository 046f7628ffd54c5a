-- The numbers of documents that pass a test.
use Rattle.std.specs.Prelude.{ℕ, suc, Bool, List, [], ◌∷◌, if◌then◌else◌}
use Rattle.doc_value.specs.declared.doc.DocField.{DocField}
use Rattle.split_bundle.specs.declared.placed.Placed.{Placed}

-- of some documents of which the first has that number
abbrev pub numbers_from : (List DocField → Bool) → ℕ → List Placed → List ℕ
numbers_from test n [] = []
numbers_from test n (d ∷ ds) = if test d.doc then n ∷ numbers_from test (suc n) ds else numbers_from test (suc n) ds

abbrev pub numbers_of : (List DocField → Bool) → List Placed → List ℕ
numbers_of test documents = numbers_from test 0 documents
