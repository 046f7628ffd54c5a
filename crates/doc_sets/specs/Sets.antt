-- Sets of documents by their numbers.
use Rattle.std.specs.Prelude.{◌≡◌, ℕ, zero, suc, ◌<◌, ◌==◌, Bool, false, ◌||◌, List, [], ◌∷◌, length}
use Rattle.term_postings.specs.declared.list.Posting.{Posting}
use Rattle.doc_value.specs.declared.doc.DocField.{DocField}
use Rattle.split_bundle.specs.declared.placed.Placed.{Placed}
use Rattle.doc_sets.specs.declared.bits.DocBits.{DocBits}
use Rattle.doc_sets.specs.Bits.{has}

-- a test of the document with a number
abbrev pub holds_at : (List DocField → Bool) → List Placed → ℕ → Bool
holds_at test [] k = false
holds_at test (d ∷ ds) zero = test d.doc
holds_at test (d ∷ ds) (suc k) = holds_at test ds k

-- the set has the numbers of the documents that pass a test
pub record IsSetOf (test : List DocField → Bool) (documents : List Placed) (b : DocBits) : Type 0 where
  pub size : b.size ≡ length documents
  pub each : (k : ℕ) → k < length documents → has b k ≡ holds_at test documents k

-- a document is in a list
abbrev pub is_in : ℕ → List Posting → Bool
is_in k [] = false
is_in k (p ∷ ps) = (k == p.document) || is_in k ps

-- a number is in a list
abbrev pub is_one_of : ℕ → List ℕ → Bool
is_one_of k [] = false
is_one_of k (n ∷ ns) = (k == n) || is_one_of k ns
