-- Tests of documents by their numbers.
use Rattle.std.proofs.Common.{◌≡◌, ℕ, zero, suc, ◌+◌, ◌<◌, Bool, true, false, not, ◌&&◌, ◌||◌, List, [], ◌∷◌, length, if◌then◌else◌, refl, arith, eq-eqb}
use Rattle.std.specs.List.{AllByRecursion}
use Rattle.std.proofs.lemmas.Bool.{ne_eqb, or_parts}
use Rattle.doc_value.specs.declared.schema.Schema.{Schema}
use Rattle.doc_value.specs.declared.doc.DocField.{DocField}
use Rattle.term_postings.specs.declared.list.Posting.{Posting}
use Rattle.split_bundle.specs.Keys.{keys_of}
use Rattle.split_bundle.specs.declared.placed.Placed.{Placed}
use Rattle.split_bundle.specs.Lists.{has_key, places_of, posted, posting_list, keeps_places, stands_in}
use Rattle.doc_sets.specs.Sets.{holds_at, is_in}

pub holds_and : (p q : List DocField → Bool) (ds : List Placed) (k : ℕ) → holds_at (λ d. p d && q d) ds k ≡ holds_at p ds k && holds_at q ds k
holds_and p q [] k = refl
holds_and p q (d ∷ ds) zero = refl
holds_and p q (d ∷ ds) (suc k) = holds_and p q ds k

pub holds_or : (p q : List DocField → Bool) (ds : List Placed) (k : ℕ) → holds_at (λ d. p d || q d) ds k ≡ holds_at p ds k || holds_at q ds k
holds_or p q [] k = refl
holds_or p q (d ∷ ds) zero = refl
holds_or p q (d ∷ ds) (suc k) = holds_or p q ds k

pub holds_not : (p : List DocField → Bool) (ds : List Placed) (k : ℕ) → k < length ds → holds_at (λ d. not (p d)) ds k ≡ not (holds_at p ds k)
holds_not p [] k lt = absurd (omega arith)
holds_not p (d ∷ ds) zero lt = refl
holds_not p (d ∷ ds) (suc k) lt = holds_not p ds k (omega arith)

pub holds_true : (ds : List Placed) (k : ℕ) → k < length ds → holds_at (λ d. true) ds k ≡ true
holds_true [] k lt = absurd (omega arith)
holds_true (d ∷ ds) zero lt = refl
holds_true (d ∷ ds) (suc k) lt = holds_true ds k (omega arith)

pub holds_false : (ds : List Placed) (k : ℕ) → holds_at (λ d. false) ds k ≡ false
holds_false [] k = refl
holds_false (d ∷ ds) zero = refl
holds_false (d ∷ ds) (suc k) = holds_false ds k

-- tests that agree on documents with a fact agree by number
pub holds_same : (F : Placed → Type 0) (p q : List DocField → Bool) (ds : List Placed) (k : ℕ) → AllByRecursion F ds → ((d : Placed) → F d → p d.doc ≡ q d.doc) → holds_at p ds k ≡ holds_at q ds k
holds_same F p q [] k h same = refl
holds_same F p q (d ∷ ds) zero h same = same d h.0
holds_same F p q (d ∷ ds) (suc k) h same = holds_same F p q ds k h.1 same

module _ (s : Schema) (key : List ℕ) where
  abbrev entry : ℕ → Placed → Posting
  entry n d = record { document = n; positions = if keeps_places s key then places_of key (keys_of s d.doc) else [] }

  -- no document of a list stands before the number that the list begins with
  not_before : (n k : ℕ) (ds : List Placed) → k < n → is_in k (posted s key n ds) ≡ false
  not_before n k [] lt = refl
  not_before n k (d ∷ ds) lt = go (has_key key (keys_of s d.doc)) (not_before (suc n) k ds (omega arith))
    where
      go : (b : Bool) → is_in k (posted s key (suc n) ds) ≡ false → is_in k (if b then entry n d ∷ posted s key (suc n) ds else posted s key (suc n) ds) ≡ false
      go true h = let ne = ne_eqb k n (λ e. absurd (omega arith)) in rw (ne, h)
      go false h = h

  posted_in : (n i k : ℕ) (ds : List Placed) → k ≡ n + i → is_in k (posted s key n ds) ≡ holds_at (λ d. has_key key (keys_of s d)) ds i
  posted_in n i k [] e = refl
  posted_in n zero k (d ∷ ds) e = go (has_key key (keys_of s d.doc)) (not_before (suc n) k ds (omega arith))
    where
      go : (b : Bool) → is_in k (posted s key (suc n) ds) ≡ false → is_in k (if b then entry n d ∷ posted s key (suc n) ds else posted s key (suc n) ds) ≡ b
      go true h = let same = eq-eqb k n (omega arith) in rw (same)
      go false h = h
  posted_in n (suc i) k (d ∷ ds) e = go (has_key key (keys_of s d.doc)) (posted_in (suc n) i k ds (omega arith))
    where
      go : (b : Bool) → is_in k (posted s key (suc n) ds) ≡ holds_at (λ x. has_key key (keys_of s x)) ds i
          → is_in k (if b then entry n d ∷ posted s key (suc n) ds else posted s key (suc n) ds) ≡ holds_at (λ x. has_key key (keys_of s x)) ds i
      go true h = let ne = ne_eqb k n (λ x. absurd (omega arith)) in rw (ne) h
      go false h = h

  posted_below : (n m : ℕ) (ds : List Placed) → m ≡ n + length ds → AllByRecursion (λ p. p.document < m) (posted s key n ds)
  posted_below n m [] e = tt
  posted_below n m (d ∷ ds) e = go (has_key key (keys_of s d.doc)) (posted_below (suc n) m ds (omega arith))
    where
      go : (b : Bool) → AllByRecursion (λ p. p.document < m) (posted s key (suc n) ds) → AllByRecursion (λ p. p.document < m) (if b then entry n d ∷ posted s key (suc n) ds else posted s key (suc n) ds)
      go true h = (omega arith, h)
      go false h = h

-- a document is in the list of a key exactly where it has the key
pub in_posting_list : (s : Schema) (key : List ℕ) (ds : List Placed) (k : ℕ) → is_in k (posting_list s ds key) ≡ holds_at (λ d. has_key key (keys_of s d)) ds k
in_posting_list s key ds k = posted_in s key 0 k k ds (omega arith)

-- and below their count
pub posting_list_below : (s : Schema) (key : List ℕ) (ds : List Placed) → AllByRecursion (λ p. p.document < length ds) (posting_list s ds key)
posting_list_below s key ds = posted_below s key 0 (length ds) ds (omega arith)

-- a key that no document has
pub none_holds : (s : Schema) (key : List ℕ) (ds : List Placed) (k : ℕ) → stands_in s key ds ≡ false → holds_at (λ d. has_key key (keys_of s d)) ds k ≡ false
none_holds s key [] k h = refl
none_holds s key (d ∷ ds) zero h = (or_parts (has_key key (keys_of s d.doc)) (stands_in s key ds) h).0
none_holds s key (d ∷ ds) (suc k) h = none_holds s key ds k (or_parts (has_key key (keys_of s d.doc)) (stands_in s key ds) h).1
