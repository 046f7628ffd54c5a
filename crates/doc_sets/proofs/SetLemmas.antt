-- Sets of documents by tests.
use Rattle.std.proofs.Common.{◌≡◌, ℕ, ◌<◌, Bool, true, false, not, ◌&&◌, ◌||◌, List, length, Result, Ok, Err, MatchResult, IfOk, ap, sym, ◌∙◌, arith}
use Rattle.std.specs.List.{AllByRecursion}
use Rattle.std.specs.declared.alloc.AllocError.{AllocError}
use Rattle.doc_value.specs.declared.doc.DocField.{DocField}
use Rattle.split_bundle.specs.declared.placed.Placed.{Placed}
use Rattle.doc_sets.specs.declared.bits.DocBits.{DocBits}
use Rattle.doc_sets.specs.declared.leaf_error.LeafError.{LeafError}
use Rattle.doc_sets.specs.Bits.{has}
use Rattle.doc_value.specs.declared.schema.Schema.{Schema}
use Rattle.split_bundle.specs.Keys.{keys_of}
use Rattle.split_bundle.specs.Lists.{has_key, posting_list, stands_in}
use Rattle.doc_sets.specs.Sets.{holds_at, is_in, IsSetOf}
use Rattle.doc_sets.proofs.Numbers.{holds_and, holds_or, holds_not, holds_same, holds_true, holds_false, in_posting_list, none_holds}

pub set_and : (a b c : DocBits) (p q : List DocField → Bool) (ds : List Placed) → c.size ≡ a.size → ((k : ℕ) → has c k ≡ has a k && has b k)
    → IsSetOf p ds a → IsSetOf q ds b → IsSetOf (λ d. p d && q d) ds c
set_and a b c p q ds size both x y = record {
  size = size ∙ x.size;
  each = λ k lt. both k ∙ (ap (λ t. t && has b k) (x.each k lt) ∙ (ap (λ t. holds_at p ds k && t) (y.each k lt) ∙ sym (holds_and p q ds k)));
}

pub set_or : (a b c : DocBits) (p q : List DocField → Bool) (ds : List Placed) → c.size ≡ a.size → ((k : ℕ) → has c k ≡ has a k || has b k)
    → IsSetOf p ds a → IsSetOf q ds b → IsSetOf (λ d. p d || q d) ds c
set_or a b c p q ds size both x y = record {
  size = size ∙ x.size;
  each = λ k lt. both k ∙ (ap (λ t. t || has b k) (x.each k lt) ∙ (ap (λ t. holds_at p ds k || t) (y.each k lt) ∙ sym (holds_or p q ds k)));
}

pub set_not : (a c : DocBits) (p : List DocField → Bool) (ds : List Placed) → c.size ≡ a.size → ((k : ℕ) → k < a.size → has c k ≡ not (has a k))
    → IsSetOf p ds a → IsSetOf (λ d. not (p d)) ds c
set_not a c p ds size other x = record {
  size = size ∙ x.size;
  each = λ k lt. other k (omega (arith, x.size, lt)) ∙ (ap not (x.each k lt) ∙ sym (holds_not p ds k lt));
}

pub set_same : (F : Placed → Type 0) (b : DocBits) (p q : List DocField → Bool) (ds : List Placed) → AllByRecursion F ds → ((d : Placed) → F d → p d.doc ≡ q d.doc) → IsSetOf p ds b → IsSetOf q ds b
set_same F b p q ds all same x = record { size = x.size; each = λ k lt. x.each k lt ∙ holds_same F p q ds k all same }

-- an answer by a test is one by a test that agrees, and a fault has its cause among more
pub gives_same : (F : Placed → Type 0) (P Q : LeafError → Type 0) (r : Result DocBits LeafError) (p q : List DocField → Bool) (ds : List Placed) → AllByRecursion F ds → ((d : Placed) → F d → p d.doc ≡ q d.doc)
    → ((e : LeafError) → P e → Q e) → MatchResult r (IsSetOf p ds) P → MatchResult r (IsSetOf q ds) Q
gives_same F P Q (Ok b) p q ds all same wider x = set_same F b p q ds all same x
gives_same F P Q (Err e) p q ds all same wider x = wider e x

-- the set of no document, and that of every document
pub none_set : (r : Result DocBits AllocError) (n : ℕ) (ds : List Placed) → n ≡ length ds → IfOk r (λ b. b.size ≡ n) → IfOk r (λ b. (k : ℕ) → has b k ≡ false) → IfOk r (IsSetOf (λ d. false) ds)
none_set (Ok b) n ds e size none = record { size = size ∙ e; each = λ k lt. none k ∙ sym (holds_false ds k) }
none_set (Err x) n ds e size none = tt

pub all_set : (r : Result DocBits AllocError) (n : ℕ) (ds : List Placed) → n ≡ length ds → IfOk r (λ b. b.size ≡ n) → IfOk r (λ b. (k : ℕ) → k < n → has b k ≡ true) → IfOk r (IsSetOf (λ d. true) ds)
all_set (Ok b) n ds e size all = record { size = size ∙ e; each = λ k lt. all k (omega (arith, e, lt)) ∙ sym (holds_true ds k lt) }
all_set (Err x) n ds e size all = tt

-- no document has a key that stands in none
pub unlisted_set : (s : Schema) (key : List ℕ) (ds : List Placed) (b : DocBits) → stands_in s key ds ≡ false → IsSetOf (λ d. false) ds b → IsSetOf (λ d. has_key key (keys_of s d)) ds b
unlisted_set s key ds b h x = record { size = x.size; each = λ k lt. x.each k lt ∙ (holds_false ds k ∙ sym (none_holds s key ds k h)) }

-- the documents of a posting list put into a vacant set
pub listed_set : (s : Schema) (key : List ℕ) (ds : List Placed) (a b : DocBits) → b.size ≡ a.size → a.size ≡ length ds → ((k : ℕ) → has a k ≡ false) → ((k : ℕ) → has b k ≡ has a k || is_in k (posting_list s ds key))
    → IsSetOf (λ d. has_key key (keys_of s d)) ds b
listed_set s key ds a b same size none put = record {
  size = same ∙ size;
  each = λ k lt. put k ∙ (ap (λ t. t || is_in k (posting_list s ds key)) (none k) ∙ in_posting_list s key ds k);
}
