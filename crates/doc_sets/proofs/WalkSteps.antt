-- Sets that grow along a walk.
use Rattle.std.proofs.Common.{◌≡◌, ℕ, zero, suc, ◌+◌, ◌<◌, ◌≤◌, inl, inr, Bool, true, false, ◌&&◌, ◌||◌, List, [], ◌∷◌, length, drop, filter, nat_eq, Some, None, Option, Result, Ok, Err, IsOk, MatchResult, refl, ap, sym, ◌∙◌, subst, arith}
use Rattle.std.specs.List.{AllByRecursion, starts_with}
use Rattle.std.specs.Borrow.{Bor}
use Rattle.doc_value.specs.declared.doc.DocField.{DocField}
use Rattle.doc_value.specs.declared.schema.Schema.{Schema}
use Rattle.term_dict.specs.declared.term.Term.{Term}
use Rattle.term_dict.specs.declared.term.TermInfo.{TermInfo}
use Rattle.term_dict.specs.Bounds.{AreBlocks, joined}
use Rattle.term_dict.specs.Keys.{is_below}
use Rattle.term_dict.specs.Lent.{GivesFirst}
use Rattle.term_dict.specs.Terms.{lookup}
use Rattle.split_bundle.specs.declared.placed.Placed.{Placed}
use Rattle.split_bundle.specs.declared.part_view.PartView.{PartView}
use Rattle.split_bundle.specs.Files.{Parts}
use Rattle.split_bundle.specs.Keys.{Occurrence, keys_of}
use Rattle.split_bundle.specs.Lists.{has_key, keeps_places, posting_list, terms_of}
use Rattle.doc_sets.specs.declared.bits.DocBits.{DocBits}
use Rattle.doc_sets.specs.declared.leaf_error.LeafError.{LeafError}
use Rattle.doc_sets.specs.declared.wanted.Wanted.{Wanted}
use Rattle.doc_sets.specs.Bits.{has}
use Rattle.doc_sets.specs.Faults.{LacksPart}
use Rattle.doc_sets.specs.Needed.{IsListFor}
use Rattle.doc_sets.specs.Sets.{holds_at, is_in, IsSetOf}
use Rattle.doc_sets.specs.Walks.{takes, has_some_of, begun_in, IsListed, AsksIf, AsksTerms, AsksBlock, AsksWalk, IsWalked}
use Rattle.doc_sets.proofs.Causes.{cause_wider}
use Rattle.doc_sets.proofs.Numbers.{holds_or, in_posting_list}

or_false : (a : Bool) → a || false ≡ a
or_false true = refl
or_false false = refl

-- the documents of a list are put to those of a set
pub filled_set : {X : Type 0} (P : LeafError → Type 0) (r : Result X LeafError) (s : Schema) (key : List ℕ) (ds : List Placed) (test : List DocField → Bool) (a b : DocBits) → b.size ≡ a.size → IsSetOf test ds a
    → IsOk r × ((k : ℕ) → has b k ≡ has a k || is_in k (posting_list s ds key)) → MatchResult r (λ x. IsSetOf (λ d. test d || has_key key (keys_of s d)) ds b) P
filled_set P (Ok x) s key ds test a b size h both = record {
  size = size ∙ h.size;
  each = λ k lt. both.1 k ∙ (ap (λ t. t || is_in k (posting_list s ds key)) (h.each k lt)
      ∙ (ap (λ t. holds_at test ds k || t) (in_posting_list s key ds k) ∙ sym (holds_or test (λ d. has_key key (keys_of s d)) ds k)));
}
filled_set P (Err e) s key ds test a b size h both = let no = both.0 in absurd (let x : false ≡ true = no in cc)

-- a test that says the same makes the same set
pub set_alike : (test more : List DocField → Bool) (ds : List Placed) (b : DocBits) → ((d : List DocField) → test d ≡ more d) → IsSetOf test ds b → IsSetOf more ds b
set_alike test more ds b same h = record { size = h.size; each = λ k lt. h.each k lt ∙ at ds k }
  where
    at : (ds : List Placed) (k : ℕ) → holds_at test ds k ≡ holds_at more ds k
    at [] k = refl
    at (d ∷ ds) zero = same d.doc
    at (d ∷ ds) (suc k) = at ds k

pub result_alike : {X : Type 0} (P Q : LeafError → Type 0) (r : Result X LeafError) (test more : List DocField → Bool) (ds : List Placed) (b : DocBits) → ((d : List DocField) → test d ≡ more d) → ((e : LeafError) → P e → Q e)
    → MatchResult r (λ x. IsSetOf test ds b) P → MatchResult r (λ x. IsSetOf more ds b) Q
result_alike P Q (Ok x) test more ds b same wider h = set_alike test more ds b same h
result_alike P Q (Err e) test more ds b same wider h = wider e h

pub result_alike_sets : (P : LeafError → Type 0) (r : Result DocBits LeafError) (test more : List DocField → Bool) (ds : List Placed) → ((d : List DocField) → test d ≡ more d) → MatchResult r (IsSetOf test ds) P → MatchResult r (IsSetOf more ds) P
result_alike_sets P (Ok b) test more ds same h = set_alike test more ds b same h
result_alike_sets P (Err e) test more ds same h = h

module _ (v : PartView) (s : Schema) (ds : List Placed) (p : Parts) (w : Wanted) where
  -- a key that is wanted
  wanted_asks : (key : List ℕ) → takes w key ≡ true → (at len : ℕ) → IsListFor v s ds p key at len → AsksIf v s ds p w key at len
  wanted_asks key e at len asked = (e, asked)

  pub wanted_added : {X : Type 0} (r : Result X LeafError) (key : List ℕ) (test : List DocField → Bool) (b : DocBits) → takes w key ≡ true
      → MatchResult r (λ x. IsSetOf (λ d. test d || has_key key (keys_of s d)) ds b) (LacksPart (IsListFor v s ds p key) v.pieces)
      → MatchResult r (λ x. IsSetOf (λ d. test d || (takes w key && has_key key (keys_of s d))) ds b) (LacksPart (AsksIf v s ds p w key) v.pieces)
  wanted_added r key test b e h =
      result_alike (LacksPart (IsListFor v s ds p key) v.pieces) (LacksPart (AsksIf v s ds p w key) v.pieces) r (λ d. test d || has_key key (keys_of s d)) (λ d. test d || (takes w key && has_key key (keys_of s d))) ds b
      (λ d. ap (λ t. test d || (t && has_key key (keys_of s d))) (sym e))
      (λ fault cause. cause_wider (IsListFor v s ds p key) (AsksIf v s ds p w key) v.pieces fault (wanted_asks key e) cause) h

  pub unwanted_kept : (key : List ℕ) (test : List DocField → Bool) (b : DocBits) → takes w key ≡ false → IsSetOf test ds b → IsSetOf (λ d. test d || (takes w key && has_key key (keys_of s d))) ds b
  unwanted_kept key test b e h = set_alike test (λ d. test d || (takes w key && has_key key (keys_of s d))) ds b (λ d. sym (ap (λ t. test d || (t && has_key key (keys_of s d))) e ∙ or_false (test d))) h

  -- what is asked for of one of some terms
  term_asks : (ts : List Term) (i : ℕ) (t : Term) (rest : List Term) → drop i ts ≡ t ∷ rest → (at len : ℕ) → AsksIf v s ds p w t.key at len → AsksTerms v s ds p w ts at len
  term_asks ts zero t rest e at len asked = subst (λ l. AsksTerms v s ds p w l at len) (sym e) (inl asked)
  term_asks [] (suc i) t rest e at len asked = absurd (cc)
  term_asks (u ∷ us) (suc i) t rest e at len asked = inr (term_asks us i t rest e at len asked)

  pub term_lacks : (ts : List Term) (i : ℕ) (t : Term) (rest : List Term) (e : LeafError) → drop i ts ≡ t ∷ rest → LacksPart (AsksIf v s ds p w t.key) v.pieces e → LacksPart (AsksTerms v s ds p w ts) v.pieces e
  term_lacks ts i t rest e is cause = cause_wider (AsksIf v s ds p w t.key) (AsksTerms v s ds p w ts) v.pieces e (term_asks ts i t rest is) cause

  -- what is asked for of the terms of a block is asked for of the block
  pub block_terms_added : {X : Type 0} (r : Result X LeafError) (prefix : List ℕ) (number : ℕ) (test : List DocField → Bool) (b : DocBits)
      → MatchResult r (λ x. IsSetOf (λ d. test d || has_some_of w (begun_in prefix (terms_of s ds p.keys) number) (keys_of s d)) ds b) (LacksPart (AsksTerms v s ds p w (begun_in prefix (terms_of s ds p.keys) number)) v.pieces)
      → MatchResult r (λ x. IsSetOf (λ d. test d || has_some_of w (begun_in prefix (terms_of s ds p.keys) number) (keys_of s d)) ds b) (LacksPart (AsksBlock v s ds p prefix w number) v.pieces)
  block_terms_added r prefix number test b h =
      let more : List DocField → Bool = λ d. test d || has_some_of w (begun_in prefix (terms_of s ds p.keys) number) (keys_of s d) in
      let Some : ℕ → ℕ → Type 0 = AsksTerms v s ds p w (begun_in prefix (terms_of s ds p.keys) number) in
      let All : ℕ → ℕ → Type 0 = AsksBlock v s ds p prefix w number in
      result_alike (LacksPart Some v.pieces) (LacksPart All v.pieces) r more more ds b (λ d. refl) (λ e cause. cause_wider Some All v.pieces e (λ at len asked. inr asked) cause) h

  -- what is asked for of a block of a walk is asked for of the walk
  of_walk : (prefix : List ℕ) (number : ℕ) → IsWalked v prefix number → (at len : ℕ) → AsksBlock v s ds p prefix w number at len → AsksWalk v s ds p prefix w at len
  of_walk prefix number walked at len (inl b) = inl (number, walked, b)
  of_walk prefix number walked at len (inr l) = inr (number, walked, l)

  pub walk_lacks : (prefix : List ℕ) (start end number : ℕ) (e : LeafError) → AreBlocks v.footer.index prefix (λ first. is_below first prefix || starts_with nat_eq first prefix) start end → start ≤ number → number < end
      → LacksPart (AsksBlock v s ds p prefix w number) v.pieces e → LacksPart (AsksWalk v s ds p prefix w) v.pieces e
  walk_lacks prefix start end number e blocks from until cause =
      cause_wider (AsksBlock v s ds p prefix w number) (AsksWalk v s ds p prefix w) v.pieces e
      (of_walk prefix number (record { start = start; end = end; blocks = blocks; from = from; until = until })) cause

-- a term that a range gave is the first of those that it was to lend
pub record IsGiven (lent : List Term) (key : List ℕ) (info : TermInfo) : Type 0 where
  pub first : Term
  pub rest : List Term
  pub lent_is : lent ≡ first ∷ rest
  pub key_is : key ≡ first.key
  pub info_is : info ≡ first.info

pub given : (lent : List Term) (o : Option (Bor (List ℕ) × TermInfo)) (x : Bor (List ℕ) × TermInfo) → o ≡ Some x → GivesFirst lent (Ok o) → IsGiven lent x.0.now x.1
given lent o x e h = go lent (subst (λ y. GivesFirst lent (Ok y)) e h)
  where
    go : (lent : List Term) → GivesFirst lent (Ok (Some x)) → IsGiven lent x.0.now x.1
    go [] g = absurd g
    go (t ∷ ts) g = record { first = t; rest = ts; lent_is = refl; key_is = g.0; info_is = g.1 }

pub none_given : (lent : List Term) (o : Option (Bor (List ℕ) × TermInfo)) → o ≡ None → GivesFirst lent (Ok o) → lent ≡ []
none_given lent o e h = go lent (subst (λ y. GivesFirst lent (Ok y)) e h)
  where
    go : (lent : List Term) → GivesFirst lent (Ok None) → lent ≡ []
    go [] g = refl
    go (t ∷ ts) g = absurd g

-- no term more
pub none_more : (w : Wanted) (a : Bool) (ts : List Term) (os : List Occurrence) → ts ≡ [] → a ≡ a || has_some_of w ts os
none_more w a ts os e = sym (ap (λ l. a || has_some_of w l os) e ∙ or_false a)

-- no block more
pub walk_over : (w : Wanted) (a : Bool) (prefix : List ℕ) (terms : List Term) (number left : ℕ) (os : List Occurrence) → left ≡ 0 → a ≡ a || has_some_of w (joined (filter (λ t. starts_with nat_eq t.key prefix)) terms number left) os
walk_over w a prefix terms number left os e = sym (ap (λ n. a || has_some_of w (joined (filter (λ t. starts_with nat_eq t.key prefix)) terms number n) os) e ∙ or_false a)

-- the facts of a term are those of its key and its numbers
pub listed_as : (s : Schema) (ds : List Placed) (p : Parts) (positions : Bool) (t : Term) (key : List ℕ) (info : TermInfo) → key ≡ t.key → info ≡ t.info → IsListed s ds p positions t
    → (lookup key (terms_of s ds p.keys) ≡ Some info) × (positions ≡ keeps_places s key)
listed_as s ds p positions t key info same alike h = (ap (λ k. lookup k (terms_of s ds p.keys)) same ∙ (h.0 ∙ ap Some (sym alike)), h.1 ∙ sym (ap (keeps_places s) same))

pub drop_twice : (ts : List Term) (i : ℕ) → drop 1 (drop i ts) ≡ drop (i + 1) ts
drop_twice ts zero = refl
drop_twice [] (suc i) = let s : i + 1 ≡ suc i = omega arith in let t : suc i + 1 ≡ suc (i + 1) = omega arith in sym (ap (λ n. drop n []) t)
drop_twice (t ∷ ts) (suc i) = let s : suc (i + 1) ≡ suc i + 1 = omega arith in drop_twice ts i ∙ ap (λ n. drop n (t ∷ ts)) s

pub drop_next : (ts : List Term) (i : ℕ) (t : Term) (rest : List Term) → drop i ts ≡ t ∷ rest → (drop (i + 1) ts ≡ rest) × (i + 1 ≤ length ts)
drop_next [] zero t rest e = absurd (cc)
drop_next [] (suc i) t rest e = absurd (cc)
drop_next (u ∷ us) zero t rest e = (cc, omega arith)
drop_next (u ∷ us) (suc i) t rest e = let h = drop_next us i t rest e in let le = h.1 in let s : suc (i + 1) ≡ suc i + 1 = omega arith in (sym (ap (λ n. drop n (u ∷ us)) s) ∙ h.0, omega (arith, le))

pub first_listed : (P : Term → Type 0) (ts : List Term) (i : ℕ) (t : Term) (rest : List Term) → drop i ts ≡ t ∷ rest → AllByRecursion P ts → P t
first_listed P ts zero t rest e all = (subst (AllByRecursion P) e all).0
first_listed P [] (suc i) t rest e all = absurd (cc)
first_listed P (u ∷ us) (suc i) t rest e all = first_listed P us i t rest e all.1
