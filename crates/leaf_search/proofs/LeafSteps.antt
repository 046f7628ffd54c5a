-- Parts of an answer put together.
use Rattle.std.proofs.Common.{◌≡◌, ℕ, zero, suc, ◌<◌, inl, inr, ◌&&◌, ◌||◌, Bool, true, false, cond, List, [], ◌∷◌, length, filter, Result, Ok, Err, MatchResult, IsErrAnd, refl, ap, sym, ◌∙◌, subst, arith}
use Rattle.doc_value.specs.declared.schema.Schema.{Schema}
use Rattle.doc_value.specs.declared.doc.DocField.{DocField}
use Rattle.doc_value.specs.declared.facts.TimeRange.{TimeRange}
use Rattle.query_ast.specs.Meaning.{within_times, is_unlimited, has_time_within}
use Rattle.split_bundle.specs.declared.placed.Placed.{Placed}
use Rattle.split_bundle.specs.declared.pieces.FilePiece.{FilePiece}
use Rattle.split_bundle.specs.declared.split_error.SplitError.{SplitError}
use Rattle.split_bundle.specs.declared.split_error.SplitError.TheVariants as splits
use Rattle.split_bundle.specs.Wholes.{IsThere}
use Rattle.doc_sets.specs.declared.leaf_error.LeafError.{LeafError}
use Rattle.split_bundle.specs.declared.part_view.PartView.{PartView}
use Rattle.split_bundle.specs.Files.{Parts}
use Rattle.doc_sets.specs.Asking.{AsksLookups}
use Rattle.doc_sets.specs.declared.dictionary_lookup.Lookup.{Lookup}
use Rattle.doc_sets.specs.Faults.{LacksPart, IsMemory, fault_of}
use Rattle.doc_tallies.specs.Causes as tallies
use Rattle.agg_nested.specs.Buckets.{NestedStands}
use Rattle.doc_tallies.specs.Orders.{firsts}
use Rattle.doc_tallies.specs.Picked.{docs_of, picked}
use Rattle.leaf_search.specs.declared.request.LeafAnswer.{LeafAnswer}
use Rattle.leaf_search.specs.declared.request.LeafRequest.{LeafRequest}
use Rattle.leaf_search.specs.Answers.{AsksWith, found, passes, IsAnswerOf}
use Rattle.leaf_search.specs.Numbers.{numbers_from, numbers_of}
use Rattle.leaf_search.proofs.NumberLists.{picked_of}

-- the cause of a fault of a reader is that of the fault that it is handed on as
pub cause_of : (A B : ℕ → ℕ → Type 0) (pieces : List FilePiece) (fault : SplitError) → ((at len : ℕ) → A at len → B at len) → tallies.LacksPart A pieces fault → LacksPart B pieces (fault_of fault)
cause_of A B pieces (splits.Memory a) wider h = tt
cause_of A B pieces splits.BadMagic wider h = absurd h
cause_of A B pieces (splits.Truncated at) wider h = (h.0, wider at h.0 h.1, h.2)
cause_of A B pieces (splits.BadSection number) wider h = absurd h
cause_of A B pieces (splits.BadVersion number) wider h = absurd h

pub faulted : {X : Type 0} (good : X → Type 0) (A B : ℕ → ℕ → Type 0) (pieces : List FilePiece) (fault : SplitError) (r : Result X LeafError) → IsErrAnd r (λ e. e ≡ fault_of fault) → ((at len : ℕ) → A at len → B at len)
    → tallies.LacksPart A pieces fault → MatchResult r good (LacksPart B pieces)
faulted good A B pieces fault (Ok x) h wider cause = absurd h
faulted good A B pieces fault (Err e) h wider cause = subst (LacksPart B pieces) (sym h) (cause_of A B pieces fault wider cause)

-- what is asked for of look-ups is asked for of a request that needs them
pub of_lookups : (v : PartView) (s : Schema) (ds : List Placed) (p : Parts) (r : LeafRequest) (ls : List Lookup) (at len : ℕ) → AsksLookups v s ds p ls at len → AsksWith v s ds p r ls at len
of_lookups v s ds p r ls at len (inl h) = inl h
of_lookups v s ds p r ls at len (inr h) = inr (inl h)

many_from : (test : List DocField → Bool) (n : ℕ) (ds : List Placed) → length (numbers_from test n ds) ≡ length (filter (λ d. test d.doc) ds)
many_from test n [] = refl
many_from test n (d ∷ ds) = go (test d.doc) (many_from test (suc n) ds)
  where
    go : (b : Bool) → length (numbers_from test (suc n) ds) ≡ length (filter (λ e. test e.doc) ds) → length (cond b (n ∷ numbers_from test (suc n) ds) (numbers_from test (suc n) ds)) ≡ length (cond b (d ∷ filter (λ e. test e.doc) ds) (filter (λ e. test e.doc) ds))
    go true h = ap suc h
    go false h = h

-- as many numbers as documents
pub many : (test : List DocField → Bool) (ds : List Placed) → length (numbers_of test ds) ≡ length (filter (λ d. test d.doc) ds)
many test ds = many_from test 0 ds

alike_from : (test more : List DocField → Bool) (n : ℕ) (ds : List Placed) → ((d : List DocField) → test d ≡ more d) → numbers_from test n ds ≡ numbers_from more n ds
alike_from test more n [] same = refl
alike_from test more n (d ∷ ds) same =
    ap (λ b. cond b (n ∷ numbers_from test (suc n) ds) (numbers_from test (suc n) ds)) (same d.doc) ∙ ap (λ l. cond (more d.doc) (n ∷ l) l) (alike_from test more (suc n) ds same)

and_true : (a : Bool) → a ≡ a && true
and_true true = refl
and_true false = refl

-- times without an edge leave each document
pub unlimited : (s : Schema) (times : TimeRange) (test : List DocField → Bool) (ds : List Placed) → is_unlimited times.start times.end ≡ true → numbers_of test ds ≡ numbers_of (λ d. test d && within_times s times d) ds
unlimited s times test ds e =
    alike_from test (λ d. test d && within_times s times d) 0 ds
    (λ d. and_true (test d) ∙ ap (λ u. test d && (u || has_time_within times s.timestamp d)) (sym e))

pub positive : (n : ℕ) → (n ≡ 0 → ⊥) → 0 < n
positive zero never = absurd (never refl)
positive (suc n) never = omega arith

-- where nothing is missing, a fault is want of memory
pub there_memory : {X : Type 0} (good : X → Type 0) (fault : SplitError) (r : Result X LeafError) → IsErrAnd r (λ e. e ≡ fault_of fault) → IsThere {A = Unit {0}} (Err fault) → MatchResult r good IsMemory
there_memory good fault (Ok x) h there = absurd h
there_memory good (splits.Memory a) (Err e) h there = subst IsMemory (sym h) tt
there_memory good splits.BadMagic (Err e) h there = absurd there
there_memory good (splits.Truncated at) (Err e) h there = absurd there
there_memory good (splits.BadSection number) (Err e) h there = absurd there
there_memory good (splits.BadVersion number) (Err e) h there = absurd there

-- an error that is handed on under a cause of its own
pub handed : {X : Type 0} (good : X → Type 0) (P : LeafError → Type 0) (r : Result X LeafError) (e : LeafError) → IsErrAnd r (λ y. y ≡ e) → P e → MatchResult r good P
handed good P (Ok x) e h cause = absurd h
handed good P (Err y) e h cause = subst P (sym h) cause

-- the parts of an answer over the documents of some numbers, which are given in two lists
pub is_answer : (s : Schema) (r : LeafRequest) (ds : List Placed) (a : LeafAnswer) (ns counted hit : List ℕ) → ns ≡ numbers_of (passes s r) ds → counted ≡ ns → hit ≡ ns → a.count ≡ length ns
    → a.hits ≡ firsts r.wanted r.order (picked hit ds) → NestedStands r.aggs a.partial (docs_of (picked counted ds)) → IsAnswerOf s r ds a
is_answer s r ds a ns counted hit same same_counted same_hit count hits partial =
    let them : picked ns ds ≡ found s r ds = ap (λ l. picked l ds) same ∙ picked_of (passes s r) ds in
    record {
      count = count ∙ (ap length same ∙ many (passes s r) ds);
      hits = hits ∙ ap (firsts r.wanted r.order) (ap (λ l. picked l ds) same_hit ∙ them);
      partial = subst (λ l. NestedStands r.aggs a.partial (docs_of l)) (ap (λ l. picked l ds) same_counted ∙ them) partial;
    }
