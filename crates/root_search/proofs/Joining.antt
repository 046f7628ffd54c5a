-- The answers of splits, joined one after the other, are the answer over their documents.
use Rattle.std.proofs.Common.{◌≡◌, ℕ, zero, suc, ◌+◌, ◌<◌, ◌≤◌, ◌^◌, List, [], ◌∷◌, ◌++◌, length, drop, sum_by, slice_get, Some, None, Result, Ok, Err, IfOk, IsErrAnd, IsPermutation, MatchResult, refl, ap, sym, subst, ◌∙◌, arith, add-one, append_assoc, length-append}
use Rattle.std.specs.List.{All, AllByRecursion, AllZip}
use Rattle.std.specs.Result.{IfErr}
use Rattle.std.proofs.lemmas.List.{append-nil, map-append}
use Rattle.std.proofs.lemmas.List.Elements.{All-from_recursion, All-head, All-rest, All-same, filter-append}
use Rattle.std.proofs.lemmas.List.Sorted.{IsPermutation-append_comm, IsPermutation-append_left, IsPermutation-append_right, IsPermutation-refl, IsPermutation-trans}
use Rattle.std.proofs.lemmas.List.Sums.{count_by-le-length, length-filter, sum_by-cons}
use Rattle.doc_value.specs.declared.doc.DocField.{DocField}
use Rattle.doc_value.specs.declared.schema.Schema.{Schema}
use Rattle.agg_nested.specs.Buckets.{IsNestedPartial, NestedStands, documents_counted}
use Rattle.split_bundle.specs.declared.part_view.PartView.{PartView}
use Rattle.split_bundle.specs.declared.placed.Placed.{Placed}
use Rattle.doc_tallies.specs.Orders.{firsts}
use Rattle.doc_tallies.specs.Picked.{docs_of}
use Rattle.doc_sets.specs.Faults.{IsMemory}
use Rattle.doc_sets.specs.declared.leaf_error.LeafError.{LeafError}
use Rattle.doc_sets.specs.declared.leaf_error.LeafError.TheVariants as leaf
use Rattle.leaf_search.specs.Answers.{AsksLeaf, IsAnswerOf, IsAsked, found, passes}
use Rattle.leaf_search.specs.declared.request.LeafAnswer.{LeafAnswer}
use Rattle.leaf_search.specs.declared.request.LeafRequest.{LeafRequest}
use Rattle.leaf_search.proofs.Suffices.{held_memory}
use Rattle.root_search.specs.Leaves.{AllJoined, AreJoined, AreSomeOf, FailsFirst, HasAsked, HasCauseIn, IsCounted, IsFaultIn, IsFull, IsLeafAnswer, IsNoLeaf, IsRefusedIn, IsViewOf, IsJoinOf, IsWholeViewOf, LeafGives, WantsMemory, all_hits, all_of, all_ok, count_in, placed_fault}
use Rattle.root_search.specs.declared.join_fault.JoinFault.{JoinFault}
use Rattle.root_search.specs.declared.join_fault.JoinFault.TheVariants.{Corrupt, Memory, Missing, TooMany}

-- ---- one more of a list

drop_next : {X : Type 0} (i : ℕ) (xs : List X) (x : X) (ys : List X) → drop i xs ≡ x ∷ ys → drop (suc i) xs ≡ ys
drop_next zero [] x ys h = absurd (cc)
drop_next zero (z ∷ zs) x ys h = cc
drop_next (suc i) [] x ys h = absurd (cc)
drop_next (suc i) (z ∷ zs) x ys h = drop_next i zs x ys h

pub none_left : {X : Type 0} (xs : List X) → xs ≡ drop 1 xs → xs ≡ []
none_left [] h = refl
none_left (x ∷ xs) h = absurd (omega (arith, ap length h))

-- ---- two answers, joined

pub two_joined : (s : Schema) (r : LeafRequest) (xs ys : List Placed) (one other joined : LeafAnswer) → IsAnswerOf s r xs one → IsAnswerOf s r ys other → joined.count ≡ one.count + other.count → joined.hits ≡ firsts r.wanted r.order (found s r xs ++ found s r ys)
    → NestedStands r.aggs joined.partial (docs_of (found s r xs) ++ docs_of (found s r ys)) → IsAnswerOf s r (xs ++ ys) joined
two_joined s r xs ys one other joined a b count hits partial =
    let both : found s r (xs ++ ys) ≡ found s r xs ++ found s r ys = filter-append (λ d. passes s r d.doc) xs ys in
    let long : length (found s r (xs ++ ys)) ≡ length (found s r xs) + length (found s r ys) = ap (λ (l : List Placed). length l) both ∙ length-append (found s r xs) (found s r ys) in
    let docs : docs_of (found s r xs) ++ docs_of (found s r ys) ≡ docs_of (found s r (xs ++ ys)) = sym (map-append (λ (d : Placed). d.doc) (found s r xs) (found s r ys)) ∙ ap docs_of (sym both) in
    record {
      count = omega (arith, count, a.count, b.count, long);
      hits = hits ∙ ap (firsts r.wanted r.order) (sym both);
      partial = subst (λ (ds : List (List DocField)). NestedStands r.aggs joined.partial ds) docs partial;
    }

-- ---- any answers, joined

none_joined : (s : Schema) (r : LeafRequest) (all : LeafAnswer) → IsAnswerOf s r [] all → all.hits ≡ [] → AreJoined r [] all
none_joined s r all a none = record { count = a.count; drawn = ([], subst (λ (hs : List Placed). IsPermutation (hs ++ []) []) (sym none) (IsPermutation-refl [])); hits = hits; partial = partial }
  where
    hits : (lists : List (List Placed)) → AllZip (λ (x : LeafAnswer) (own : List Placed). x.hits ≡ firsts r.wanted r.order own) [] lists → all.hits ≡ firsts r.wanted r.order (all_of lists)
    hits [] h = a.hits
    hits (own ∷ lists) h = absurd h

    partial : (lists : List (List Placed)) → AllZip (λ (x : LeafAnswer) (own : List Placed). NestedStands r.aggs x.partial (docs_of own)) [] lists → NestedStands r.aggs all.partial (docs_of (all_of lists))
    partial [] h = a.partial
    partial (own ∷ lists) h = absurd h

-- nothing matches among no documents, under whatever schema
pub vacant_joined : (r : LeafRequest) (all : LeafAnswer) → ((s : Schema) → IsAnswerOf s r [] all) → all.hits ≡ [] → AreJoined r [] all
vacant_joined r all only none = none_joined (record { fields = []; timestamp = None; dynamic = None }) r all (only (record { fields = []; timestamp = None; dynamic = None })) none

pub pair_joined : (r : LeafRequest) (one other joined : LeafAnswer) → joined.count ≡ one.count + other.count → AreSomeOf joined.hits (one.hits ++ other.hits)
    → ((xs ys : List Placed) → one.hits ≡ firsts r.wanted r.order xs → other.hits ≡ firsts r.wanted r.order ys → joined.hits ≡ firsts r.wanted r.order (xs ++ ys))
    → ((mine yours : List (List DocField)) → NestedStands r.aggs one.partial mine → NestedStands r.aggs other.partial yours → NestedStands r.aggs joined.partial (mine ++ yours)) → AreJoined r (one ∷ other ∷ []) joined
pair_joined r one other joined count drawn hits_of partial_of =
    record { count = counts; drawn = (drawn.0, subst (λ (l : List Placed). IsPermutation (joined.hits ++ drawn.0) (one.hits ++ l)) (sym (append-nil other.hits)) drawn.1); hits = hits; partial = partial }
  where
    counts : joined.count ≡ sum_by (λ (a : LeafAnswer). a.count) (one ∷ other ∷ [])
    counts = omega (arith, count, sum_by-cons (λ (a : LeafAnswer). a.count) one (other ∷ []), sum_by-cons (λ (a : LeafAnswer). a.count) other [])

    hits : (lists : List (List Placed)) → AllZip (λ (x : LeafAnswer) (own : List Placed). x.hits ≡ firsts r.wanted r.order own) (one ∷ other ∷ []) lists → joined.hits ≡ firsts r.wanted r.order (all_of lists)
    hits [] h = absurd h
    hits (xs ∷ []) h = absurd h.1
    hits (xs ∷ ys ∷ []) h = hits_of xs ys h.0 h.1.0 ∙ ap (λ (l : List Placed). firsts r.wanted r.order (xs ++ l)) (sym (append-nil ys))
    hits (xs ∷ ys ∷ zs ∷ lists) h = absurd h.1.1

    partial : (lists : List (List Placed)) → AllZip (λ (x : LeafAnswer) (own : List Placed). NestedStands r.aggs x.partial (docs_of own)) (one ∷ other ∷ []) lists → NestedStands r.aggs joined.partial (docs_of (all_of lists))
    partial [] h = absurd h
    partial (xs ∷ []) h = absurd h.1
    partial (xs ∷ ys ∷ []) h =
        let docs : docs_of xs ++ docs_of ys ≡ docs_of (xs ++ (ys ++ [])) = sym (map-append (λ (d : Placed). d.doc) xs ys) ∙ ap (λ (l : List Placed). docs_of (xs ++ l)) (sym (append-nil ys)) in
        subst (λ (ds : List (List DocField)). NestedStands r.aggs joined.partial ds) docs (partial_of (docs_of xs) (docs_of ys) h.0 h.1.0)
    partial (xs ∷ ys ∷ zs ∷ lists) h = absurd h.1.1

all_of_more : (lists : List (List Placed)) (last : List Placed) → all_of (lists ++ last ∷ []) ≡ all_of lists ++ all_of (last ∷ [])
all_of_more [] last = refl
all_of_more (xs ∷ lists) last = ap (λ (l : List Placed). xs ++ l) (all_of_more lists last) ∙ sym (append_assoc xs (all_of lists) (all_of (last ∷ [])))

-- the lists of some answers and one more
record EndsZip (R : LeafAnswer → List Placed → Type 0) (answers : List LeafAnswer) (next : LeafAnswer) (lists : List (List Placed)) : Type 0 where
  first : List (List Placed)
  last : List Placed
  lists_are : lists ≡ first ++ last ∷ []
  zipped : AllZip R answers first
  here : R next last

ends_zip : (R : LeafAnswer → List Placed → Type 0) (answers : List LeafAnswer) (next : LeafAnswer) (lists : List (List Placed)) → AllZip R (answers ++ next ∷ []) lists → EndsZip R answers next lists
ends_zip R [] next [] h = absurd h
ends_zip R [] next (xs ∷ []) h = record { first = []; last = xs; lists_are = refl; zipped = tt; here = h.0 }
ends_zip R [] next (xs ∷ ys ∷ lists) h = absurd h.1
ends_zip R (a ∷ answers) next [] h = absurd h
ends_zip R (a ∷ answers) next (xs ∷ lists) h =
    let rest = ends_zip R answers next lists h.1 in
    record { first = xs ∷ rest.first; last = rest.last; lists_are = ap (λ (l : List (List Placed)). xs ∷ l) rest.lists_are; zipped = (h.0, rest.zipped); here = rest.here }

sum_more : (answers : List LeafAnswer) (next : LeafAnswer) → sum_by (λ (a : LeafAnswer). a.count) (answers ++ next ∷ []) ≡ sum_by (λ (a : LeafAnswer). a.count) answers + next.count
sum_more [] next = omega (arith, sum_by-cons (λ (a : LeafAnswer). a.count) next [])
sum_more (a ∷ answers) next = omega (arith, sum_by-cons (λ (x : LeafAnswer). x.count) a (answers ++ next ∷ []), sum_by-cons (λ (x : LeafAnswer). x.count) a answers, sum_more answers next)

all_hits_more : (answers : List LeafAnswer) (next : LeafAnswer) → all_hits (answers ++ next ∷ []) ≡ all_hits answers ++ all_hits (next ∷ [])
all_hits_more [] next = refl
all_hits_more (a ∷ answers) next = ap (λ (l : List Placed). a.hits ++ l) (all_hits_more answers next) ∙ sym (append_assoc a.hits (all_hits answers) (all_hits (next ∷ [])))

pub some_more : (some mine yours more all : List Placed) → AreSomeOf some all → AreSomeOf mine (some ++ yours) → more ≡ all ++ yours → AreSomeOf mine more
some_more some mine yours more all a b e =
    let one = IsPermutation-append_left a.0 (mine ++ b.0) (some ++ yours) b.1 in
    let two = IsPermutation-append_right some (yours ++ a.0) (a.0 ++ yours) (IsPermutation-append_comm yours a.0) in
    let three = IsPermutation-append_left yours (some ++ a.0) all a.1 in (
      b.0 ++ a.0,
      IsPermutation-trans (mine ++ (b.0 ++ a.0)) (some ++ (yours ++ a.0)) more
          (subst (λ (l : List Placed). IsPermutation l (some ++ (yours ++ a.0))) (append_assoc mine b.0 a.0) (subst (λ (l : List Placed). IsPermutation ((mine ++ b.0) ++ a.0) l) (append_assoc some yours a.0) one))
          (IsPermutation-trans (some ++ (yours ++ a.0)) (some ++ (a.0 ++ yours)) more two
          (subst (λ (l : List Placed). IsPermutation l more) (append_assoc some a.0 yours) (subst (λ (l : List Placed). IsPermutation ((some ++ a.0) ++ yours) l) (sym e) three))),
    )

-- one more answer
more_joined : (r : LeafRequest) (answers : List LeafAnswer) (all next all' : LeafAnswer) → AreJoined r answers all → AreJoined r (all ∷ next ∷ []) all' → AreJoined r (answers ++ next ∷ []) all'
more_joined r answers all next all' j two =
    record { count = counts; drawn = some_more all.hits all'.hits (all_hits (next ∷ [])) (all_hits (answers ++ next ∷ [])) (all_hits answers) j.drawn two.drawn (all_hits_more answers next); hits = hits; partial = partial }
  where
    counts : all'.count ≡ sum_by (λ (a : LeafAnswer). a.count) (answers ++ next ∷ [])
    counts = omega (arith, j.count, two.count, sum_by-cons (λ (a : LeafAnswer). a.count) all (next ∷ []), sum_by-cons (λ (a : LeafAnswer). a.count) next [], sum_more answers next)

    hits : (lists : List (List Placed)) → AllZip (λ (x : LeafAnswer) (own : List Placed). x.hits ≡ firsts r.wanted r.order own) (answers ++ next ∷ []) lists → all'.hits ≡ firsts r.wanted r.order (all_of lists)
    hits lists h =
        let e = ends_zip (λ (x : LeafAnswer) (own : List Placed). x.hits ≡ firsts r.wanted r.order own) answers next lists h in
        two.hits (all_of e.first ∷ e.last ∷ []) (j.hits e.first e.zipped, (e.here, tt)) ∙ ap (firsts r.wanted r.order) (sym (ap all_of e.lists_are ∙ all_of_more e.first e.last))

    partial : (lists : List (List Placed)) → AllZip (λ (x : LeafAnswer) (own : List Placed). NestedStands r.aggs x.partial (docs_of own)) (answers ++ next ∷ []) lists → NestedStands r.aggs all'.partial (docs_of (all_of lists))
    partial lists h =
        let e = ends_zip (λ (x : LeafAnswer) (own : List Placed). NestedStands r.aggs x.partial (docs_of own)) answers next lists h in
        subst (λ (l : List Placed). NestedStands r.aggs all'.partial (docs_of l)) (sym (ap all_of e.lists_are ∙ all_of_more e.first e.last)) (two.partial (all_of e.first ∷ e.last ∷ []) (j.partial e.first e.zipped, (e.here, tt)))

-- ---- the answers of the first so many splits are joined

-- each answer is that over its documents
abbrev pub AreAnswers : Schema → LeafRequest → List (Result LeafAnswer LeafError) → List (List Placed) → Type 0
AreAnswers s r answers lists = AllZip (λ answer documents. IfOk answer (IsAnswerOf s r documents)) answers lists

-- some lists were joined, and those of the other answers are left
pub record IsJoined (s : Schema) (r : LeafRequest) (left : List (Result LeafAnswer LeafError)) (lists : List (List Placed)) (all : LeafAnswer) : Type 0 where
  pub prior : List Placed
  pub later : List (List Placed)
  pub zipped : AreAnswers s r left later
  pub answer : IsAnswerOf s r prior all
  pub joined : prior ++ all_of later ≡ all_of lists

pub record IsJoining (r : LeafRequest) (answers left : List (Result LeafAnswer LeafError)) (place : ℕ) (all : LeafAnswer) : Type 0 where
  pub counted : IsCounted r all
  pub good : All (λ answer. IfOk answer (IsCounted r)) left
  pub rest : drop place answers ≡ left
  pub within : place + length left ≡ length answers
  pub sum : all.count + sum_by count_in left ≡ sum_by count_in answers
  pub front : List LeafAnswer
  pub parts : all_ok front ++ left ≡ answers
  pub joined : AreJoined r front all
  pub only : (s : Schema) (lists : List (List Placed)) → AreAnswers s r answers lists → IsJoined s r left lists all

pub joining_begun : (r : LeafRequest) (answers left : List (Result LeafAnswer LeafError)) (all : LeafAnswer) → left ≡ answers → All (λ answer. IfOk answer (IsCounted r)) answers → IsCounted r all → AreJoined r [] all
    → ((s : Schema) → IsAnswerOf s r [] all) → IsJoining r answers left 0 all
joining_begun r answers left all e good counted joined only =
    record {
      counted = counted;
      good = All-same (λ answer. IfOk answer (IsCounted r)) left answers e good;
      rest = sym e;
      within = omega (arith, ap length e);
      sum = omega (arith, ap (sum_by count_in) e, joined.count);
      front = [];
      parts = e;
      joined = joined;
      only = λ s lists h. record {
        prior = [];
        later = lists;
        zipped = subst (λ ls. AreAnswers s r ls lists) (sym e) h;
        answer = only s;
        joined = refl;
      };
    }

joined_more : (s : Schema) (r : LeafRequest) (left : List (Result LeafAnswer LeafError)) (lists : List (List Placed)) (all next all' : LeafAnswer) → IsJoined s r (Ok next ∷ left) lists all
    → ((xs ys : List Placed) → IsAnswerOf s r xs all → IsAnswerOf s r ys next → IsAnswerOf s r (xs ++ ys) all') → IsJoined s r left lists all'
joined_more s r left lists all next all' j add = go j.later j.zipped j.joined
  where
    go : (later : List (List Placed)) → AreAnswers s r (Ok next ∷ left) later → j.prior ++ all_of later ≡ all_of lists → IsJoined s r left lists all'
    go [] zipped e = absurd zipped
    go (documents ∷ later) zipped e =
        record {
          prior = j.prior ++ documents;
          later = later;
          zipped = zipped.1;
          answer = add j.prior documents j.answer zipped.0;
          joined = append_assoc j.prior documents (all_of later) ∙ e;
        }

ok_more : (front : List LeafAnswer) (next : LeafAnswer) (left : List (Result LeafAnswer LeafError)) → all_ok (front ++ next ∷ []) ++ left ≡ all_ok front ++ Ok next ∷ left
ok_more [] next left = refl
ok_more (x ∷ front) next left = ap (λ (l : List (Result LeafAnswer LeafError)). Ok x ∷ l) (ok_more front next left)

pub joining_more : (r : LeafRequest) (answers left left' : List (Result LeafAnswer LeafError)) (place : ℕ) (all next all' : LeafAnswer) → IsJoining r answers left place all → left ≡ Ok next ∷ left' → IsCounted r all' → AreJoined r (all ∷ next ∷ []) all'
    → ((s : Schema) (xs ys : List Placed) → IsAnswerOf s r xs all → IsAnswerOf s r ys next → IsAnswerOf s r (xs ++ ys) all') → IsJoining r answers left' (place + 1) all'
joining_more r answers left left' place all next all' j e counted two add =
    let long : length left ≡ suc (length left') = ap length e in
    let more : sum_by count_in left ≡ next.count + sum_by count_in left' = ap (sum_by count_in) e ∙ sum_by-cons count_in (Ok next) left' in
    record {
      counted = counted;
      good = All-rest (λ answer. IfOk answer (IsCounted r)) (Ok next) left' left e j.good;
      rest = rw add-one (drop_next place answers (Ok next) left' (j.rest ∙ e));
      within = omega (arith, long, j.within);
      sum = omega (arith, more, j.sum, two.count, sum_by-cons (λ (a : LeafAnswer). a.count) all (next ∷ []), sum_by-cons (λ (a : LeafAnswer). a.count) next []);
      front = j.front ++ next ∷ [];
      parts = ok_more j.front next left' ∙ (ap (λ (l : List (Result LeafAnswer LeafError)). all_ok j.front ++ l) (sym e) ∙ j.parts);
      joined = more_joined r j.front all next all' j.joined two;
      only = λ s lists h. joined_more s r left' lists all next all' (subst (λ ls. IsJoined s r ls lists all) e (j.only s lists h)) (add s);
    }

pub next_counted : (r : LeafRequest) (answers left left' : List (Result LeafAnswer LeafError)) (place : ℕ) (all next : LeafAnswer) → IsJoining r answers left place all → left ≡ Ok next ∷ left' → IsCounted r next
next_counted r answers left left' place all next j e =
    All-head (λ answer. IfOk answer (IsCounted r)) (Ok next) left' (All-same (λ answer. IfOk answer (IsCounted r)) (Ok next ∷ left') left (sym e) j.good)

-- all are joined
pub all_joined : (r : LeafRequest) (answers left : List (Result LeafAnswer LeafError)) (place : ℕ) (all : LeafAnswer) → IsJoining r answers left place all → left ≡ [] → (s : Schema) (lists : List (List Placed)) → AreAnswers s r answers lists
    → IsAnswerOf s r (all_of lists) all
all_joined r answers left place all j none s lists h = go _ (subst (λ ls. AreAnswers s r ls joined.later) none joined.zipped) joined.joined
  where
    joined : IsJoined s r left lists all
    joined = j.only s lists h

    go : (later : List (List Placed)) → AreAnswers s r [] later → joined.prior ++ all_of later ≡ all_of lists → IsAnswerOf s r (all_of lists) all
    go [] zipped e = subst (λ ds. IsAnswerOf s r ds all) (sym (append-nil joined.prior) ∙ e) joined.answer
    go (documents ∷ later) zipped e = absurd zipped

-- each of them answered
pub each_joined : (r : LeafRequest) (answers left : List (Result LeafAnswer LeafError)) (place : ℕ) (all : LeafAnswer) → IsJoining r answers left place all → left ≡ [] → AllJoined r answers all
each_joined r answers left place all j none = (j.front, sym j.parts ∙ (ap (λ (l : List (Result LeafAnswer LeafError)). all_ok j.front ++ l) none ∙ append-nil (all_ok j.front)), j.joined)

-- ---- faults

fault_in : (answers : List (Result LeafAnswer LeafError)) (place : ℕ) (fault : LeafError) → FailsFirst answers place fault → IsFaultIn answers (placed_fault place fault)
fault_in answers place (leaf.Memory a) h = tt
fault_in answers place (leaf.Missing at) h = h
fault_in answers place (leaf.Corrupt section) h = h

long_ok : (front : List LeafAnswer) → length (all_ok front) ≡ length front
long_ok [] = refl
long_ok (x ∷ front) = ap suc (long_ok front)

pub fault_joined : (r : LeafRequest) (answers left left' : List (Result LeafAnswer LeafError)) (place : ℕ) (all : LeafAnswer) (fault : LeafError) (e : JoinFault) → IsJoining r answers left place all → left ≡ Err fault ∷ left' → e ≡ placed_fault place fault
    → IsFaultIn answers e
fault_joined r answers left left' place all fault e j is placed =
    let long : length (all_ok j.front) + length left ≡ length answers = sym (length-append (all_ok j.front) left) ∙ ap length j.parts in
    subst (IsFaultIn answers) (sym placed)
    (fault_in answers place fault (record {
      front = j.front;
      rest = left';
      answers_are = sym j.parts ∙ ap (λ (l : List (Result LeafAnswer LeafError)). all_ok j.front ++ l) is;
      place_is = omega (arith, long, j.within, long_ok j.front);
    }))

-- its place among the answers
fails_at : (answers : List (Result LeafAnswer LeafError)) (place : ℕ) (fault : LeafError) → FailsFirst answers place fault → slice_get answers place ≡ Some (Err fault)
fails_at answers place fault f =
    subst (λ (l : List (Result LeafAnswer LeafError)). slice_get l place ≡ Some (Err fault)) (sym f.answers_are) (subst (λ (n : ℕ). slice_get (all_ok f.front ++ Err fault ∷ f.rest) n ≡ Some (Err fault)) (sym f.place_is) (behind f.front))
  where
    behind : (front : List LeafAnswer) → slice_get (all_ok front ++ Err fault ∷ f.rest) (length front) ≡ Some (Err fault)
    behind [] = refl
    behind (x ∷ front) = behind front

full_fault : (r : LeafRequest) (answers left left' : List (Result LeafAnswer LeafError)) (place : ℕ) (all next : LeafAnswer) (e : JoinFault) → IsJoining r answers left place all → left ≡ Ok next ∷ left' → IsFull (all.count + next.count) e
    → IsFaultIn answers e
full_fault r answers left left' place all next (Memory a) j is full = tt
full_fault r answers left left' place all next TooMany j is full =
    let more : sum_by count_in left ≡ next.count + sum_by count_in left' = ap (sum_by count_in) is ∙ sum_by-cons count_in (Ok next) left' in
    omega (arith, more, j.sum, full)
full_fault r answers left left' place all next (Missing from at) j is full = absurd full
full_fault r answers left left' place all next (Corrupt from section) j is full = absurd full

-- what is handed on where so many are not counted
pub full_joined : (r : LeafRequest) (answers left left' : List (Result LeafAnswer LeafError)) (place : ℕ) (all next : LeafAnswer) (e : JoinFault) (result : Result LeafAnswer JoinFault) → IsJoining r answers left place all → left ≡ Ok next ∷ left' → IsFull (all.count + next.count) e
    → IsErrAnd result (λ y. y ≡ e) → IfErr result (IsFaultIn answers)
full_joined r answers left left' place all next e (Ok a) j is full h = tt
full_joined r answers left left' place all next e (Err y) j is full h = subst (IsFaultIn answers) (sym h) (full_fault r answers left left' place all next e j is full)

-- ---- the answers of views

answer_if : (s : Schema) (r : LeafRequest) (documents : List Placed) (Q : LeafError → Type 0) (answer : Result LeafAnswer LeafError) → MatchResult answer (IsAnswerOf s r documents) Q → IfOk answer (IsAnswerOf s r documents)
answer_if s r documents Q (Ok a) h = h
answer_if s r documents Q (Err fault) h = tt

are_answers : (s : Schema) (r : LeafRequest) (views : List PartView) (lists : List (List Placed)) (answers : List (Result LeafAnswer LeafError)) → AllZip (IsLeafAnswer s r) views answers → AllZip (IsViewOf s) views lists → IsAsked s r → AreAnswers s r answers lists
are_answers s r [] [] [] leaves are asked = tt
are_answers s r [] [] (a ∷ answers) leaves are asked = absurd leaves
are_answers s r [] (ds ∷ lists) answers leaves are asked = absurd are
are_answers s r (v ∷ views) [] answers leaves are asked = absurd are
are_answers s r (v ∷ views) (ds ∷ lists) [] leaves are asked = absurd leaves
are_answers s r (v ∷ views) (ds ∷ lists) (a ∷ answers) leaves are asked =
    (answer_if s r ds _ a (leaves.0.only ds are.0.parts are.0.is_part asked), are_answers s r views lists answers leaves.1 are.1 asked)

pub are_counted : (s : Schema) (r : LeafRequest) (views : List PartView) (answers : List (Result LeafAnswer LeafError)) → AllZip (IsLeafAnswer s r) views answers → All (λ answer. IfOk answer (IsCounted r)) answers
are_counted s r views answers leaves = All-from_recursion (λ answer. IfOk answer (IsCounted r)) answers (go views answers leaves)
  where
    go : (views : List PartView) (answers : List (Result LeafAnswer LeafError)) → AllZip (IsLeafAnswer s r) views answers → AllByRecursion (λ answer. IfOk answer (IsCounted r)) answers
    go [] [] leaves = tt
    go [] (a ∷ answers) leaves = absurd leaves
    go (v ∷ views) [] leaves = absurd leaves
    go (v ∷ views) (a ∷ answers) leaves = (leaves.0.counted, go views answers leaves.1)

pub leaf_counted : (r : LeafRequest) (answer : Result LeafAnswer LeafError) → IfOk answer (λ a. IsNestedPartial r.aggs a.partial) → IfOk answer (λ a. documents_counted a.partial ≡ a.count) → IfOk answer (IsCounted r)
leaf_counted r (Ok a) h k = record { partial = h; many = k }
leaf_counted r (Err fault) h k = tt

found_few : (s : Schema) (r : LeafRequest) (documents : List Placed) → length (found s r documents) ≤ length documents
found_few s r documents = omega (arith, length-filter (λ (d : Placed). passes s r d.doc) documents, count_by-le-length (λ (d : Placed). passes s r d.doc) documents)

more_few : (answer : Result LeafAnswer LeafError) (ds : List Placed) (answers : List (Result LeafAnswer LeafError)) (lists : List (List Placed)) → count_in answer ≤ length ds → sum_by count_in answers ≤ length (all_of lists)
    → sum_by count_in (answer ∷ answers) ≤ length (ds ++ all_of lists)
more_few answer ds answers lists here rest = omega (arith, sum_by-cons count_in answer answers, length-append ds (all_of lists), here, rest)

counts_few : (s : Schema) (r : LeafRequest) (answers : List (Result LeafAnswer LeafError)) (lists : List (List Placed)) → AreAnswers s r answers lists → sum_by count_in answers ≤ length (all_of lists)
counts_few s r [] [] h = omega arith
counts_few s r [] (ds ∷ lists) h = absurd h
counts_few s r (a ∷ answers) [] h = absurd h
counts_few s r (Ok a ∷ answers) (ds ∷ lists) h =
    let here : a.count ≤ length ds = omega (arith, h.0.count, found_few s r ds) in
    more_few (Ok a) ds answers lists here (counts_few s r answers lists h.1)
counts_few s r (Err fault ∷ answers) (ds ∷ lists) h = more_few (Err fault) ds answers lists (omega arith) (counts_few s r answers lists h.1)

-- the view and the documents at the place of a fault
record IsAt (s : Schema) (r : LeafRequest) (views : List PartView) (lists : List (List Placed)) (place : ℕ) (fault : LeafError) : Type 0 where
  view : PartView
  documents : List Placed
  seen : slice_get views place ≡ Some view
  listed : slice_get lists place ≡ Some documents
  is_view : IsViewOf s view documents
  is_leaf : IsLeafAnswer s r view (Err fault)

at_fault : (s : Schema) (r : LeafRequest) (views : List PartView) (lists : List (List Placed)) (answers : List (Result LeafAnswer LeafError)) (place : ℕ) (fault : LeafError) → AllZip (IsLeafAnswer s r) views answers → AllZip (IsViewOf s) views lists
    → slice_get answers place ≡ Some (Err fault) → IsAt s r views lists place fault
at_fault s r [] [] [] place fault leaves are h = absurd (cc)
at_fault s r [] [] (a ∷ answers) place fault leaves are h = absurd leaves
at_fault s r [] (ds ∷ lists) answers place fault leaves are h = absurd are
at_fault s r (v ∷ views) [] answers place fault leaves are h = absurd are
at_fault s r (v ∷ views) (ds ∷ lists) [] place fault leaves are h = absurd leaves
at_fault s r (v ∷ views) (ds ∷ lists) (a ∷ answers) zero fault leaves are h =
    let here : a ≡ Err fault = cc in
    record {
      view = v;
      documents = ds;
      seen = refl;
      listed = refl;
      is_view = are.0;
      is_leaf = subst (IsLeafAnswer s r v) here leaves.0;
    }
at_fault s r (v ∷ views) (ds ∷ lists) (a ∷ answers) (suc place) fault leaves are h =
    let rest = at_fault s r views lists answers place fault leaves.1 are.1 h in
    record {
      view = rest.view;
      documents = rest.documents;
      seen = rest.seen;
      listed = rest.listed;
      is_view = rest.is_view;
      is_leaf = rest.is_leaf;
    }

fault_cause : (s : Schema) (r : LeafRequest) (views : List PartView) (lists : List (List Placed)) (answers : List (Result LeafAnswer LeafError)) (e : JoinFault) → AllZip (IsLeafAnswer s r) views answers → AllZip (IsViewOf s) views lists
    → length (all_of lists) < 2 ^ 62 → IsAsked s r → IsFaultIn answers e → HasCauseIn s r views lists e
fault_cause s r views lists answers (Memory a) leaves are few asked h = tt
fault_cause s r views lists answers (Missing place at) leaves are few asked h =
    let there = at_fault s r views lists answers place (leaf.Missing at) leaves are (fails_at answers place (leaf.Missing at) h) in
    let cause = there.is_leaf.only there.documents there.is_view.parts there.is_view.is_part asked in
    record {
      view = there.view;
      documents = there.documents;
      parts = there.is_view.parts;
      seen = there.seen;
      listed = there.listed;
      is_part = there.is_view.is_part;
      len = cause.0;
      asks = cause.1;
      none = cause.2;
    }
fault_cause s r views lists answers (Corrupt place section) leaves are few asked h =
    let there = at_fault s r views lists answers place (leaf.Corrupt section) leaves are (fails_at answers place (leaf.Corrupt section) h) in
    there.is_leaf.only there.documents there.is_view.parts there.is_view.is_part asked
fault_cause s r views lists answers TooMany leaves are few asked h =
    absurd (omega (arith, h, few, counts_few s r answers lists (are_answers s r views lists answers leaves are asked)))

pub all_searched : (s : Schema) (r : LeafRequest) (views : List PartView) (lists : List (List Placed)) (answers : List (Result LeafAnswer LeafError)) (result : Result LeafAnswer JoinFault) → AllZip (IsLeafAnswer s r) views answers
    → ((lists : List (List Placed)) → AreAnswers s r answers lists → IfOk result (IsAnswerOf s r (all_of lists))) → IfErr result (IsFaultIn answers) → AllZip (IsViewOf s) views lists → length (all_of lists) < 2 ^ 62 → IsAsked s r
    → MatchResult result (IsAnswerOf s r (all_of lists)) (HasCauseIn s r views lists)
all_searched s r views lists answers (Ok a) leaves ok err are few asked = ok lists (are_answers s r views lists answers leaves are asked)
all_searched s r views lists answers (Err e) leaves ok err are few asked = fault_cause s r views lists answers e leaves are few asked err

-- ---- whole files

pub whole_views : (s : Schema) (views : List PartView) (lists : List (List Placed)) → AllZip (IsWholeViewOf s) views lists → AllZip (IsViewOf s) views lists
whole_views s [] [] are = tt
whole_views s [] (ds ∷ lists) are = absurd are
whole_views s (v ∷ views) [] are = absurd are
whole_views s (v ∷ views) (ds ∷ lists) are = (record { parts = are.0.parts; is_part = are.0.is_part }, whole_views s views lists are.1)

-- the fault of a whole file is want of memory
whole_fault : (s : Schema) (r : LeafRequest) (views : List PartView) (lists : List (List Placed)) (answers : List (Result LeafAnswer LeafError)) (place : ℕ) (fault : LeafError) → AllZip (IsLeafAnswer s r) views answers → AllZip (IsWholeViewOf s) views lists
    → IsAsked s r → slice_get answers place ≡ Some (Err fault) → IsMemory fault
whole_fault s r [] [] [] place fault leaves are asked h = absurd (cc)
whole_fault s r [] [] (a ∷ answers) place fault leaves are asked h = absurd leaves
whole_fault s r [] (ds ∷ lists) answers place fault leaves are asked h = absurd are
whole_fault s r (v ∷ views) [] answers place fault leaves are asked h = absurd are
whole_fault s r (v ∷ views) (ds ∷ lists) [] place fault leaves are asked h = absurd leaves
whole_fault s r (v ∷ views) (ds ∷ lists) (a ∷ answers) zero fault leaves are asked h =
    let here : a ≡ Err fault = cc in
    (subst (IsLeafAnswer s r v) here leaves.0).there ds are.0.parts are.0.is_part are.0.all asked
whole_fault s r (v ∷ views) (ds ∷ lists) (a ∷ answers) (suc place) fault leaves are asked h = whole_fault s r views lists answers place fault leaves.1 are.1 asked h

whole_cause : (s : Schema) (r : LeafRequest) (views : List PartView) (lists : List (List Placed)) (answers : List (Result LeafAnswer LeafError)) (e : JoinFault) → AllZip (IsLeafAnswer s r) views answers → AllZip (IsWholeViewOf s) views lists
    → length (all_of lists) < 2 ^ 62 → IsAsked s r → IsFaultIn answers e → WantsMemory e
whole_cause s r views lists answers (Memory a) leaves are few asked h = tt
whole_cause s r views lists answers (Missing place at) leaves are few asked h = whole_fault s r views lists answers place (leaf.Missing at) leaves are asked (fails_at answers place (leaf.Missing at) h)
whole_cause s r views lists answers (Corrupt place section) leaves are few asked h = whole_fault s r views lists answers place (leaf.Corrupt section) leaves are asked (fails_at answers place (leaf.Corrupt section) h)
whole_cause s r views lists answers TooMany leaves are few asked h =
    absurd (omega (arith, h, few, counts_few s r answers lists (are_answers s r views lists answers leaves (whole_views s views lists are) asked)))

pub whole_searched : (s : Schema) (r : LeafRequest) (views : List PartView) (lists : List (List Placed)) (answers : List (Result LeafAnswer LeafError)) (result : Result LeafAnswer JoinFault) → AllZip (IsLeafAnswer s r) views answers
    → ((lists : List (List Placed)) → AreAnswers s r answers lists → IfOk result (IsAnswerOf s r (all_of lists))) → IfErr result (IsFaultIn answers) → AllZip (IsWholeViewOf s) views lists → length (all_of lists) < 2 ^ 62 → IsAsked s r
    → MatchResult result (IsAnswerOf s r (all_of lists)) WantsMemory
whole_searched s r views lists answers (Ok a) leaves ok err are few asked = ok lists (are_answers s r views lists answers leaves (whole_views s views lists are) asked)
whole_searched s r views lists answers (Err e) leaves ok err are few asked = whole_cause s r views lists answers e leaves are few asked err

-- ---- views that have what is asked for

pub asked_views : (s : Schema) (r : LeafRequest) (views : List PartView) (lists : List (List Placed)) → AllZip (HasAsked s r) views lists → AllZip (IsViewOf s) views lists
asked_views s r [] [] are = tt
asked_views s r [] (ds ∷ lists) are = absurd are
asked_views s r (v ∷ views) [] are = absurd are
asked_views s r (v ∷ views) (ds ∷ lists) are = (record { parts = are.0.parts; is_part = are.0.is_part }, asked_views s r views lists are.1)

asked_fault : (s : Schema) (r : LeafRequest) (views : List PartView) (lists : List (List Placed)) (answers : List (Result LeafAnswer LeafError)) (place : ℕ) (fault : LeafError) → AllZip (IsLeafAnswer s r) views answers → AllZip (HasAsked s r) views lists
    → IsAsked s r → slice_get answers place ≡ Some (Err fault) → IsMemory fault
asked_fault s r [] [] [] place fault leaves are asked h = absurd (cc)
asked_fault s r [] [] (a ∷ answers) place fault leaves are asked h = absurd leaves
asked_fault s r [] (ds ∷ lists) answers place fault leaves are asked h = absurd are
asked_fault s r (v ∷ views) [] answers place fault leaves are asked h = absurd are
asked_fault s r (v ∷ views) (ds ∷ lists) [] place fault leaves are asked h = absurd leaves
asked_fault s r (v ∷ views) (ds ∷ lists) (a ∷ answers) zero fault leaves are asked h =
    let here : a ≡ Err fault = cc in
    held_memory (AsksLeaf v s ds are.0.parts r) v.pieces fault are.0.held ((subst (IsLeafAnswer s r v) here leaves.0).only ds are.0.parts are.0.is_part asked)
asked_fault s r (v ∷ views) (ds ∷ lists) (a ∷ answers) (suc place) fault leaves are asked h = asked_fault s r views lists answers place fault leaves.1 are.1 asked h

asked_cause : (s : Schema) (r : LeafRequest) (views : List PartView) (lists : List (List Placed)) (answers : List (Result LeafAnswer LeafError)) (e : JoinFault) → AllZip (IsLeafAnswer s r) views answers → AllZip (HasAsked s r) views lists
    → length (all_of lists) < 2 ^ 62 → IsAsked s r → IsFaultIn answers e → WantsMemory e
asked_cause s r views lists answers (Memory a) leaves are few asked h = tt
asked_cause s r views lists answers (Missing place at) leaves are few asked h = asked_fault s r views lists answers place (leaf.Missing at) leaves are asked (fails_at answers place (leaf.Missing at) h)
asked_cause s r views lists answers (Corrupt place section) leaves are few asked h = asked_fault s r views lists answers place (leaf.Corrupt section) leaves are asked (fails_at answers place (leaf.Corrupt section) h)
asked_cause s r views lists answers TooMany leaves are few asked h =
    absurd (omega (arith, h, few, counts_few s r answers lists (are_answers s r views lists answers leaves (asked_views s r views lists are) asked)))

pub asked_searched : (s : Schema) (r : LeafRequest) (views : List PartView) (lists : List (List Placed)) (answers : List (Result LeafAnswer LeafError)) (result : Result LeafAnswer JoinFault) → AllZip (IsLeafAnswer s r) views answers
    → ((lists : List (List Placed)) → AreAnswers s r answers lists → IfOk result (IsAnswerOf s r (all_of lists))) → IfErr result (IsFaultIn answers) → AllZip (HasAsked s r) views lists → length (all_of lists) < 2 ^ 62 → IsAsked s r
    → MatchResult result (IsAnswerOf s r (all_of lists)) WantsMemory
asked_searched s r views lists answers (Ok a) leaves ok err are few asked = ok lists (are_answers s r views lists answers leaves (asked_views s r views lists are) asked)
asked_searched s r views lists answers (Err e) leaves ok err are few asked = asked_cause s r views lists answers e leaves are few asked err

-- ---- any views

-- the views of the answers before a fault, and that of the fault
record Parted (s : Schema) (r : LeafRequest) (views : List PartView) (answers : List LeafAnswer) (fault : LeafError) : Type 0 where
  front : List PartView
  view : PartView
  rest : List PartView
  views_are : views ≡ front ++ view ∷ rest
  before : AllZip (LeafGives s r) front answers
  failed : IsLeafAnswer s r view (Err fault)

parted : (s : Schema) (r : LeafRequest) (views : List PartView) (answers : List LeafAnswer) (fault : LeafError) (rest : List (Result LeafAnswer LeafError)) → AllZip (IsLeafAnswer s r) views (all_ok answers ++ Err fault ∷ rest) → Parted s r views answers fault
parted s r [] [] fault rest h = absurd h
parted s r [] (a ∷ answers) fault rest h = absurd h
parted s r (v ∷ views) [] fault rest h = record { front = []; view = v; rest = views; views_are = refl; before = tt; failed = h.0 }
parted s r (v ∷ views) (a ∷ answers) fault rest h =
    let p = parted s r views answers fault rest h.1 in
    record { front = v ∷ p.front; view = p.view; rest = p.rest; views_are = ap (λ (l : List PartView). v ∷ l) p.views_are; before = (h.0, p.before); failed = p.failed }

same_long : {A B : Type 0} (R : A → B → Type 0) (xs : List A) (ys : List B) → AllZip R xs ys → length ys ≡ length xs
same_long R [] [] h = refl
same_long R [] (y ∷ ys) h = absurd h
same_long R (x ∷ xs) [] h = absurd h
same_long R (x ∷ xs) (y ∷ ys) h = ap suc (same_long R xs ys h.1)

no_leaf : (s : Schema) (r : LeafRequest) (views : List PartView) (answers : List (Result LeafAnswer LeafError)) (place : ℕ) (fault : LeafError) → (IsMemory fault → ⊥) → AllZip (IsLeafAnswer s r) views answers → FailsFirst answers place fault
    → IsNoLeaf s r views place fault
no_leaf s r views answers place fault other leaves f =
    let p = parted s r views f.front fault f.rest (subst (λ (l : List (Result LeafAnswer LeafError)). AllZip (IsLeafAnswer s r) views l) f.answers_are leaves) in
    record {
      front = p.front;
      view = p.view;
      rest = p.rest;
      views_are = p.views_are;
      place_is = f.place_is ∙ same_long (LeafGives s r) p.front f.front p.before;
      answers = f.front;
      before = p.before;
      failed = p.failed;
      none = λ documents asked has. other (held_memory (AsksLeaf p.view s documents has.parts r) p.view.pieces fault has.held (p.failed.only documents has.parts has.is_part asked));
    }

pub refused_in : (s : Schema) (r : LeafRequest) (views : List PartView) (answers : List (Result LeafAnswer LeafError)) (result : Result LeafAnswer JoinFault) → AllZip (IsLeafAnswer s r) views answers → IfErr result (IsFaultIn answers) → IfErr result (IsRefusedIn s r views)
refused_in s r views answers (Ok a) leaves h = tt
refused_in s r views answers (Err (Memory a)) leaves h = tt
refused_in s r views answers (Err (Missing place at)) leaves h = no_leaf s r views answers place (leaf.Missing at) (λ never. never) leaves h
refused_in s r views answers (Err (Corrupt place section)) leaves h = no_leaf s r views answers place (leaf.Corrupt section) (λ never. never) leaves h
refused_in s r views answers (Err TooMany) leaves h = tt

all_give : (s : Schema) (r : LeafRequest) (views : List PartView) (given : List LeafAnswer) → AllZip (IsLeafAnswer s r) views (all_ok given) → AllZip (LeafGives s r) views given
all_give s r [] [] h = tt
all_give s r [] (a ∷ given) h = absurd h
all_give s r (v ∷ views) [] h = absurd h
all_give s r (v ∷ views) (a ∷ given) h = (h.0, all_give s r views given h.1)

pub join_of : (s : Schema) (r : LeafRequest) (views : List PartView) (answers : List (Result LeafAnswer LeafError)) (result : Result LeafAnswer JoinFault) → AllZip (IsLeafAnswer s r) views answers → IfOk result (AllJoined r answers) → IfOk result (IsJoinOf s r views)
join_of s r views answers (Ok all) leaves h =
    record { answers = h.0; are_leaves = all_give s r views h.0 (subst (λ (l : List (Result LeafAnswer LeafError)). AllZip (IsLeafAnswer s r) views l) h.1 leaves); joined = h.2 }
join_of s r views answers (Err e) leaves h = tt
