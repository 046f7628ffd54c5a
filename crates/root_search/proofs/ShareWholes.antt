-- What shares tell of what the leaves answer to the whole request, and what these answer together.
use Rattle.std.proofs.Common.{◌≡◌, inl, inr, ℕ, suc, ◌+◌, ◌<◌, ◌≤◌, ◌==◌, Bool, true, false, ◌&&◌, List, [], ◌∷◌, ◌++◌, length, map, take, drop, sum_by, Option, Some, None, Result, Ok, Err, IfNone, IfOk, IsPermutation, if◌then◌else◌, refl, ap, sym, subst, ◌∙◌, arith, append_assoc, append-nil, length-append, length-take, slice_get, take-append-drop}
use Rattle.std.specs.Bool.{OnTrue}
use Rattle.std.specs.List.{AllByRecursion, AllZip, filter}
use Rattle.std.specs.declared.alloc.AllocError.{AllocError}
use Rattle.std.specs.Option.{option_map_or}
use Rattle.std.proofs.lemmas.Bool.{cases_lt, eqb-true, false≢true}
use Rattle.std.proofs.lemmas.List.{take-append-le, take-take, take_all}
use Rattle.std.proofs.lemmas.List.Elements.{filter-append}
use Rattle.std.proofs.lemmas.List.Sorted.{IsPermutation-append_comm, IsPermutation-append_left, IsPermutation-append_right, IsPermutation-refl, IsPermutation-trans}
use Rattle.std.proofs.lemmas.List.Sums.{sum_by-cons}
use Rattle.doc_value.specs.declared.facts.TimeRange.{TimeRange}
use Rattle.doc_value.specs.declared.schema.Schema.{Schema}
use Rattle.query_ast.specs.Askable.{CanAsk}
use Rattle.query_ast.specs.Meaning.{is_unlimited, meaning, within_times}
use Rattle.query_ast.specs.Sought.{Sought, view}
use Rattle.agg_nested.specs.Buckets.{NestedStands}
use Rattle.agg_nested.specs.Checking.{CanCount}
use Rattle.agg_nested.specs.declared.nested_partial.NestedPartial.{NestedPartial}
use Rattle.agg_nested.specs.declared.request.NestedAgg.{NestedAgg}
use Rattle.split_bundle.specs.Files.{Parts}
use Rattle.split_bundle.specs.Lending.{IsPartOf}
use Rattle.split_bundle.specs.declared.footer.Footer.{Footer}
use Rattle.split_bundle.specs.declared.part_view.PartView.{PartView}
use Rattle.split_bundle.specs.declared.placed.Placed.{Placed}
use Rattle.doc_sets.specs.Reads.{AreRead}
use Rattle.doc_sets.specs.declared.dictionary_lookup.Lookup.{Lookup}
use Rattle.doc_sets.specs.declared.dictionary_lookup.Lookup.TheVariants.{Count}
use Rattle.doc_sets.specs.declared.leaf_error.LeafError.{LeafError}
use Rattle.doc_tallies.specs.Firsts.{sorted_by}
use Rattle.doc_tallies.specs.Orders.{IsSortable, comes_before, firsts}
use Rattle.doc_tallies.specs.Picked.{docs_of}
use Rattle.doc_tallies.specs.declared.hit_order.HitOrder.{HitOrder}
use Rattle.leaf_search.specs.Answers.{IsAnswerOf, IsAsked, found}
use Rattle.leaf_search.specs.Asks.{lookups_of}
use Rattle.leaf_search.specs.Counts.{count_lookups, one_key, only_counts, read_lookups}
use Rattle.leaf_search.specs.declared.request.LeafAnswer.{LeafAnswer}
use Rattle.leaf_search.specs.declared.request.LeafRequest.{LeafRequest}
use Rattle.root_search.specs.FetchedSplits.{HasDocuments}
use Rattle.root_search.specs.Leaves.{AllJoined, AreJoined, AreSomeOf, AreSure, AsksAlike, GivesShare, IsJoinOf, IsSure, IsSureAt, IsViewOf, LeafGives, all_hits, all_of, all_ok, answers_in}
use Rattle.root_search.specs.Shares.{AreEnough, IsFirstOf, IsPart, hits_in}
use Rattle.root_search.specs.declared.shares.SplitShare.{SplitShare}
use Rattle.root_search.proofs.DocumentsHeld.{documents_of, same_documents}
use Rattle.root_search.proofs.Joining.{some_more}
use Rattle.root_search.proofs.ShareHits.{IsTop, firsts_among, own_hits, whole_short}
use Rattle.root_search.proofs.ShareJoins.{are_parts, joined_are, ok_same, share_counted}

-- ---- what is looked up

-- a request that wants hits does not only count
counts_not : (r : LeafRequest) → 0 < r.wanted → only_counts r ≡ false
counts_not r some = go (r.wanted == 0) refl
  where
    go : (none : Bool) → (r.wanted == 0) ≡ none → (none && (is_unlimited r.times.start r.times.end && (length r.aggs == 0))) ≡ false
    go true e = absurd (let none : r.wanted ≡ 0 = eqb-true r.wanted 0 e in omega (arith, none, some))
    go false e = refl

-- what is looked up for a query, where its documents are only counted or not
abbrev looked_up : Footer → Schema → Bool → Sought → List Lookup
looked_up footer s only q = option_map_or (λ (key : List ℕ). Count key ∷ []) (if only then one_key s q else None) (if only then count_lookups footer s q else lookups_of footer s q)

same_reads : (s : Schema) (r asked : LeafRequest) (footer : Footer) → AsksAlike r asked → 0 < asked.wanted → 0 < r.wanted → read_lookups footer s asked ≡ read_lookups footer s r
same_reads s r asked footer alike some wanted =
    ap (λ (only : Bool). looked_up footer s only (view asked.query)) (counts_not asked some ∙ sym (counts_not r wanted)) ∙ ap (λ (q : Sought). looked_up footer s (only_counts r) q) alike.query

-- ---- what a share tells of the documents of its split

found_alike : (s : Schema) (r asked : LeafRequest) (documents : List Placed) → AsksAlike r asked → found s asked documents ≡ found s r documents
found_alike s r asked documents alike =
    ap (λ (q : Sought). filter (λ (d : Placed). meaning s d.doc q && within_times s asked.times d.doc) documents) alike.query
    ∙ ap (λ (t : TimeRange). filter (λ (d : Placed). meaning s d.doc (view r.query) && within_times s t d.doc) documents) alike.times

asked_alike : (s : Schema) (r asked : LeafRequest) → AsksAlike r asked → IsAsked s r → IsAsked s asked
asked_alike s r asked alike h =
    record {
      query = subst (λ (q : Sought). CanAsk s q) (sym alike.query) h.query;
      order = subst (λ (o : Option HitOrder). IsSortable s o) (sym alike.order) h.order;
      aggs = subst (λ (aggs : List NestedAgg). CanCount s aggs) (sym alike.aggs) h.aggs;
    }

record ShareStands (s : Schema) (r : LeafRequest) (own : List Placed) (g : SplitShare) : Type 0 where
  count : g.answer.count ≡ length (found s r own)
  hits : IsFirstOf r.order g (found s r own)
  partial : NestedStands r.aggs g.answer.partial (docs_of (found s r own))

share_stands : (s : Schema) (r : LeafRequest) (v : PartView) (g : SplitShare) (own : List Placed) (p : Parts) → GivesShare s r v g → IsPartOf v s own p → IsAsked s r → ShareStands s r own g
share_stands s r v g own p gives is asked =
    let alike = gives.alike in
    let answer = gives.is_leaf.only own p is (asked_alike s r gives.asked alike asked) in
    let same = found_alike s r gives.asked own alike in
    record {
      count = answer.count ∙ ap (λ (l : List Placed). length l) same;
      hits = answer.hits
          ∙ (ap (λ (n : ℕ). firsts n gives.asked.order (found s gives.asked own)) gives.wanted
          ∙ (ap (λ (o : Option HitOrder). firsts g.wanted o (found s gives.asked own)) alike.order ∙ ap (firsts g.wanted r.order) same));
      partial = subst (λ (l : List Placed). NestedStands r.aggs g.answer.partial (docs_of l)) same
          (subst (λ (aggs : List NestedAgg). NestedStands aggs g.answer.partial (docs_of (found s gives.asked own))) alike.aggs answer.partial);
    }

-- ---- the answer to the whole request

-- the hits of whatever documents the view is of
abbrev AreHitsOf : Schema → LeafRequest → PartView → List Placed → Type 0
AreHitsOf s r v hits = (documents : List Placed) (p : Parts) → IsPartOf v s documents p → IsAsked s r → hits ≡ firsts r.wanted r.order (found s r documents)

abbrev with_hits : LeafAnswer → List Placed → LeafAnswer
with_hits a hits = record a { hits = hits }

leaf_with : (s : Schema) (r : LeafRequest) (v : PartView) (g : SplitShare) (hits : List Placed) → GivesShare s r v g → AreHitsOf s r v hits → LeafGives s r v (with_hits g.answer hits)
leaf_with s r v g hits gives are =
    let same = gives.wanted in
    let some = gives.some in
    let few = gives.few in
    let here : 0 < gives.asked.wanted = omega (arith, same, some) in
    let all : 0 < r.wanted = omega (arith, some, few) in
    let counted = share_counted s r v g gives in
    record {
      only = λ documents p is can. answered documents p is can;
      there = λ documents p is held can. answered documents p is can;
      counted = record { partial = counted.partial; many = counted.many };
      read = subst (λ (ls : List Lookup). AreRead v ls) (same_reads s r gives.asked v.footer gives.alike here all) gives.is_leaf.read;
      faults = λ counts. absurd (false≢true (sym (counts_not r all) ∙ counts));
    }
  where
    answered : (documents : List Placed) (p : Parts) → IsPartOf v s documents p → IsAsked s r → IsAnswerOf s r documents (with_hits g.answer hits)
    answered documents p is can =
        let stands = share_stands s r v g documents p gives is can in
        record { count = stands.count; hits = are documents p is can; partial = stands.partial }

-- an answer counts what a share does, its hits begin with those of the share, and of whatever list it has the first ones the share has them too
record IsWholeOf (r : LeafRequest) (g : SplitShare) (a : LeafAnswer) : Type 0 where
  count : a.count ≡ g.answer.count
  partial : a.partial ≡ g.answer.partial
  others : List Placed
  hits : a.hits ≡ g.answer.hits ++ others
  top : (own : List Placed) → a.hits ≡ firsts r.wanted r.order own → IsTop r.order r.wanted g own

record HasWhole (s : Schema) (r : LeafRequest) (v : PartView) (g : SplitShare) : Type 0 where
  answer : LeafAnswer
  gives : LeafGives s r v answer
  whole : IsWholeOf r g answer

-- the share's own hits
whole_share : (s : Schema) (r : LeafRequest) (v : PartView) (g : SplitShare) → GivesShare s r v g → AreHitsOf s r v g.answer.hits → HasWhole s r v g
whole_share s r v g gives are =
    record {
      answer = with_hits g.answer g.answer.hits;
      gives = leaf_with s r v g g.answer.hits gives are;
      whole = record { count = refl; partial = refl; others = []; hits = sym (append-nil g.answer.hits); top = λ own top. inl top };
    }

-- the first so many of a list, and those behind them
further : {X : Type 0} (n w : ℕ) (xs : List X) → n ≤ w → take n xs ++ drop n (take w xs) ≡ take w xs
further {X = X} n w xs few = ap (λ (l : List X). l ++ drop n (take w xs)) (sym (take-take n w xs few)) ∙ take-append-drop n (take w xs)

-- the hits that begin with so many
begun_by : {X : Type 0} (n w : ℕ) (hits others xs : List X) → n ≤ w → length hits ≡ n → hits ++ others ≡ take w xs → hits ≡ take n xs
begun_by n w hits others xs few long e =
    sym (take_all n hits (omega (arith, long))) ∙ (sym (take-append-le n hits others (omega (arith, long))) ∙ (ap (take n) e ∙ take-take n w xs few))

-- where the view has its documents, the others are those of these
abbrev others_of : Schema → LeafRequest → PartView → SplitShare → List Placed
others_of s r v g = drop g.wanted (firsts r.wanted r.order (found s r (documents_of s v)))

further_hits : (s : Schema) (r : LeafRequest) (v : PartView) (g : SplitShare) → GivesShare s r v g → HasDocuments v → AreHitsOf s r v (g.answer.hits ++ others_of s r v g)
further_hits s r v g gives has documents p is can =
    let stands = share_stands s r v g documents p gives is can in
    let there = same_documents s v documents p is has in
    ap (λ (l : List Placed). l ++ others_of s r v g) stands.hits
    ∙ (ap (λ (l : List Placed). firsts g.wanted r.order (found s r documents) ++ drop g.wanted (firsts r.wanted r.order (found s r l))) there
    ∙ further g.wanted r.wanted (sorted_by (comes_before r.order) (found s r documents)) gives.few)

more_share : (s : Schema) (r : LeafRequest) (v : PartView) (g : SplitShare) → GivesShare s r v g → HasDocuments v → length g.answer.hits ≡ g.wanted → HasWhole s r v g
more_share s r v g gives has long =
    let others = others_of s r v g in
    record {
      answer = with_hits g.answer (g.answer.hits ++ others);
      gives = leaf_with s r v g (g.answer.hits ++ others) gives (further_hits s r v g gives has);
      whole = record { count = refl; partial = refl; others = others; hits = refl; top = λ own top. inr (begun_by g.wanted r.wanted g.answer.hits others (sorted_by (comes_before r.order) own) gives.few long top) };
    }

-- a share that has fewer hits than were wanted of it has all of its split
fewer_hits : (s : Schema) (r : LeafRequest) (v : PartView) (g : SplitShare) → GivesShare s r v g → length g.answer.hits < g.wanted → AreHitsOf s r v g.answer.hits
fewer_hits s r v g gives short documents p is can =
    let stands = share_stands s r v g documents p gives is can in
    whole_short (comes_before r.order) g.wanted r.wanted (found s r documents) g.answer.hits gives.few stands.hits short

-- of a split none has more
more_hits : (s : Schema) (r : LeafRequest) (v : PartView) (g : SplitShare) → GivesShare s r v g → g.wanted < length g.answer.hits → AreHitsOf s r v g.answer.hits
more_hits s r v g gives over documents p is can =
    let stands = share_stands s r v g documents p gives is can in
    let long = ap (λ (l : List Placed). length l) stands.hits ∙ length-take g.wanted (sorted_by (comes_before r.order) (found s r documents)) in
    absurd (omega (arith, over, long))

held_whole : (s : Schema) (r : LeafRequest) (v : PartView) (g : SplitShare) → GivesShare s r v g → HasDocuments v → HasWhole s r v g
held_whole s r v g gives has = elim (cases_lt (length g.answer.hits) g.wanted) [
  | inl short ↦ whole_share s r v g gives (fewer_hits s r v g gives short)
  | inr most ↦ elim (cases_lt g.wanted (length g.answer.hits)) [ inl over ↦ whole_share s r v g gives (more_hits s r v g gives over) | inr least ↦ more_share s r v g gives has (omega (arith, most, least)) ]
]

sure_whole : (s : Schema) (r : LeafRequest) (v : PartView) (g : SplitShare) → GivesShare s r v g → IsSure r v g → HasWhole s r v g
sure_whole s r v g gives (inl whole) = whole_share s r v g gives (λ documents p is can. whole (found s r documents) gives.few (share_stands s r v g documents p gives is can).hits)
sure_whole s r v g gives (inr has) = held_whole s r v g gives has

-- ---- at a place

pub sure_at : (r : LeafRequest) (views : List PartView) (shares : List SplitShare) (place : ℕ) (v : PartView) (g : SplitShare) (sure : Bool) → OnTrue sure (IsSure r v g) → slice_get views place ≡ Some v → slice_get shares place ≡ Some g → OnTrue sure (IsSureAt r views shares place)
sure_at r views shares place v g true is here there = λ w h one other.
    let same : v ≡ w = cc in
    let also : g ≡ h = cc in
    subst (λ (x : PartView). IsSure r x h) same (subst (λ (y : SplitShare). IsSure r v y) also is)
sure_at r views shares place v g false is here there = tt

pub below_more : (P : ℕ → Type 0) (n : ℕ) → ((i : ℕ) → i < n → P i) → P n → (i : ℕ) → i < n + 1 → P i
below_more P n below here i low = elim (cases_lt i n) [ inl less ↦ below i less | inr most ↦ let same : n ≡ i = omega (arith, low, most) in subst P same here ]

pub if_known : (result : Result (Option ℕ) AllocError) (P : Type 0) → P → IfOk result (λ place. IfNone place P)
if_known (Ok None) P known = known
if_known (Ok (Some place)) P known = tt
if_known (Err refused) P known = tt

-- ---- those of all splits

record AllWhole (s : Schema) (r : LeafRequest) (views : List PartView) (shares : List SplitShare) : Type 0 where
  answers : List LeafAnswer
  leaves : AllZip (LeafGives s r) views answers
  whole : AllZip (IsWholeOf r) shares answers

all_whole : (s : Schema) (r : LeafRequest) (views : List PartView) (shares : List SplitShare) → AllZip (GivesShare s r) views shares → AreSure r views shares → AllWhole s r views shares
all_whole s r [] [] give sure = record { answers = []; leaves = tt; whole = tt }
all_whole s r [] (g ∷ shares) give sure = absurd give
all_whole s r (v ∷ views) [] give sure = absurd give
all_whole s r (v ∷ views) (g ∷ shares) give sure =
    let here = sure_whole s r v g give.0 (sure 0 (omega arith) v g refl refl) in
    let rest = all_whole s r views shares give.1 (λ place low. sure (suc place) (omega (arith, low))) in
    record { answers = here.answer ∷ rest.answers; leaves = (here.gives, rest.leaves); whole = (here.whole, rest.whole) }

same_count : (r : LeafRequest) (shares : List SplitShare) (answers : List LeafAnswer) → AllZip (IsWholeOf r) shares answers → sum_by (λ (a : LeafAnswer). a.count) (answers_in shares) ≡ sum_by (λ (a : LeafAnswer). a.count) answers
same_count r [] [] whole = refl
same_count r [] (a ∷ answers) whole = absurd whole
same_count r (g ∷ shares) [] whole = absurd whole
same_count r (g ∷ shares) (a ∷ answers) whole =
    omega (arith, whole.0.count, same_count r shares answers whole.1, sum_by-cons (λ (x : LeafAnswer). x.count) g.answer (answers_in shares), sum_by-cons (λ (x : LeafAnswer). x.count) a answers)

same_partials : (r : LeafRequest) (shares : List SplitShare) (answers : List LeafAnswer) (lists : List (List Placed)) → AllZip (IsWholeOf r) shares answers → AllZip (λ (a : LeafAnswer) (own : List Placed). NestedStands r.aggs a.partial (docs_of own)) answers lists
    → AllZip (λ (a : LeafAnswer) (own : List Placed). NestedStands r.aggs a.partial (docs_of own)) (answers_in shares) lists
same_partials r [] [] [] whole are = tt
same_partials r [] [] (own ∷ lists) whole are = absurd are
same_partials r [] (a ∷ answers) lists whole are = absurd whole
same_partials r (g ∷ shares) [] lists whole are = absurd whole
same_partials r (g ∷ shares) (a ∷ answers) [] whole are = absurd are
same_partials r (g ∷ shares) (a ∷ answers) (own ∷ lists) whole are =
    (subst (λ (x : NestedPartial). NestedStands r.aggs x (docs_of own)) whole.0.partial are.0, same_partials r shares answers lists whole.1 are.1)

all_top : (r : LeafRequest) (shares : List SplitShare) (answers : List LeafAnswer) (lists : List (List Placed)) → AllZip (IsWholeOf r) shares answers → AllZip (λ (a : LeafAnswer) (own : List Placed). a.hits ≡ firsts r.wanted r.order own) answers lists
    → AllZip (IsTop r.order r.wanted) shares lists
all_top r [] [] [] whole are = tt
all_top r [] [] (own ∷ lists) whole are = absurd are
all_top r [] (a ∷ answers) lists whole are = absurd whole
all_top r (g ∷ shares) [] lists whole are = absurd whole
all_top r (g ∷ shares) (a ∷ answers) [] whole are = absurd are
all_top r (g ∷ shares) (a ∷ answers) (own ∷ lists) whole are = (whole.0.top own are.0, all_top r shares answers lists whole.1 are.1)

-- two lists of which the second has others behind each part
between : {X : Type 0} (hits others mine yours all : List X) → IsPermutation (mine ++ yours) all → IsPermutation ((hits ++ mine) ++ (others ++ yours)) ((hits ++ others) ++ all)
between {X = X} hits others mine yours all h =
    let one : IsPermutation ((mine ++ others) ++ yours) ((others ++ mine) ++ yours) = IsPermutation-append_left yours (mine ++ others) (others ++ mine) (IsPermutation-append_comm mine others) in
    let two : IsPermutation (mine ++ (others ++ yours)) (others ++ (mine ++ yours)) =
    subst (λ (l : List X). IsPermutation l (others ++ (mine ++ yours))) (append_assoc mine others yours) (subst (λ (l : List X). IsPermutation ((mine ++ others) ++ yours) l) (append_assoc others mine yours) one) in
    let three = IsPermutation-trans (mine ++ (others ++ yours)) (others ++ (mine ++ yours)) (others ++ all) two (IsPermutation-append_right others (mine ++ yours) all h) in
    let four = IsPermutation-append_right hits (mine ++ (others ++ yours)) (others ++ all) three in
    subst (λ (l : List X). IsPermutation l ((hits ++ others) ++ all)) (sym (append_assoc hits mine (others ++ yours))) (subst (λ (l : List X). IsPermutation (hits ++ (mine ++ (others ++ yours))) l) (sym (append_assoc hits others all)) four)

-- the hits of the shares are some of theirs
some_hits : (r : LeafRequest) (shares : List SplitShare) (answers : List LeafAnswer) → AllZip (IsWholeOf r) shares answers → AreSomeOf (all_hits (answers_in shares)) (all_hits answers)
some_hits r [] [] whole = ([], IsPermutation-refl [])
some_hits r [] (a ∷ answers) whole = absurd whole
some_hits r (g ∷ shares) [] whole = absurd whole
some_hits r (g ∷ shares) (a ∷ answers) whole =
    let rest = some_hits r shares answers whole.1 in
    let mine = all_hits (answers_in shares) in
    let all = all_hits answers in (
      whole.0.others ++ rest.0,
      subst (λ (l : List Placed). IsPermutation ((g.answer.hits ++ mine) ++ (whole.0.others ++ rest.0)) (l ++ all)) (sym whole.0.hits) (between g.answer.hits whole.0.others mine rest.0 all rest.1),
    )

zip_own : (r : LeafRequest) (shares : List SplitShare) (lists : List (List Placed)) → AllByRecursion (IsPart r.wanted) shares → AllZip (IsTop r.order r.wanted) shares lists
    → AllZip (λ (a : LeafAnswer) (own : List Placed). a.hits ≡ firsts r.wanted r.order own) (answers_in shares) (hits_in shares)
zip_own r [] [] parts are = tt
zip_own r [] (own ∷ lists) parts are = absurd are
zip_own r (g ∷ shares) [] parts are = absurd are
zip_own r (g ∷ shares) (own ∷ lists) parts are = (own_hits r.order r.wanted g own parts.0 are.0, zip_own r shares lists parts.1 are.1)

first_hits : (r : LeafRequest) (shares : List SplitShare) (all : LeafAnswer) (lists : List (List Placed)) → AllByRecursion (IsPart r.wanted) shares → AreEnough r.order r.wanted shares → AreJoined r (answers_in shares) all → AllZip (IsTop r.order r.wanted) shares lists
    → all.hits ≡ firsts r.wanted r.order (all_of lists)
first_hits r shares all lists parts enough j are =
    let front = firsts r.wanted r.order in
    j.hits (hits_in shares) (zip_own r shares lists parts are)
    ∙ (ap front (sym (joined_are (hits_in shares))) ∙ (sym (firsts_among r.order r.wanted shares lists enough parts are) ∙ ap front (joined_are lists)))

-- what enough shares are joined to is what these answers are
wholes_joined : (r : LeafRequest) (shares : List SplitShare) (answers : List LeafAnswer) (all : LeafAnswer) → AllByRecursion (IsPart r.wanted) shares → AreEnough r.order r.wanted shares → AllZip (IsWholeOf r) shares answers → AreJoined r (answers_in shares) all → AreJoined r answers all
wholes_joined r shares answers all parts enough whole j =
    let mine : List Placed = all_hits (answers_in shares) in
    let theirs : List Placed = all_hits answers in
    record {
      count = j.count ∙ same_count r shares answers whole;
      drawn = some_more mine all.hits [] theirs theirs (some_hits r shares answers whole) (subst (λ (l : List Placed). AreSomeOf all.hits l) (sym (append-nil mine)) j.drawn) (sym (append-nil theirs));
      hits = λ lists are. first_hits r shares all lists parts enough j (all_top r shares answers lists whole are);
      partial = λ lists are. j.partial lists (same_partials r shares answers lists whole are);
    }

pub join_of_shares : (s : Schema) (r : LeafRequest) (views : List PartView) (shares : List SplitShare) (answers : List (Result LeafAnswer LeafError)) (all : LeafAnswer) → AllZip (GivesShare s r) views shares → AreSure r views shares → AreEnough r.order r.wanted shares
    → answers ≡ all_ok (answers_in shares) → AllJoined r answers all → IsJoinOf s r views all
join_of_shares s r views shares answers all give sure enough e h =
    let whole = all_whole s r views shares give sure in
    record {
      answers = whole.answers;
      are_leaves = whole.leaves;
      joined = wholes_joined r shares whole.answers all (are_parts s r views shares give) enough whole.whole (subst (λ (l : List LeafAnswer). AreJoined r l all) (ok_same h.0 (answers_in shares) (sym h.1 ∙ e)) h.2);
    }

-- ---- over documents

founds : Schema → LeafRequest → List (List Placed) → List (List Placed)
founds s r lists = map (found s r) lists

found_all : (s : Schema) (r : LeafRequest) (lists : List (List Placed)) → found s r (all_of lists) ≡ all_of (founds s r lists)
unfolding founds
found_all s r [] = refl
found_all s r (own ∷ lists) = filter-append (λ (d : Placed). meaning s d.doc (view r.query) && within_times s r.times d.doc) own (all_of lists) ∙ ap (λ (l : List Placed). found s r own ++ l) (found_all s r lists)

-- what the answers of all splits tell
record AllStand (s : Schema) (r : LeafRequest) (lists : List (List Placed)) (answers : List LeafAnswer) : Type 0 where
  count : sum_by (λ (a : LeafAnswer). a.count) answers ≡ length (all_of (founds s r lists))
  hits : AllZip (λ (a : LeafAnswer) (own : List Placed). a.hits ≡ firsts r.wanted r.order own) answers (founds s r lists)
  partial : AllZip (λ (a : LeafAnswer) (own : List Placed). NestedStands r.aggs a.partial (docs_of own)) answers (founds s r lists)

all_stand : (s : Schema) (r : LeafRequest) (views : List PartView) (lists : List (List Placed)) (answers : List LeafAnswer) → AllZip (LeafGives s r) views answers → AllZip (IsViewOf s) views lists → IsAsked s r → AllStand s r lists answers
unfolding founds
all_stand s r [] [] [] give are asked = record { count = refl; hits = tt; partial = tt }
all_stand s r [] [] (a ∷ answers) give are asked = absurd give
all_stand s r [] (own ∷ lists) answers give are asked = absurd are
all_stand s r (v ∷ views) [] answers give are asked = absurd are
all_stand s r (v ∷ views) (own ∷ lists) [] give are asked = absurd give
all_stand s r (v ∷ views) (own ∷ lists) (a ∷ answers) give are asked =
    let here = give.0.only own are.0.parts are.0.is_part asked in
    let rest = all_stand s r views lists answers give.1 are.1 asked in
    let first = here.count in
    let others = rest.count in
    record {
      count = omega (arith, first, others, sum_by-cons (λ (x : LeafAnswer). x.count) a answers, length-append (found s r own) (all_of (founds s r lists)));
      hits = (here.hits, rest.hits);
      partial = (here.partial, rest.partial);
    }

pub answer_of_join : (s : Schema) (r : LeafRequest) (views : List PartView) (lists : List (List Placed)) (all : LeafAnswer) → IsJoinOf s r views all → AllZip (IsViewOf s) views lists → IsAsked s r → IsAnswerOf s r (all_of lists) all
answer_of_join s r views lists all j are asked =
    let stand = all_stand s r views lists j.answers j.are_leaves are asked in
    let same = found_all s r lists in
    record {
      count = j.joined.count ∙ (stand.count ∙ ap (λ (l : List Placed). length l) (sym same));
      hits = j.joined.hits (founds s r lists) stand.hits ∙ ap (firsts r.wanted r.order) (sym same);
      partial = subst (λ (l : List Placed). NestedStands r.aggs all.partial (docs_of l)) (sym same) (j.joined.partial (founds s r lists) stand.partial);
    }
