-- What is found in the files of a plan is what is found in what is visible.
use Rattle.std.proofs.Common.{◌≡◌, ℕ, ◌*◌, ◌<◌, ◌≤◌, ◌^◌, Bool, true, false, cond, List, [], ◌∷◌, ◌++◌, map, flat_map, length, refl, sym, ap, ap₂, ◌∙◌, subst, arith, IsPermutation, Contains, Less, Equal, Greater, Ordering, ◌⊎◌, inl, inr, zero, suc, get_or}
use Rattle.std.specs.List.{AllByRecursion}
use Rattle.std.specs.List.Sorted.{IsStrictlySortedBy}
use Rattle.std.proofs.lemmas.List.{length-append}
use Rattle.std.specs.Ordering.{ordering_reverse}
use Rattle.std.proofs.lemmas.List.Elements.{All-from_recursion}
use Rattle.std.proofs.lemmas.List.Sorted.{Contains-permutation}
use Rattle.std.proofs.lemmas.Map.Keys.{sorted_head, sorted_tail}
use Rattle.doc_value.specs.declared.facts.TimeRange.{TimeRange}
use Rattle.doc_value.specs.declared.schema.Schema.{Schema}
use Rattle.query_ast.specs.Sought.{Sought}
use Rattle.doc_tallies.specs.Orders.{place_cmp}
use Rattle.leaf_search.specs.Answers.{found}
use Rattle.leaf_search.specs.declared.request.LeafRequest.{LeafRequest}
use Rattle.meta_store.specs.Contents.{published_rows}
use Rattle.meta_store.specs.Ledgers.{ledger}
use Rattle.meta_store.specs.Planning.{searched}
use Rattle.meta_store.specs.Rows.{rows}
use Rattle.root_search.specs.RowFacts.{HasFactsOf}
use Rattle.root_search.proofs.Pruned.{rows_found}
use Rattle.source_log.specs.Log.{Log, IsLog}
use Rattle.split_bundle.specs.declared.placed.Placed.{Placed}
use Rattle.split_states.specs.Rows.{is_published}
use Rattle.split_states.specs.declared.rows.Row.{Row}
use Rattle.index_world.specs.Config.{reads}
use Rattle.index_world.specs.Core.{Core}
use Rattle.index_world.specs.Seen.{visible_at}
use Rattle.index_world.proofs.StoreChanges.{All-each}
use Rattle.search_api.specs.Resolved.{Search}
use Rattle.root_search.specs.LeafAsks.{Asks}
use Rattle.root_search.specs.Leaves.{all_of}
use Rattle.root_search.specs.Places.{OneAtEach}
use Rattle.root_search.specs.PartAnswers.{AreFound}
use Rattle.root_search.specs.declared.leaf_asks.LeafAsk.{LeafAsk}
use Rattle.root_search.specs.Searching.{AreInHand, IsInHand, documents_at, history_at, published_at, rows_at}
use Rattle.root_search.specs.Steps.{config_at}
use Rattle.root_search.proofs.PlannedRows.{searched_each, searched_few}
use Rattle.root_search.proofs.Records.{visible_in_order, place_order_total}

joined : (f : Row → List Placed) (list : List Row) → all_of (map f list) ≡ flat_map f list
joined f [] = refl
joined f (row ∷ list) = ap (λ l. f row ++ l) (joined f list)

-- ---- how many there are

few_each : (f : Row → List Placed) (list : List Row) → AllByRecursion (λ row. length (f row) ≤ 16777216) list → length (flat_map f list) ≤ 16777216 * length list
few_each f [] all = omega arith
few_each f (row ∷ list) all = let here = all.0 in let more = few_each f list all.1 in let both = length-append (f row) (flat_map f list) in omega (arith, here, more, both)

pub found_few : (revision until : ℕ) (search : Search) (core : Core) (log : Log) → AreInHand revision until core log → length (all_of (map (documents_at revision core log) (rows_at revision search core))) < 2 ^ 62
found_few revision until search core log a =
    let docs = documents_at revision core log in
    let list = rows_at revision search core in
    let each = searched_each (λ row. length (docs row) ≤ 16777216) (config_at revision core).schema search.query search.times (rows (history_at revision core))
    (All-each (IsInHand revision until core log) (λ row. length (docs row) ≤ 16777216) (published_at revision core) (λ row i. i.split.few) a.each) in
    let many = few_each docs list each in
    let fewer = searched_few (config_at revision core).schema search.query search.times (rows (history_at revision core)) in
    let most = a.few in
    let same = ap length (joined docs list) in
    omega (arith, many, fewer, most, same)

-- ---- each place has one document

all_contain : (P : Placed → Type 0) (xs : List Placed) (a : Placed) → AllByRecursion P xs → Contains xs a → P a
all_contain P xs a all c = subst P c.2 (All-from_recursion P xs all c.0 a c.1)

contain_cases : (x z : Placed) (xs : List Placed) (k : ℕ) → k < length (x ∷ xs) → get_or (x ∷ xs) k z ≡ z → (x ≡ z) ⊎ Contains xs z
contain_cases x z xs zero l e = inl e
contain_cases x z xs (suc k) l e = inr (k, omega (arith, l), e)

apart : (o p : Ordering) → o ≡ Less → o ≡ Equal → ⊥
apart o p e f = let wrong : Less ≡ Equal = sym e ∙ f in cc

reversed : (o p : Ordering) → o ≡ ordering_reverse p → p ≡ Less → o ≡ Equal → ⊥
reversed o p e less f = let wrong : Greater ≡ Equal = sym (e ∙ ap ordering_reverse less) ∙ f in cc

one_in : (documents : List Placed) → IsStrictlySortedBy place_cmp documents → (a b : Placed) → Contains documents a → Contains documents b → place_cmp a b ≡ Equal → a ≡ b
one_in [] s a b p q e = absurd (let no = p.1 in omega (arith, no))
one_in (x ∷ xs) s a b p q e = by (contain_cases x a xs p.0 p.1 p.2) (contain_cases x b xs q.0 q.1 q.2) (λ c d. one_in xs (sorted_tail place_cmp x xs s) a b c d e)
  where
    head : AllByRecursion (λ y. place_cmp x y ≡ Less) xs
    head = sorted_head place_cmp x xs s

    by : (x ≡ a) ⊎ Contains xs a → (x ≡ b) ⊎ Contains xs b → (Contains xs a → Contains xs b → a ≡ b) → a ≡ b
    by (inl f) (inl g) more = sym f ∙ g
    by (inl f) (inr d) more = absurd (apart (place_cmp x b) Equal (all_contain (λ y. place_cmp x y ≡ Less) xs b head d) (subst (λ (y : Placed). place_cmp y b ≡ Equal) (sym f) e))
    by (inr c) (inl g) more = absurd (reversed (place_cmp a x) (place_cmp x a) (place_order_total.antisymm a x) (all_contain (λ y. place_cmp x y ≡ Less) xs a head c) (subst (λ (y : Placed). place_cmp a y ≡ Equal) (sym g) e))
    by (inr c) (inr d) more = more c d

pub one_each : (documents : List Placed) → IsStrictlySortedBy place_cmp documents → OneAtEach documents
one_each documents s = record { one = one_in documents s }

moved_one : (xs ys : List Placed) → IsPermutation xs ys → OneAtEach ys → OneAtEach xs
moved_one xs ys moved o = record { one = λ a b p q e. o.one a b (Contains-permutation xs ys a moved p) (Contains-permutation xs ys b moved q) e }

-- ---- what is found

facts_each : (P : Row → Type 0) (rs : List Row) → AllByRecursion P (published_rows rs) → AllByRecursion (λ row. is_published row.state ≡ true → P row) rs
facts_each P [] all = tt
facts_each P (row ∷ rs) all = by (is_published row.state) refl all (facts_each P rs)
  where
    by : (b : Bool) → is_published row.state ≡ b → AllByRecursion P (cond b (row ∷ published_rows rs) (published_rows rs)) → (AllByRecursion P (published_rows rs) → AllByRecursion (λ row. is_published row.state ≡ true → P row) rs) → AllByRecursion (λ row. is_published row.state ≡ true → P row) (row ∷ rs)
    by true e a more = (λ h. a.0, more a.1)
    by false e a more = (λ h. let wrong : true ≡ false = sym h ∙ e in absurd (cc), more a)

pub are_found : (revision until : ℕ) (search : Search) (ask : LeafAsk) (core : Core) (log : Log) → IsLog log → Asks search ask → AreInHand revision until core log →
    AreFound (config_at revision core).schema ask.request (map (documents_at revision core log) (rows_at revision search core)) (visible_at revision core.history log)
are_found revision until search ask core log good asks a =
    record {
      all = flat_map docs (published_at revision core);
      same = ap (found s r) (joined docs (rows_at revision search core))
          ∙ (ap₂ (λ (q : Sought) (t : TimeRange). found s r (flat_map docs (searched s q t rs))) (sym asks.query) (sym asks.times)
          ∙ sym (rows_found s r docs rs (facts_each (λ row. HasFactsOf s (docs row) row) rs (All-each (IsInHand revision until core log) (λ row. HasFactsOf s (docs row) row) (published_at revision core) (λ row i. i.facts) a.each))));
      one = moved_one (flat_map docs (published_at revision core)) (visible_at revision core.history log) a.shown
          (one_each (visible_at revision core.history log) (visible_in_order (config_at revision core) (ledger reads (history_at revision core)) log good));
      moved = a.shown;
    }
  where
    s : Schema
    s = (config_at revision core).schema

    r : LeafRequest
    r = ask.request

    rs : List Row
    rs = rows (history_at revision core)

    docs : Row → List Placed
    docs = documents_at revision core log
