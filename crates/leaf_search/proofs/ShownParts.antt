-- The documents that may be shown, and the parts of each of some numbers.
use Rattle.std.proofs.Common.{◌≡◌, ◌==◌, ℕ, zero, suc, ◌+◌, ◌<◌, ◌≤◌, ◌⊎◌, inl, inr, min, Bool, true, false, cond, List, [], ◌∷◌, ◌++◌, length, drop, take, get_or, slice_get, nat_lt, nat_le, Option, Some, None, Vec, Result, Ok, Err, MatchOption, MatchResult, Contains, refl, ap, sym, subst, ◌∙◌, arith, rules, tests}
use Rattle.std.specs.Bool.{OnTrue}
use Rattle.std.specs.List.{All, AllByRecursion, count_by, filter}
use Rattle.std.specs.Option.{option_map_or, option_to_list}
use Rattle.std.proofs.lemmas.Bool.{le-ltb}
use Rattle.std.proofs.lemmas.List.{drop_more, length-take}
use Rattle.std.proofs.lemmas.List.Elements.{Contains-get_or, recursion_from_All}
use Rattle.doc_value.specs.declared.schema.Schema.{Schema}
use Rattle.doc_value.specs.declared.doc.DocField.{DocField}
use Rattle.query_ast.specs.Sought.{view}
use Rattle.split_bundle.specs.declared.placed.Placed.{Placed}
use Rattle.split_bundle.specs.declared.footer.Footer.{Footer}
use Rattle.split_bundle.specs.declared.part_view.PartView.{PartView}
use Rattle.split_bundle.specs.Files.{Parts}
use Rattle.split_bundle.specs.declared.pieces.FilePiece.{FilePiece}
use Rattle.doc_sets.specs.declared.dictionary_lookup.Lookup.{Lookup}
use Rattle.doc_sets.specs.declared.dictionary_lookup.Lookup.TheVariants.{Count}
use Rattle.doc_sets.specs.declared.leaf_error.LeafError.{LeafError}
use Rattle.doc_sets.specs.Faults.{LacksPart}
use Rattle.doc_sets.proofs.Causes.{cause_wider}
use Rattle.doc_tallies.specs.declared.hit_order.HitOrder.{HitOrder}
use Rattle.doc_tallies.specs.Firsts.{sorted_by}
use Rattle.doc_tallies.specs.Near.{has_few_ahead, is_ahead, shown}
use Rattle.doc_tallies.specs.Orders.{comes_before}
use Rattle.doc_tallies.specs.Picked.{picked}
use Rattle.doc_tallies.proofs.Nears.{shown_firsts}
use Rattle.doc_tallies.proofs.Parting.{length_sorted}
use Rattle.doc_tallies.proofs.TimeValues.{stands}
use Rattle.leaf_search.specs.Answers.{passes}
use Rattle.leaf_search.specs.Asks.{lookups_of}
use Rattle.leaf_search.specs.Counts.{counted_key, request_lookups}
use Rattle.leaf_search.specs.FileRanges.{AddsParts}
use Rattle.leaf_search.specs.Numbers.{numbers_from, numbers_of}
use Rattle.leaf_search.specs.Needs.{NeedsDocuments}
use Rattle.leaf_search.specs.Shown.{AreFew, BytesOf, NeedsShown, NeedsStarts, OfEach, StartOf, are_few, shown_of}
use Rattle.leaf_search.specs.declared.file_ranges.FileRange.{FileRange}
use Rattle.leaf_search.specs.declared.request.LeafRequest.{LeafRequest}
use Rattle.leaf_search.proofs.KeyCounts.{counts}
use Rattle.leaf_search.proofs.RangeLists.{both_added, none_added, parts_alike}

-- ---- where none are wanted

none_ahead : (order : HitOrder) (ds : List Placed) (ns : List ℕ) (n : ℕ) → has_few_ahead order 0 ds ns n ≡ false
none_ahead order ds ns n = go (slice_get ds n)
  where
    go : (o : Option Placed) → option_map_or (λ d. nat_lt (count_by (λ x. is_ahead order x d) (picked ns ds)) 0) o false ≡ false
    go None = refl
    go (Some d) = le-ltb (count_by (λ x. is_ahead order x d) (picked ns ds)) 0 (omega arith)

filter_none : (test : ℕ → Bool) → ((n : ℕ) → test n ≡ false) → (ns : List ℕ) → filter test ns ≡ []
filter_none test never [] = refl
filter_none test never (n ∷ ns) = ap (λ b. cond b (n ∷ filter test ns) (filter test ns)) (never n) ∙ filter_none test never ns

none_near : (o : Option HitOrder) (ds : List Placed) (ns : List ℕ) → shown o 0 ds ns ≡ []
none_near None ds ns = refl
none_near (Some order) ds ns = filter_none (has_few_ahead order 0 ds ns) (none_ahead order ds ns) ns

pub none_shown : (s : Schema) (r : LeafRequest) (ds : List Placed) → r.wanted ≡ 0 → shown_of s r ds ≡ []
none_shown s r ds none = ap (λ w. shown r.order w ds (numbers_of (passes s r) ds)) none ∙ none_near r.order ds (numbers_of (passes s r) ds)

le_true : (a b : ℕ) → a ≤ b → nat_le a b ≡ true
le_true a b le = search (rules, tests)

le_false : (a b : ℕ) → b < a → nat_le a b ≡ false
le_false a b lt = search (rules, tests)

-- what a test that is true says
pub when_true : (t : Bool) (P : Type 0) → t ≡ true → OnTrue t P → P
when_true true P e h = h
when_true false P e h = absurd (cc)

pub few_true : (s : Schema) (r : LeafRequest) (ds : List Placed) (ns : List ℕ) → ns ≡ shown_of s r ds → length ns ≤ 256 → AreFew s r ds ns
few_true s r ds ns same le = (le_true (length (shown_of s r ds)) 256 (let e = ap length same in omega arith), same)

pub few_false : (s : Schema) (r : LeafRequest) (ds : List Placed) (ns : List ℕ) → ns ≡ shown_of s r ds → 256 < length ns → are_few s r ds ≡ false
few_false s r ds ns same lt = le_false (length (shown_of s r ds)) 256 (let e = ap length same in omega arith)

-- ---- of many that are wanted many may be shown

picked_short : (ds : List Placed) (ns : List ℕ) → length (picked ns ds) ≤ length ns
picked_short ds [] = omega arith
picked_short ds (n ∷ ns) = go (slice_get ds n) (picked_short ds ns)
  where
    go : (o : Option Placed) → length (picked ns ds) ≤ length ns → length (option_to_list o ++ picked ns ds) ≤ suc (length ns)
    go None h = omega (arith, h)
    go (Some d) h = omega (arith, h)

picked_long : (ds : List Placed) (ns : List ℕ) → AllByRecursion (λ n. n < length ds) ns → length (picked ns ds) ≡ length ns
picked_long ds [] below = refl
picked_long ds (n ∷ ns) below = let at = stands ds n below.0 in rw (at.here) (ap (λ k. suc k) (picked_long ds ns below.1))

-- no fewer may be shown than are wanted, as far as there are so many
enough_shown : (o : Option HitOrder) (wanted : ℕ) (ds : List Placed) (ns : List ℕ) → AllByRecursion (λ n. n < length ds) ns → min wanted (length ns) ≤ length (shown o wanted ds ns)
enough_shown o wanted ds ns below =
    let b = comes_before o in
    let near : List Placed = picked (shown o wanted ds ns) ds in
    let all : List Placed = picked ns ds in
    let same : length (take wanted (sorted_by b near)) ≡ length (take wanted (sorted_by b all)) = ap (λ (xs : List Placed). length xs) (shown_firsts o wanted ds ns below) in
    let one : length (take wanted (sorted_by b near)) ≡ min wanted (length (sorted_by b near)) = length-take wanted (sorted_by b near) in
    let other : length (take wanted (sorted_by b all)) ≡ min wanted (length (sorted_by b all)) = length-take wanted (sorted_by b all) in
    let near_long : length (sorted_by b near) ≡ length near = length_sorted b near in
    let all_long : length (sorted_by b all) ≡ length all = length_sorted b all in
    let short = picked_short ds (shown o wanted ds ns) in
    let long = picked_long ds ns below in
    omega arith

pub many_false : (s : Schema) (r : LeafRequest) (ds : List Placed) → All (λ n. n < length ds) (numbers_of (passes s r) ds) → 256 < r.wanted → 256 < length (numbers_of (passes s r) ds) → are_few s r ds ≡ false
many_false s r ds below wanted many =
    let enough : min r.wanted (length (numbers_of (passes s r) ds)) ≤ length (shown_of s r ds) = enough_shown r.order r.wanted ds (numbers_of (passes s r) ds) (recursion_from_All (λ (n : ℕ). n < length ds) (numbers_of (passes s r) ds) below) in
    le_false (length (shown_of s r ds)) 256 (omega arith)

-- what is said of the documents that may be shown
abbrev pub Says : {Z : Type 0} → Schema → LeafRequest → List Placed → Option (Vec ℕ Z) → Type 0
Says s r ds o = MatchOption o (are_few s r ds ≡ false) (λ v. AreFew s r ds v.items)

-- ---- they are some of those that match

pub numbers_below : (test : List DocField → Bool) (n : ℕ) (ds : List Placed) (i k : ℕ) → i < length (numbers_from test n ds) → get_or (numbers_from test n ds) i k ≡ k → k < n + length ds
numbers_below test n [] i k lt e = absurd (omega arith)
numbers_below test n (d ∷ ds) i k lt e = go (test d.doc) i lt e (λ j less same. numbers_below test (suc n) ds j k less same)
  where
    go : (b : Bool) (j : ℕ) → j < length (cond b (n ∷ numbers_from test (suc n) ds) (numbers_from test (suc n) ds)) → get_or (cond b (n ∷ numbers_from test (suc n) ds) (numbers_from test (suc n) ds)) j k ≡ k
        → ((m : ℕ) → m < length (numbers_from test (suc n) ds) → get_or (numbers_from test (suc n) ds) m k ≡ k → k < suc n + length ds) → k < n + suc (length ds)
    go true zero less same later = omega (arith, same)
    go true (suc j) less same later = let h = later j (omega arith) same in omega (arith, h)
    go false j less same later = let h = later j less same in omega (arith, h)

among_filter : (test : ℕ → Bool) (ns : List ℕ) (n k : ℕ) → k < length (filter test ns) → get_or (filter test ns) k n ≡ n → Contains ns n
among_filter test [] n k lt e = absurd (omega arith)
among_filter test (m ∷ ms) n k lt e = go (test m) k lt e (λ j small same. among_filter test ms n j small same)
  where
    behind : Contains ms n → Contains (m ∷ ms) n
    behind h = (suc h.0, omega (arith, h.1), h.2)

    go : (b : Bool) (j : ℕ) → j < length (cond b (m ∷ filter test ms) (filter test ms)) → get_or (cond b (m ∷ filter test ms) (filter test ms)) j n ≡ n
        → ((i : ℕ) → i < length (filter test ms) → get_or (filter test ms) i n ≡ n → Contains ms n) → Contains (m ∷ ms) n
    go true zero small same later = (zero, omega arith, same)
    go true (suc j) small same later = behind (later j (omega arith) same)
    go false j small same later = behind (later j small same)

among_cond : (b : Bool) (ns : List ℕ) (n : ℕ) → Contains (cond b [] ns) n → Contains ns n
among_cond true ns n h = absurd (omega (arith, h.1))
among_cond false ns n h = h

among_shown : (o : Option HitOrder) (wanted : ℕ) (ds : List Placed) (ns : List ℕ) (n : ℕ) → Contains (shown o wanted ds ns) n → Contains ns n
among_shown None wanted ds ns n h = among_cond (wanted == 0) ns n h
among_shown (Some order) wanted ds ns n h = among_filter (has_few_ahead order wanted ds ns) ns n h.0 h.1 h.2

pub shown_below : (s : Schema) (r : LeafRequest) (ds : List Placed) (n : ℕ) → Contains (shown_of s r ds) n → n < length ds
shown_below s r ds n h =
    let it = among_shown r.order r.wanted ds (numbers_of (passes s r) ds) n h in
    let lt = numbers_below (passes s r) 0 ds it.0 n it.1 it.2 in
    omega (arith, lt)

-- ---- what a request that wants hits looks up

pub lookups_all : (footer : Footer) (s : Schema) (r : LeafRequest) → (r.wanted ≡ 0 → ⊥) → request_lookups footer s r ≡ lookups_of footer s (view r.query)
lookups_all footer s r some = go (counted_key s r) refl
  where
    go : (o : Option (List ℕ)) → counted_key s r ≡ o → option_map_or (λ key. Count key ∷ []) (counted_key s r) (lookups_of footer s (view r.query)) ≡ lookups_of footer s (view r.query)
    go None e = ap (λ (x : Option (List ℕ)). option_map_or (λ key. Count key ∷ []) x (lookups_of footer s (view r.query))) e
    go (Some key) e = absurd (some (counts s r key e).wanted)

pub cause_behind : {Z : Type 0} (A B : ℕ → ℕ → Type 0) (pieces : List FilePiece) (ns : List ℕ) (r : Result (Vec ℕ Z) LeafError) → ((at len : ℕ) → A at len → B at len) → MatchResult r (λ v. v.items ≡ ns) (LacksPart A pieces)
    → MatchResult r (λ v. v.items ≡ ns) (LacksPart B pieces)
cause_behind A B pieces ns (Ok v) wider h = h
cause_behind A B pieces ns (Err e) wider h = cause_wider A B pieces e wider h

-- ---- parts of each of some numbers

module _ (part : ℕ → ℕ → ℕ → Type 0) where
  next_each : (n : ℕ) (ns : List ℕ) (old middle new : List FileRange) → AddsParts (part n) old middle → AddsParts (OfEach part ns) middle new → AddsParts (OfEach part (n ∷ ns)) old new
  next_each n ns old middle new first behind =
      parts_alike (λ at len. part n at len ⊎ OfEach part ns at len) (OfEach part (n ∷ ns)) old new
      (λ a l h. elim h [
        | inl here ↦ record { number = n; among = (zero, omega arith, refl); is_part = here }
        | inr later ↦ record { number = later.number; among = (suc later.among.0, omega (arith, later.among.1), later.among.2); is_part = later.is_part }
      ])
      (λ a l h. go h.number h.among.0 h.among.1 h.among.2 a l h.is_part)
      (both_added (part n) (OfEach part ns) old middle new first behind)
    where
      go : (number k : ℕ) → k < suc (length ns) → get_or (n ∷ ns) k number ≡ number → (a l : ℕ) → part number a l → part n a l ⊎ OfEach part ns a l
      go number zero small is a l here = inl (subst (λ m. part m a l) (sym is) here)
      go number (suc k) small is a l here = inr (record { number = number; among = (k, omega (arith, small), is); is_part = here })

  pub each_next : (ns : List ℕ) (i : ℕ) (old middle new : List FileRange) → i < length ns → AddsParts (part (get_or ns i 0)) old middle → AddsParts (OfEach part (drop (i + 1) ns)) middle new → AddsParts (OfEach part (drop i ns)) old new
  each_next ns i old middle new lt first behind =
      subst (λ (l : List ℕ). AddsParts (OfEach part l) old new) (sym (drop_more ns i 0 lt)) (next_each (get_or ns i 0) (drop (i + 1) ns) old middle new first behind)

  pub each_none : (ns : List ℕ) (rs : List FileRange) → ns ≡ [] → AddsParts (OfEach part ns) rs rs
  each_none ns rs none = subst (λ (l : List ℕ). AddsParts (OfEach part l) rs rs) (sym none) (none_added (OfEach part []) rs (λ a n h. omega (arith, h.among.1)))

-- ---- the ranges of the documents that may be shown

pub few_below : (s : Schema) (r : LeafRequest) (ds : List Placed) (ns : List ℕ) → AreFew s r ds ns → All (λ n. n < length ds) ns
few_below s r ds ns few = λ k d lt. shown_below s r ds (get_or ns k d) (subst (λ (l : List ℕ). Contains l (get_or ns k d)) few.1 (Contains-get_or ns k d lt))

module _ (v : PartView) (s : Schema) (r : LeafRequest) (ds : List Placed) (p : Parts) where
  pub shown_named : (ns : List ℕ) (new : List FileRange) → AreFew s r ds ns → AddsParts (OfEach (BytesOf p ds) ns) [] new → AddsParts (NeedsShown s ds p r) [] new
  shown_named ns new few adds =
      parts_alike (OfEach (BytesOf p ds) (shown_of s r ds)) (NeedsShown s ds p r) [] new (λ a n h. (few.0, h)) (λ a n h. h.1)
      (subst (λ (l : List ℕ). AddsParts (OfEach (BytesOf p ds) l) [] new) few.1 adds)

  pub none_named : are_few s r ds ≡ false → AddsParts (NeedsShown s ds p r) [] []
  none_named many = none_added (NeedsShown s ds p r) [] (λ a n h. let bad : true ≡ false = sym h.0 ∙ many in absurd cc)

  pub starts_named : (ns : List ℕ) (new : List FileRange) → AreFew s r ds ns → AddsParts (OfEach StartOf ns) [] new → AddsParts (NeedsStarts v s ds r) [] new
  starts_named ns new few adds =
      parts_alike (OfEach StartOf (shown_of s r ds)) (NeedsStarts v s ds r) [] new (λ a n h. inl (few.0, h)) entry
      (subst (λ (l : List ℕ). AddsParts (OfEach StartOf l) [] new) few.1 adds)
    where
      entry : (a n : ℕ) → NeedsStarts v s ds r a n → OfEach StartOf (shown_of s r ds) a n
      entry a n (inl h) = h.1
      entry a n (inr h) = let bad : true ≡ false = sym few.0 ∙ h.0 in absurd cc

  pub section_named : (new : List FileRange) → are_few s r ds ≡ false → AddsParts (NeedsDocuments v r) [] new → AddsParts (NeedsStarts v s ds r) [] new
  section_named new many adds = parts_alike (NeedsDocuments v r) (NeedsStarts v s ds r) [] new (λ a n h. inr (many, h)) section adds
    where
      section : (a n : ℕ) → NeedsStarts v s ds r a n → NeedsDocuments v r a n
      section a n (inl h) = let bad : true ≡ false = sym h.0 ∙ many in absurd cc
      section a n (inr h) = h.1
