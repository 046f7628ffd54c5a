-- The near ones have all of the first so many among them.
use Rattle.std.proofs.Common.{◌≡◌, ℕ, zero, suc, ◌<◌, ◌≤◌, Bool, true, false, not, cond, nat_lt, List, [], ◌∷◌, ◌++◌, length, take, slice_get, Option, Some, None, refl, ap, sym, subst, ◌∙◌, arith, Contains, Ordering, append-nil}
use Rattle.std.specs.List.{AllByRecursion, count_by, filter}
use Rattle.std.specs.Ordering.{is_lt, ordering_then}
use Rattle.std.specs.declared.cmp.Ordering.TheVariants.{Less, Equal, Greater}
use Rattle.std.specs.Option.{option_map_or}
use Rattle.std.proofs.lemmas.Bool.{le-ltb, ne_eqb}
use Rattle.std.proofs.lemmas.Bool.Decides.{nat_tests}
use Rattle.std.proofs.lemmas.List.{take-append-le}
use Rattle.std.proofs.lemmas.List.Sums.{sum_by-cons, sum_by-append, count_by-le-length, length-filter}
use Rattle.split_bundle.specs.declared.placed.Placed.{Placed}
use Rattle.doc_tallies.specs.declared.hit_order.HitOrder.{HitOrder}
use Rattle.doc_tallies.specs.Firsts.{sorted_by}
use Rattle.doc_tallies.specs.Near.{has_few_ahead, is_ahead, near, shown}
use Rattle.doc_tallies.specs.Orders.{comes_before, firsts, place_cmp, sort_cmp}
use Rattle.doc_tallies.specs.Picked.{picked}
use Rattle.doc_tallies.proofs.HitOrders.{ahead_order, hits_order}
use Rattle.doc_tallies.proofs.Late.{length_passed}
use Rattle.doc_tallies.proofs.Parting.{AreApart, all_picked, not_true, parted, sorted_all}
use Rattle.doc_tallies.proofs.Putting.{InOrder, sorted_in_order}
use Rattle.doc_tallies.proofs.Stable.{none_before, not_before_itself}

-- ---- counts

count_weaker : {X : Type 0} (p q : X → Bool) (xs : List X) → ((x : X) → p x ≡ true → q x ≡ true) → count_by p xs ≤ count_by q xs
count_weaker p q [] each = omega arith
count_weaker {X = X} p q (x ∷ xs) each =
    let rest = count_weaker p q xs each in
    let one = sum_by-cons (λ y. cond {A = ℕ} (p y) 1 0) x xs in
    let other = sum_by-cons (λ y. cond {A = ℕ} (q y) 1 0) x xs in
    let less = go (p x) refl (q x) refl in
    omega arith
  where
    go : (s : Bool) → p x ≡ s → (t : Bool) → q x ≡ t → cond {A = ℕ} s 1 0 ≤ cond {A = ℕ} t 1 0
    go true e true f = omega arith
    go true e false f = absurd (let both = each x e in cc)
    go false e true f = omega arith
    go false e false f = omega arith

count_none : {X : Type 0} (p : X → Bool) (xs : List X) → AllByRecursion (λ x. p x ≡ false) xs → count_by p xs ≡ 0
count_none p [] none = refl
count_none p (x ∷ xs) none =
    let first : cond {A = ℕ} (p x) 1 0 ≡ 0 = ap (λ (t : Bool). cond {A = ℕ} t 1 0) none.0 in
    let rest = count_none p xs none.1 in
    let both = sum_by-cons (λ y. cond {A = ℕ} (p y) 1 0) x xs in
    omega arith

count_sorted : {X : Type 0} (b p : X → X → Bool) (y : X) (xs : List X) → count_by (λ x. p x y) (sorted_by b xs) ≡ count_by (λ x. p x y) xs
count_sorted b p y xs = sym (length-filter (λ x. p x y) (sorted_by b xs)) ∙ (length_passed b (λ x. p x y) xs ∙ length-filter (λ x. p x y) xs)

among_behind : (m : ℕ) (ms : List ℕ) (n : ℕ) → Contains ms n → Contains (m ∷ ms) n
among_behind m ms n has = (suc has.0, (let lt = has.1 in omega arith), has.2)

filter_among : (p : ℕ → Bool) (ns : List ℕ) (n : ℕ) → Contains (filter p ns) n → Contains ns n
filter_among p [] n has = has
filter_among p (m ∷ ms) n has = go (p m) (filter_among p ms n) has
  where
    go : (t : Bool) → (Contains (filter p ms) n → Contains ms n) → Contains (cond t (m ∷ filter p ms) (filter p ms)) n → Contains (m ∷ ms) n
    go true rest (zero, lt, is) = (zero, omega arith, is)
    go true rest (suc k, lt, is) = among_behind m ms n (rest (k, omega arith, is))
    go false rest within = among_behind m ms n (rest within)

-- ---- ahead

less_first : (o p : Ordering) → is_lt o ≡ true → is_lt (ordering_then o p) ≡ true
less_first Less p h = refl
less_first Equal p h = absurd (cc)
less_first Greater p h = absurd (cc)

ahead_before : (order : HitOrder) (x y : Placed) → is_ahead order x y ≡ true → comes_before (Some order) x y ≡ true
ahead_before order x y h = less_first (sort_cmp (Some order) x.doc y.doc) (place_cmp x y) h

not_ahead : (order : HitOrder) (x y : Placed) → comes_before (Some order) x y ≡ false → is_ahead order x y ≡ false
not_ahead order x y h = go (is_ahead order x y) refl
  where
    go : (t : Bool) → is_ahead order x y ≡ t → is_ahead order x y ≡ false
    go false e = e
    go true e = absurd (let before = ahead_before order x y e in cc)

-- how many of some documents are ahead of one
abbrev ahead_of : HitOrder → List Placed → Placed → ℕ
ahead_of order all d = count_by (λ x. is_ahead order x d) all

-- of one that is not ahead of another no fewer are ahead
more_ahead : (order : HitOrder) (all : List Placed) (x y : Placed) → is_ahead order x y ≡ false → ahead_of order all y ≤ ahead_of order all x
more_ahead order all x y h = count_weaker (λ z. is_ahead order z y) (λ z. is_ahead order z x) all (λ z before. go z before (is_ahead order z x) refl)
  where
    go : (z : Placed) → is_ahead order z y ≡ true → (t : Bool) → is_ahead order z x ≡ t → is_ahead order z x ≡ true
    go z before true e = e
    go z before false e = absurd (let none = (ahead_order order).chain z x y e h in cc)

pub few_here : (order : HitOrder) (wanted : ℕ) (documents : List Placed) (ns : List ℕ) (n : ℕ) (d : Placed) → slice_get documents n ≡ Some d
    → has_few_ahead order wanted documents ns n ≡ nat_lt (ahead_of order (picked ns documents) d) wanted
few_here order wanted documents ns n d here = rw (here) refl

apart_counts : (i j wanted : ℕ) → nat_lt i wanted ≡ true → nat_lt j wanted ≡ false → j ≤ i → ⊥
apart_counts i j wanted few many le = grind (arith, nat_tests)

not_fewer : (i wanted : ℕ) → nat_lt i wanted ≡ false → wanted ≤ i
not_fewer i wanted many = grind (arith, nat_tests)

none_ahead : (order : HitOrder) (y : Placed) (ws : List Placed) → AllByRecursion (λ w. comes_before (Some order) w y ≡ false) ws → AllByRecursion (λ w. is_ahead order w y ≡ false) ws
none_ahead order y [] none = tt
none_ahead order y (w ∷ ws) none = (not_ahead order w y none.0, none_ahead order y ws none.1)

-- near ones stand before all others
nears_apart : (order : HitOrder) (wanted : ℕ) (documents : List Placed) (ns : List ℕ) → AreApart (comes_before (Some order)) (has_few_ahead order wanted documents ns) documents
nears_apart order wanted documents ns = record {
  apart = λ n m x y at there near far. go n m x y at there near far (is_ahead order x y) refl;
}
  where
    go : (n m : ℕ) (x y : Placed) → slice_get documents n ≡ Some x → slice_get documents m ≡ Some y → has_few_ahead order wanted documents ns n ≡ true → has_few_ahead order wanted documents ns m ≡ false
        → (t : Bool) → is_ahead order x y ≡ t → comes_before (Some order) x y ≡ true
    go n m x y at there near far true e = ahead_before order x y e
    go n m x y at there near far false e =
        let all : List Placed = picked ns documents in
        let one = sym (few_here order wanted documents ns n x at) ∙ near in
        let other = sym (few_here order wanted documents ns m y there) ∙ far in
        let more = more_ahead order all x y e in
        absurd (apart_counts (ahead_of order all x) (ahead_of order all y) wanted one other more)

-- ---- the first so many

many_ahead : (order : HitOrder) (wanted : ℕ) (documents : List Placed) (ns : List ℕ)
    → AllByRecursion (λ (z : Placed). wanted ≤ ahead_of order (picked ns documents) z) (sorted_by (comes_before (Some order)) (picked (filter (λ n. not (has_few_ahead order wanted documents ns n)) ns) documents))
many_ahead order wanted documents ns =
    let all : List Placed = picked ns documents in
    sorted_all (λ (z : Placed). wanted ≤ ahead_of order all z) (comes_before (Some order)) (picked (filter (λ n. not (has_few_ahead order wanted documents ns n)) ns) documents)
    (all_picked (λ (z : Placed). wanted ≤ ahead_of order all z) (λ n. not (has_few_ahead order wanted documents ns n)) documents ns
    (λ n d failed here. not_fewer (ahead_of order all d) wanted (sym (few_here order wanted documents ns n d here) ∙ not_true (has_few_ahead order wanted documents ns n) failed)))

-- where some are not near, so many are
enough_near : (order : HitOrder) (wanted : ℕ) (all front ys : List Placed) (y : Placed) → sorted_by (comes_before (Some order)) all ≡ front ++ (y ∷ ys) → InOrder (comes_before (Some order)) (y ∷ ys) → wanted ≤ ahead_of order all y
    → wanted ≤ length front
enough_near order wanted all front ys y parts up many =
    let b = comes_before (Some order) in
    let counted = count_sorted b (is_ahead order) y all in
    let two = ap (λ (zs : List Placed). ahead_of order zs y) parts ∙ sum_by-append (λ (x : Placed). cond {A = ℕ} (is_ahead order x y) 1 0) front (y ∷ ys) in
    let behind = count_none (λ x. is_ahead order x y) (y ∷ ys) (none_ahead order y (y ∷ ys) (not_before_itself b (hits_order (Some order)) y, none_before b (hits_order (Some order)) y ys up)) in
    let some = count_by-le-length (λ (x : Placed). is_ahead order x y) front in
    omega arith

pub near_firsts : (order : HitOrder) (wanted : ℕ) (documents : List Placed) (ns : List ℕ) → AllByRecursion (λ n. n < length documents) ns
    → firsts wanted (Some order) (picked (near order wanted documents ns) documents) ≡ firsts wanted (Some order) (picked ns documents)
near_firsts order wanted documents ns below =
    go (sorted_by (comes_before (Some order)) (picked (filter (λ n. not (has_few_ahead order wanted documents ns n)) ns) documents)) refl
  where
    go : (back : List Placed) → sorted_by (comes_before (Some order)) (picked (filter (λ n. not (has_few_ahead order wanted documents ns n)) ns) documents) ≡ back
        → firsts wanted (Some order) (picked (near order wanted documents ns) documents) ≡ firsts wanted (Some order) (picked ns documents)
    go [] e =
        ap (take wanted) (sym (parted (comes_before (Some order)) (hits_order (Some order)) (has_few_ahead order wanted documents ns) documents ns (nears_apart order wanted documents ns) below
        ∙ (ap (λ (zs : List Placed). sorted_by (comes_before (Some order)) (picked (near order wanted documents ns) documents) ++ zs) e ∙ append-nil (sorted_by (comes_before (Some order)) (picked (near order wanted documents ns) documents)))))
    go (y ∷ ys) e =
        let front = sorted_by (comes_before (Some order)) (picked (near order wanted documents ns) documents) in
        let parts = parted (comes_before (Some order)) (hits_order (Some order)) (has_few_ahead order wanted documents ns) documents ns (nears_apart order wanted documents ns) below ∙ ap (λ (zs : List Placed). front ++ zs) e in
        let up = subst (λ (zs : List Placed). InOrder (comes_before (Some order)) zs) e (sorted_in_order (comes_before (Some order)) (hits_order (Some order)) (picked (filter (λ n. not (has_few_ahead order wanted documents ns n)) ns) documents)) in
        let many = subst (λ (zs : List Placed). AllByRecursion (λ (z : Placed). wanted ≤ ahead_of order (picked ns documents) z) zs) e (many_ahead order wanted documents ns) in
        let enough = enough_near order wanted (picked ns documents) front ys y parts up many.0 in
        sym (ap (take wanted) parts ∙ take-append-le wanted front (y ∷ ys) enough)

-- ---- those that may be shown

pub shown_all : (wanted : ℕ) (documents : List Placed) (ns : List ℕ) → 1 ≤ wanted → shown None wanted documents ns ≡ ns
shown_all wanted documents ns some = rw (ne_eqb wanted 0 (λ same. omega arith)) refl

none_near : (order : HitOrder) (documents : List Placed) (all ns : List ℕ) → filter (has_few_ahead order 0 documents all) ns ≡ []
none_near order documents all [] = refl
none_near order documents all (n ∷ ns) = rw (few (slice_get documents n)) (none_near order documents all ns)
  where
    few : (o : Option Placed) → option_map_or (λ d. nat_lt (ahead_of order (picked all documents) d) 0) o false ≡ false
    few None = refl
    few (Some d) = le-ltb (ahead_of order (picked all documents) d) 0 (omega arith)

pub shown_none : (order : Option HitOrder) (wanted : ℕ) (documents : List Placed) (ns : List ℕ) → wanted ≡ 0 → [] ≡ shown order wanted documents ns
shown_none None wanted documents ns none = rw none refl
shown_none (Some order) wanted documents ns none = rw none (sym (none_near order documents ns ns))

pub shown_firsts : (order : Option HitOrder) (wanted : ℕ) (documents : List Placed) (ns : List ℕ) → AllByRecursion (λ n. n < length documents) ns
    → firsts wanted order (picked (shown order wanted documents ns) documents) ≡ firsts wanted order (picked ns documents)
shown_firsts (Some order) wanted documents ns below = near_firsts order wanted documents ns below
shown_firsts None zero documents ns below = refl
shown_firsts None (suc wanted) documents ns below = ap (λ (ms : List ℕ). firsts (suc wanted) None (picked ms documents)) (shown_all (suc wanted) documents ns (omega arith))

pub shown_among : (order : Option HitOrder) (wanted : ℕ) (documents : List Placed) (ns : List ℕ) (n : ℕ) → Contains (shown order wanted documents ns) n → Contains ns n
shown_among (Some order) wanted documents ns n has = filter_among (has_few_ahead order wanted documents ns) ns n has
shown_among None zero documents ns n has = absurd (let lt = has.1 in omega arith)
shown_among None (suc wanted) documents ns n has = subst (λ (ms : List ℕ). Contains ms n) (shown_all (suc wanted) documents ns (omega arith)) has
