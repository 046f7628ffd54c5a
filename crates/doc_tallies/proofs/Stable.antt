-- A list that is sorted and keeps the order of ties is the items put in order.
use Rattle.std.proofs.Common.{◌≡◌, ℕ, suc, ◌+◌, ◌<◌, ◌≤◌, Bool, true, false, not, ◌&&◌, cond, List, [], ◌∷◌, length, get_or, if◌then◌else◌, IsSortedBy, refl, ap, sym, ◌∙◌, arith}
use Rattle.std.specs.Cmp.{IsStrictWeakOrder}
use Rattle.std.specs.List.{AllByRecursion, filter}
use Rattle.std.specs.List.Sorted.{IsStableBy, ties}
use Rattle.doc_tallies.specs.Firsts.{put_by, sorted_by}
use Rattle.doc_tallies.proofs.Putting.{InOrder, sorted_in_order, up_to}

-- ---- lists in order

pub in_order_of : {X : Type 0} (b : X → X → Bool) (xs : List X) → IsSortedBy b xs → InOrder b xs
in_order_of b [] h = tt
in_order_of b (x ∷ []) h = tt
in_order_of {X = X} b (x ∷ y ∷ ys) h = (h 0 x (omega arith) (omega arith), in_order_of b (y ∷ ys) rest)
  where
    rest : (k : ℕ) (d : X) → 0 ≤ k → k + 1 < length (y ∷ ys) → b (get_or (y ∷ ys) (k + 1) d) (get_or (y ∷ ys) k d) ≡ false
    rest k d low high =
        let next : suc (k + 1) ≡ suc k + 1 = omega arith in
        ap (λ n. b (get_or (x ∷ y ∷ ys) n d) (get_or (y ∷ ys) k d)) next ∙ h (suc k) d (omega arith) (omega arith)

pub rest_in_order : {X : Type 0} (b : X → X → Bool) (x : X) (xs : List X) → InOrder b (x ∷ xs) → InOrder b xs
rest_in_order b x [] h = tt
rest_in_order b x (y ∷ ys) h = h.1

behind_both : {X : Type 0} (b : X → X → Bool) → IsStrictWeakOrder b → (x y : X) (ws : List X) → b y x ≡ false → AllByRecursion (λ w. b w y ≡ false) ws → AllByRecursion (λ w. b w x ≡ false) ws
behind_both b o x y [] h all = tt
behind_both b o x y (w ∷ ws) h all = (o.chain w y x all.0 h, behind_both b o x y ws h all.1)

-- none of the others stands before the first
pub none_before : {X : Type 0} (b : X → X → Bool) → IsStrictWeakOrder b → (x : X) (xs : List X) → InOrder b (x ∷ xs) → AllByRecursion (λ w. b w x ≡ false) xs
none_before b o x [] h = tt
none_before b o x (y ∷ ys) h = (h.0, behind_both b o x y ys h.0 (none_before b o y ys h.1))

pub not_before_itself : {X : Type 0} (b : X → X → Bool) → IsStrictWeakOrder b → (x : X) → b x x ≡ false
not_before_itself b o x = go (b x x) refl
  where
    go : (t : Bool) → b x x ≡ t → b x x ≡ false
    go false e = e
    go true e = o.one_way x x e

-- ---- ties

tied : (p q : Bool) → not p && not q ≡ true → (p ≡ false) × (q ≡ false)
tied false false h = (refl, refl)
tied false true h = absurd (cc)
tied true q h = absurd (cc)

-- of two items of which one stands before the other at most one ties with a third
filter_put : {X : Type 0} (b : X → X → Bool) → IsStrictWeakOrder b → (a x : X) (ys : List X) → filter (ties b a) (put_by b x ys) ≡ filter (ties b a) (x ∷ ys)
filter_put b o a x [] = refl
filter_put {X = X} b o a x (y ∷ ys) = go (b y x) refl (filter_put b o a x ys)
  where
    two : (s t : Bool) → ties b a x ≡ s → ties b a y ≡ t → b y x ≡ true → (placed rest : List X) → placed ≡ cond s (x ∷ rest) rest
        → cond t (y ∷ placed) placed ≡ cond s (x ∷ cond t (y ∷ rest) rest) (cond t (y ∷ rest) rest)
    two true true h k e placed rest is =
        let one = tied (b a x) (b x a) h in
        let other = tied (b a y) (b y a) k in
        let none : b y x ≡ false = o.chain y a x other.1 one.0 in
        absurd (cc)
    two true false h k e placed rest is = is
    two false true h k e placed rest is = ap (λ zs. y ∷ zs) is
    two false false h k e placed rest is = is

    go : (t : Bool) → b y x ≡ t → filter (ties b a) (put_by b x ys) ≡ filter (ties b a) (x ∷ ys) → filter (ties b a) (if t then y ∷ put_by b x ys else x ∷ y ∷ ys) ≡ filter (ties b a) (x ∷ y ∷ ys)
    go false e same = refl
    go true e same = two (ties b a x) (ties b a y) refl refl e (filter (ties b a) (put_by b x ys)) (filter (ties b a) ys) same

sorted_stable : {X : Type 0} (b : X → X → Bool) → IsStrictWeakOrder b → (a : X) (xs : List X) → filter (ties b a) (sorted_by b xs) ≡ filter (ties b a) xs
sorted_stable b o a [] = refl
sorted_stable b o a (x ∷ xs) = filter_put b o a x (sorted_by b xs) ∙ ap (λ zs. cond (ties b a x) (x ∷ zs) zs) (sorted_stable b o a xs)

ties_itself : {X : Type 0} (b : X → X → Bool) → IsStrictWeakOrder b → (x : X) → ties b x x ≡ true
ties_itself b o x = ap (λ t. not t && not t) (not_before_itself b o x)

-- an item that stands before the first of a list in order ties with none of it
no_ties : {X : Type 0} (b : X → X → Bool) → IsStrictWeakOrder b → (y z : X) (ws : List X) → b y z ≡ true → AllByRecursion (λ w. b w z ≡ false) ws → filter (ties b y) ws ≡ []
no_ties b o y z [] h all = refl
no_ties b o y z (w ∷ ws) h all =
    let before = up_to b o y z w h all.0 in
    ap (λ t. cond (not t && not (b w y)) (w ∷ filter (ties b y) ws) (filter (ties b y) ws)) before ∙ no_ties b o y z ws h all.1

-- ---- one order

starts : {X : Type 0} (b : X → X → Bool) (a x : X) (xs : List X) → ties b a x ≡ true → filter (ties b a) (x ∷ xs) ≡ x ∷ filter (ties b a) xs
starts b a x xs h = ap (λ t. cond t (x ∷ filter (ties b a) xs) (filter (ties b a) xs)) h

same_first : {X : Type 0} (b : X → X → Bool) → IsStrictWeakOrder b → (y z : X) (ys zs : List X) → InOrder b (y ∷ ys) → InOrder b (z ∷ zs)
    → ((a : X) → filter (ties b a) (y ∷ ys) ≡ filter (ties b a) (z ∷ zs)) → y ≡ z
same_first b o y z ys zs up down same = go (b y z) refl (b z y) refl
  where
    go : (p : Bool) → b y z ≡ p → (q : Bool) → b z y ≡ q → y ≡ z
    go true e q f =
        let none = no_ties b o y z (z ∷ zs) e (not_before_itself b o z, none_before b o z zs down) in
        let some = starts b y y ys (ties_itself b o y) in
        let both = same y in
        absurd (cc)
    go false e true f =
        let none = no_ties b o z y (y ∷ ys) f (not_before_itself b o y, none_before b o y ys up) in
        let some = starts b z z zs (ties_itself b o z) in
        let both = same z in
        absurd (cc)
    go false e false f =
        let tie : ties b y z ≡ true = ap (λ t. not t && not (b z y)) e ∙ ap (λ t. not false && not t) f in
        let one = starts b y y ys (ties_itself b o y) in
        let other = starts b y z zs tie in
        let both = same y in
        cc

same_rest : {X : Type 0} (t : Bool) (y : X) (ys zs : List X) → cond t (y ∷ ys) ys ≡ cond t (y ∷ zs) zs → ys ≡ zs
same_rest true y ys zs h = cc
same_rest false y ys zs h = h

one_order : {X : Type 0} (b : X → X → Bool) → IsStrictWeakOrder b → (ys zs : List X) → InOrder b ys → InOrder b zs
    → ((a : X) → filter (ties b a) ys ≡ filter (ties b a) zs) → ys ≡ zs
one_order b o [] [] up down same = refl
one_order b o [] (z ∷ zs) up down same =
    let some = starts b z z zs (ties_itself b o z) in
    let both = same z in
    absurd (cc)
one_order b o (y ∷ ys) [] up down same =
    let some = starts b y y ys (ties_itself b o y) in
    let both = same y in
    absurd (cc)
one_order {X = X} b o (y ∷ ys) (z ∷ zs) up down same =
    let first = same_first b o y z ys zs up down same in
    ap (λ w. w ∷ ys) first ∙ ap (λ ws. z ∷ ws) (one_order b o ys zs (rest_in_order b y ys up) (rest_in_order b z zs down) (rest first))
  where
    rest : y ≡ z → (a : X) → filter (ties b a) ys ≡ filter (ties b a) zs
    rest first a = same_rest (ties b a z) z (filter (ties b a) ys) (filter (ties b a) zs)
        (ap (λ w. cond (ties b a w) (w ∷ filter (ties b a) ys) (filter (ties b a) ys)) (sym first) ∙ same a)

pub sorted_is : {X : Type 0} (b : X → X → Bool) → IsStrictWeakOrder b → (xs ys : List X) → IsSortedBy b ys → IsStableBy b xs ys → ys ≡ sorted_by b xs
sorted_is b o xs ys up stable = one_order b o ys (sorted_by b xs) (in_order_of b ys up) (sorted_in_order b o xs) (λ a. stable a ∙ sym (sorted_stable b o a xs))
