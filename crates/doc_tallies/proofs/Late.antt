-- An item that does not stand before so many others is not among the first so many.
use Rattle.std.proofs.Common.{◌≡◌, ℕ, zero, suc, ◌-◌, ◌≤◌, Bool, true, false, not, cond, List, [], ◌∷◌, ◌++◌, length, take, slice_get, Some, if◌then◌else◌, refl, ap, sym, ◌∙◌, arith}
use Rattle.std.specs.Bool.{OnTrue}
use Rattle.std.specs.Cmp.{IsStrictWeakOrder}
use Rattle.std.specs.List.{AllByRecursion, filter}
use Rattle.std.proofs.lemmas.List.{length-append}
use Rattle.std.proofs.lemmas.List.Elements.{filter-append}
use Rattle.doc_tallies.specs.Bars.{HasBar}
use Rattle.doc_tallies.specs.Firsts.{put_by, sorted_by, firsts_by, put_last_by}
use Rattle.doc_tallies.proofs.Putting.{InOrder, firsts_in_order, firsts_more, sorted_in_order, sorted_more, sorted_self, take_twice, up_to}
use Rattle.doc_tallies.proofs.Stable.{none_before, not_before_itself, rest_in_order}

-- ---- how many do not stand behind an item

-- those that do not stand behind x
abbrev upto : {X : Type 0} → (X → X → Bool) → X → List X → List X
upto b x ys = filter (λ y. not (b x y)) ys

count_put : {X : Type 0} (b : X → X → Bool) (p : X → Bool) (x : X) (ys : List X) → length (filter p (put_by b x ys)) ≡ length (filter p (x ∷ ys))
count_put b p x [] = refl
count_put {X = X} b p x (y ∷ ys) = go (b y x) (count_put b p x ys)
  where
    two : (s t : Bool) (placed rest : List X) → length placed ≡ length (cond s (x ∷ rest) rest)
        → length (cond t (y ∷ placed) placed) ≡ length (cond s (x ∷ cond t (y ∷ rest) rest) (cond t (y ∷ rest) rest))
    two true true placed rest is = ap (λ n. suc n) is
    two true false placed rest is = is
    two false true placed rest is = ap (λ n. suc n) is
    two false false placed rest is = is

    go : (t : Bool) → length (filter p (put_by b x ys)) ≡ length (filter p (x ∷ ys)) → length (filter p (if t then y ∷ put_by b x ys else x ∷ y ∷ ys)) ≡ length (filter p (x ∷ y ∷ ys))
    go false same = refl
    go true same = two (p x) (p y) (filter p (put_by b x ys)) (filter p ys) same

pub length_passed : {X : Type 0} (b : X → X → Bool) (p : X → Bool) (xs : List X) → length (filter p (sorted_by b xs)) ≡ length (filter p xs)
length_passed b p [] = refl
length_passed {X = X} b p (x ∷ xs) = count_put b p x (sorted_by b xs) ∙ one (p x) (filter p (sorted_by b xs)) (filter p xs) (length_passed b p xs)
  where
    one : (t : Bool) (some others : List X) → length some ≡ length others → length (cond t (x ∷ some) some) ≡ length (cond t (x ∷ others) others)
    one true some others is = ap (λ n. suc n) is
    one false some others is = is

-- of an item that does not stand before another there are as many at least
count_wider : {X : Type 0} (b : X → X → Bool) → IsStrictWeakOrder b → (x z : X) (ys : List X) → b x z ≡ false → length (upto b z ys) ≤ length (upto b x ys)
count_wider b o x z [] h = omega arith
count_wider {X = X} b o x z (y ∷ ys) h = go (b z y) refl (b x y) refl (count_wider b o x z ys h)
  where
    go : (p : Bool) → b z y ≡ p → (q : Bool) → b x y ≡ q → length (upto b z ys) ≤ length (upto b x ys)
        → length (cond (not p) (y ∷ upto b z ys) (upto b z ys)) ≤ length (cond (not q) (y ∷ upto b x ys) (upto b x ys))
    go true e true f more = more
    go true e false f more = omega arith
    go false e false f more = omega arith
    go false e true f more =
        let none : b x y ≡ false = o.chain x z y h e in
        absurd (cc)

-- where the first of a list in order stands behind an item, all of it does
none_upto : {X : Type 0} (b : X → X → Bool) → IsStrictWeakOrder b → (x y : X) (ws : List X) → b x y ≡ true → AllByRecursion (λ w. b w y ≡ false) ws → upto b x ws ≡ []
none_upto b o x y [] h all = refl
none_upto b o x y (w ∷ ws) h all =
    let before = up_to b o x y w h all.0 in
    ap (λ t. cond (not t) (w ∷ upto b x ws) (upto b x ws)) before ∙ none_upto b o x y ws h all.1

-- ---- an item that is late

late_put : {X : Type 0} (b : X → X → Bool) → IsStrictWeakOrder b → (x : X) (ys : List X) (n : ℕ) → InOrder b ys → n ≤ length (upto b x ys) → take n (put_last_by b x ys) ≡ take n ys
late_put b o x ys zero up enough = refl
late_put b o x [] (suc n) up enough = absurd (omega arith)
late_put b o x (y ∷ ys) (suc n) up enough = go (b x y) refl enough (late_put b o x ys n (rest_in_order b y ys up))
  where
    go : (t : Bool) → b x y ≡ t → suc n ≤ length (cond (not t) (y ∷ upto b x ys) (upto b x ys)) → (n ≤ length (upto b x ys) → take n (put_last_by b x ys) ≡ take n ys)
        → take (suc n) (if t then x ∷ y ∷ ys else y ∷ put_last_by b x ys) ≡ y ∷ take n ys
    go false e many rest = ap (λ zs. y ∷ zs) (rest (omega arith))
    go true e many rest =
        let none : length (upto b x ys) ≡ 0 = ap (λ zs. length zs) (none_upto b o x y ys e (none_before b o y ys up)) in
        absurd (omega arith)

pub drop_late : {X : Type 0} (b : X → X → Bool) → IsStrictWeakOrder b → (n : ℕ) (items : List X) (x z : X) → n ≤ length (upto b z items) → b x z ≡ false → firsts_by n b (items ++ x ∷ []) ≡ firsts_by n b items
drop_late b o n items x z enough late =
    let wider = count_wider b o x z items late in
    let counted = length_passed b (λ y. not (b x y)) items in
    let many : n ≤ length (upto b x (sorted_by b items)) = omega arith in
    ap (take n) (sorted_more b o items x) ∙ late_put b o x (sorted_by b items) n (sorted_in_order b o items) many

-- ---- the bar

at_all : {X : Type 0} (P : X → Type 0) (xs : List X) (i : ℕ) (x : X) → AllByRecursion P xs → slice_get xs i ≡ Some x → P x
at_all P [] i x all here = absurd (cc)
at_all P (y ∷ ys) zero x all here = let same : y ≡ x = cc in rw (← same) all.0
at_all P (y ∷ ys) (suc i) x all here = at_all P ys i x all.1 here

counted_to : {X : Type 0} (b : X → X → Bool) → IsStrictWeakOrder b → (x : X) (ys : List X) (i : ℕ) → InOrder b ys → slice_get ys i ≡ Some x → suc i ≤ length (upto b x ys)
counted_to b o x [] i up here = absurd (cc)
counted_to b o x (y ∷ ys) zero up here =
    let same : y ≡ x = cc in
    let passed : b x y ≡ false = ap (b x) same ∙ not_before_itself b o x in
    rw (passed) (omega arith)
counted_to b o x (y ∷ ys) (suc i) up here =
    let passed : b x y ≡ false = at_all (λ w. b w y ≡ false) ys i x (none_before b o y ys up) here in
    let rest = counted_to b o x ys i (rest_in_order b y ys up) here in
    rw (passed) (omega arith)

get_there : {X : Type 0} (xs : List X) (n i : ℕ) → n ≡ suc i → length xs ≡ n → (x : X) × (slice_get xs i ≡ Some x)
get_there [] n i one long = absurd (omega arith)
get_there (x ∷ xs) n zero one long = (x, refl)
get_there (x ∷ xs) n (suc i) one long = get_there xs (suc i) i refl (omega arith)

-- so many items in order have one
pub bar_of : {X : Type 0} (b : X → X → Bool) → IsStrictWeakOrder b → (n : ℕ) (ys : List X) → InOrder b ys → length ys ≡ n → suc zero ≤ n → HasBar b n ys
bar_of b o n ys up long some =
    let one : n ≡ suc (n - 1) = omega arith in
    let at = get_there ys n (n - 1) one long in
    let many = counted_to b o at.0 ys (n - 1) up at.1 in
    record { last = at.0; here = at.1; enough = omega arith }

still_there : {X : Type 0} (xs ys : List X) (i : ℕ) (x : X) → slice_get xs i ≡ Some x → slice_get (xs ++ ys) i ≡ Some x
still_there [] ys i x here = absurd (cc)
still_there (z ∷ zs) ys zero x here = here
still_there (z ∷ zs) ys (suc i) x here = still_there zs ys i x here

-- and with one more it is one still
pub bar_more : {X : Type 0} (b : X → X → Bool) (n : ℕ) (ys : List X) (x : X) → HasBar b n ys → HasBar b n (ys ++ x ∷ [])
bar_more b n ys x bar =
    let before = bar.enough in
    let apart = ap (λ zs. length zs) (filter-append (λ y. not (b bar.last y)) ys (x ∷ [])) in
    let long = length-append (upto b bar.last ys) (upto b bar.last (x ∷ [])) in
    record { last = bar.last; here = still_there ys (x ∷ []) (n - 1) bar.last bar.here; enough = omega arith }

-- a list in order, of which it is known that it has so many items
pub bar_when : {X : Type 0} (b : X → X → Bool) → IsStrictWeakOrder b → (n : ℕ) (ys : List X) (t : Bool) → InOrder b ys → OnTrue t ((1 ≤ n) × (length ys ≡ n)) → OnTrue t (HasBar b n ys)
bar_when b o n ys true up full = bar_of b o n ys up full.1 full.0
bar_when b o n ys false up full = tt

-- an item that was compared with the bar
pub late_when : {X : Type 0} (b : X → X → Bool) → IsStrictWeakOrder b → (n : ℕ) (items : List X) (x z : X) (i : ℕ) (t : Bool) → i ≡ n - 1 → slice_get items i ≡ Some z → t ≡ b x z → HasBar b n items
    → OnTrue (not t) (firsts_by n b (items ++ x ∷ []) ≡ firsts_by n b items)
late_when b o n items x z i true at here is bar = tt
late_when b o n items x z i false at here is bar =
    let there : slice_get items (n - 1) ≡ Some z = ap (slice_get items) (sym at) ∙ here in
    let last = bar.here in
    let same : bar.last ≡ z = cc in
    drop_late b o n items x bar.last bar.enough (ap (b x) same ∙ sym is)

-- ---- the first so many

pub firsts_again : {X : Type 0} (b : X → X → Bool) → IsStrictWeakOrder b → (n : ℕ) (xs : List X) → firsts_by n b (firsts_by n b xs) ≡ firsts_by n b xs
firsts_again b o n xs = ap (take n) (sorted_self b (firsts_by n b xs) (firsts_in_order b o n xs)) ∙ take_twice n (sorted_by b xs)

pub firsts_push : {X : Type 0} (b : X → X → Bool) → IsStrictWeakOrder b → (n : ℕ) (xs ys : List X) (z : X) → firsts_by n b xs ≡ firsts_by n b ys → firsts_by n b (xs ++ z ∷ []) ≡ firsts_by n b (ys ++ z ∷ [])
firsts_push b o n xs ys z same = firsts_more b o n xs z ∙ (ap (λ zs. take n (put_last_by b z zs)) same ∙ sym (firsts_more b o n ys z))
