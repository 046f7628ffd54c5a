-- Documents of which some stand before all others.
use Rattle.std.proofs.Common.{◌≡◌, ℕ, suc, ◌<◌, Bool, true, false, not, cond, List, [], ◌∷◌, ◌++◌, length, slice_get, Option, Some, None, if◌then◌else◌, refl, ap, ◌∙◌}
use Rattle.std.specs.Cmp.{IsStrictWeakOrder}
use Rattle.std.specs.List.{AllByRecursion, filter}
use Rattle.std.specs.Option.{option_to_list}
use Rattle.split_bundle.specs.declared.placed.Placed.{Placed}
use Rattle.doc_tallies.specs.Firsts.{put_by, sorted_by}
use Rattle.doc_tallies.specs.Picked.{picked}
use Rattle.doc_tallies.proofs.TimeValues.{stands}

-- ---- what holds of each item

put_all : {X : Type 0} (P : X → Type 0) (b : X → X → Bool) (x : X) (ys : List X) → P x → AllByRecursion P ys → AllByRecursion P (put_by b x ys)
put_all P b x [] here all = (here, tt)
put_all P b x (y ∷ ys) here all = go (b y x) (put_all P b x ys here all.1)
  where
    go : (t : Bool) → AllByRecursion P (put_by b x ys) → AllByRecursion P (if t then y ∷ put_by b x ys else x ∷ y ∷ ys)
    go true rest = (all.0, rest)
    go false rest = (here, all)

pub sorted_all : {X : Type 0} (P : X → Type 0) (b : X → X → Bool) (xs : List X) → AllByRecursion P xs → AllByRecursion P (sorted_by b xs)
sorted_all P b [] all = tt
sorted_all P b (x ∷ xs) all = put_all P b x (sorted_by b xs) all.0 (sorted_all P b xs all.1)

length_put : {X : Type 0} (b : X → X → Bool) (x : X) (ys : List X) → length (put_by b x ys) ≡ suc (length ys)
length_put b x [] = refl
length_put b x (y ∷ ys) = go (b y x) (length_put b x ys)
  where
    go : (t : Bool) → length (put_by b x ys) ≡ suc (length ys) → length (if t then y ∷ put_by b x ys else x ∷ y ∷ ys) ≡ suc (length (y ∷ ys))
    go true e = ap (λ n. suc n) e
    go false e = refl

pub length_sorted : {X : Type 0} (b : X → X → Bool) (xs : List X) → length (sorted_by b xs) ≡ length xs
length_sorted b [] = refl
length_sorted b (x ∷ xs) = length_put b x (sorted_by b xs) ∙ ap (λ n. suc n) (length_sorted b xs)

-- ---- put into one of two lists

pub put_left : {X : Type 0} (b : X → X → Bool) (x : X) (us ws : List X) → AllByRecursion (λ z. b z x ≡ false) ws → put_by b x (us ++ ws) ≡ put_by b x us ++ ws
put_left b x [] [] behind = refl
put_left b x [] (z ∷ zs) behind = rw (behind.0) refl
put_left b x (a ∷ rest) ws behind = go (b a x) (put_left b x rest ws behind)
  where
    go : (t : Bool) → put_by b x (rest ++ ws) ≡ put_by b x rest ++ ws → (if t then a ∷ put_by b x (rest ++ ws) else x ∷ a ∷ (rest ++ ws)) ≡ (if t then a ∷ put_by b x rest else x ∷ a ∷ rest) ++ ws
    go true e = ap (λ zs. a ∷ zs) e
    go false e = refl

pub put_right : {X : Type 0} (b : X → X → Bool) (x : X) (us ws : List X) → AllByRecursion (λ z. b z x ≡ true) us → put_by b x (us ++ ws) ≡ us ++ put_by b x ws
put_right b x [] ws before = refl
put_right b x (a ∷ rest) ws before = rw (before.0) (ap (λ zs. a ∷ zs) (put_right b x rest ws before.1))

-- ---- documents by a test of their numbers

-- each document whose number passes stands before each whose number does not
pub record AreApart (b : Placed → Placed → Bool) (q : ℕ → Bool) (documents : List Placed) : Type 0 where
  pub apart : (n m : ℕ) (x y : Placed) → slice_get documents n ≡ Some x → slice_get documents m ≡ Some y → q n ≡ true → q m ≡ false → b x y ≡ true

pub all_picked : (P : Placed → Type 0) (r : ℕ → Bool) (documents : List Placed) (ns : List ℕ) → ((n : ℕ) (d : Placed) → r n ≡ true → slice_get documents n ≡ Some d → P d) → AllByRecursion P (picked (filter r ns) documents)
all_picked P r documents [] each = tt
all_picked P r documents (n ∷ ns) each = go (r n) refl (all_picked P r documents ns each)
  where
    one : (o : Option Placed) → slice_get documents n ≡ o → r n ≡ true → AllByRecursion P (picked (filter r ns) documents) → AllByRecursion P (option_to_list o ++ picked (filter r ns) documents)
    one None e h rest = rest
    one (Some d) e h rest = (each n d h e, rest)

    go : (t : Bool) → r n ≡ t → AllByRecursion P (picked (filter r ns) documents) → AllByRecursion P (picked (cond t (n ∷ filter r ns) (filter r ns)) documents)
    go true h rest = one (slice_get documents n) refl h rest
    go false h rest = rest

pub not_true : (t : Bool) → not t ≡ true → t ≡ false
not_true true h = absurd (cc)
not_true false h = refl

-- those that pass, in order, and then those that do not
pub parted : (b : Placed → Placed → Bool) (o : IsStrictWeakOrder b) (q : ℕ → Bool) (documents : List Placed) (ns : List ℕ) → AreApart b q documents → AllByRecursion (λ n. n < length documents) ns
    → sorted_by b (picked ns documents) ≡ sorted_by b (picked (filter q ns) documents) ++ sorted_by b (picked (filter (λ n. not (q n)) ns) documents)
parted b o q documents [] apart below = refl
parted b o q documents (n ∷ ns) apart below = go (q n) refl (parted b o q documents ns apart below.1)
  where
    go : (t : Bool) → q n ≡ t → sorted_by b (picked ns documents) ≡ sorted_by b (picked (filter q ns) documents) ++ sorted_by b (picked (filter (λ k. not (q k)) ns) documents)
        → sorted_by b (option_to_list (slice_get documents n) ++ picked ns documents)
        ≡ sorted_by b (picked (cond t (n ∷ filter q ns) (filter q ns)) documents) ++ sorted_by b (picked (cond (not t) (n ∷ filter (λ k. not (q k)) ns) (filter (λ k. not (q k)) ns)) documents)
    go true h rest =
        let at = stands documents n below.0 in
        let d = at.document in
        let behind = sorted_all (λ (z : Placed). b z d ≡ false) b (picked (filter (λ k. not (q k)) ns) documents)
        (all_picked (λ (z : Placed). b z d ≡ false) (λ k. not (q k)) documents ns (λ m z failed here. o.one_way d z (apart.apart n m d z at.here here h (not_true (q m) failed)))) in
        rw (at.here) (ap (put_by b d) rest ∙ put_left b d (sorted_by b (picked (filter q ns) documents)) (sorted_by b (picked (filter (λ k. not (q k)) ns) documents)) behind)
    go false h rest =
        let at = stands documents n below.0 in
        let d = at.document in
        let before = sorted_all (λ (z : Placed). b z d ≡ true) b (picked (filter q ns) documents)
        (all_picked (λ (z : Placed). b z d ≡ true) q documents ns (λ m z passed here. apart.apart m n z d here at.here passed h)) in
        rw (at.here) (ap (put_by b d) rest ∙ put_right b d (sorted_by b (picked (filter q ns) documents)) (sorted_by b (picked (filter (λ k. not (q k)) ns) documents)) before)

pub length_picked : (documents : List Placed) (q : ℕ → Bool) (ns : List ℕ) → AllByRecursion (λ n. n < length documents) ns → length (picked (filter q ns) documents) ≡ length (filter q ns)
length_picked documents q [] below = refl
length_picked documents q (n ∷ ns) below = go (q n) (length_picked documents q ns below.1)
  where
    go : (t : Bool) → length (picked (filter q ns) documents) ≡ length (filter q ns) → length (picked (cond t (n ∷ filter q ns) (filter q ns)) documents) ≡ length (cond t (n ∷ filter q ns) (filter q ns))
    go true e = let at = stands documents n below.0 in rw (at.here) (ap (λ k. suc k) e)
    go false e = e
