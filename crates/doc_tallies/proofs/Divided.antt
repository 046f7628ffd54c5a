-- A list in order, divided by a test whose items stand before all others.
use Rattle.std.proofs.Common.{◌≡◌, Bool, true, false, not, cond, List, [], ◌∷◌, ◌++◌, refl, ap, sym, ◌∙◌, append-nil}
use Rattle.std.specs.Cmp.{IsStrictWeakOrder}
use Rattle.std.specs.List.{AllByRecursion, filter}
use Rattle.std.proofs.lemmas.List.Elements.{filter-append}
use Rattle.doc_tallies.specs.Firsts.{put_by, sorted_by}
use Rattle.doc_tallies.proofs.Parting.{not_true, put_left, put_right, sorted_all}

pub all_filtered : {X : Type 0} (P : X → Type 0) (q : X → Bool) (xs : List X) → ((x : X) → q x ≡ true → P x) → AllByRecursion P (filter q xs)
all_filtered P q [] each = tt
all_filtered {X = X} P q (x ∷ xs) each = go (q x) refl (all_filtered P q xs each)
  where
    go : (t : Bool) → q x ≡ t → AllByRecursion P (filter q xs) → AllByRecursion P (cond t (x ∷ filter q xs) (filter q xs))
    go true e rest = (each x e, rest)
    go false e rest = rest

-- those that pass, in order, and then those that do not
pub sorted_divided : {X : Type 0} (b : X → X → Bool) → IsStrictWeakOrder b → (q : X → Bool) → ((x y : X) → q x ≡ true → q y ≡ false → b x y ≡ true) → (xs : List X)
    → sorted_by b xs ≡ sorted_by b (filter q xs) ++ sorted_by b (filter (λ x. not (q x)) xs)
sorted_divided b o q apart [] = refl
sorted_divided {X = X} b o q apart (x ∷ xs) = go (q x) refl (sorted_divided b o q apart xs)
  where
    go : (t : Bool) → q x ≡ t → sorted_by b xs ≡ sorted_by b (filter q xs) ++ sorted_by b (filter (λ y. not (q y)) xs)
        → put_by b x (sorted_by b xs) ≡ sorted_by b (cond t (x ∷ filter q xs) (filter q xs)) ++ sorted_by b (cond (not t) (x ∷ filter (λ y. not (q y)) xs) (filter (λ y. not (q y)) xs))
    go true e rest =
        let behind = sorted_all (λ (y : X). b y x ≡ false) b (filter (λ y. not (q y)) xs) (all_filtered (λ (y : X). b y x ≡ false) (λ y. not (q y)) xs (λ y h. o.one_way x y (apart x y e (not_true (q y) h)))) in
        ap (put_by b x) rest ∙ put_left b x (sorted_by b (filter q xs)) (sorted_by b (filter (λ y. not (q y)) xs)) behind
    go false e rest =
        let before = sorted_all (λ (y : X). b y x ≡ true) b (filter q xs) (all_filtered (λ (y : X). b y x ≡ true) q xs (λ y h. apart y x h e)) in
        ap (put_by b x) rest ∙ put_right b x (sorted_by b (filter q xs)) (sorted_by b (filter (λ y. not (q y)) xs)) before

filter_all : {X : Type 0} (q : X → Bool) (xs : List X) → AllByRecursion (λ x. q x ≡ true) xs → filter q xs ≡ xs
filter_all q [] all = refl
filter_all q (x ∷ xs) all = ap (λ t. cond t (x ∷ filter q xs) (filter q xs)) all.0 ∙ ap (λ zs. x ∷ zs) (filter_all q xs all.1)

pub filter_none : {X : Type 0} (q : X → Bool) (xs : List X) → AllByRecursion (λ x. q x ≡ false) xs → filter q xs ≡ []
filter_none q [] all = refl
filter_none q (x ∷ xs) all = ap (λ t. cond t (x ∷ filter q xs) (filter q xs)) all.0 ∙ filter_none q xs all.1

-- filtered and put in order, in either turn
pub sorted_filter : {X : Type 0} (b : X → X → Bool) → IsStrictWeakOrder b → (q : X → Bool) → ((x y : X) → q x ≡ true → q y ≡ false → b x y ≡ true) → (xs : List X)
    → sorted_by b (filter q xs) ≡ filter q (sorted_by b xs)
sorted_filter {X = X} b o q apart xs =
    let some = sorted_by b (filter q xs) in
    let others = sorted_by b (filter (λ x. not (q x)) xs) in
    let all = filter_all q some (sorted_all (λ (x : X). q x ≡ true) b (filter q xs) (all_filtered (λ (x : X). q x ≡ true) q xs (λ x h. h))) in
    let none = filter_none q others (sorted_all (λ (x : X). q x ≡ false) b (filter (λ x. not (q x)) xs) (all_filtered (λ (x : X). q x ≡ false) (λ x. not (q x)) xs (λ x h. not_true (q x) h))) in
    sym (ap (filter q) (sorted_divided b o q apart xs) ∙ (filter-append q some others ∙ (ap (λ zs. zs ++ filter q others) all ∙ (ap (λ zs. some ++ zs) none ∙ append-nil some))))
