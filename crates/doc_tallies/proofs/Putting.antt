-- Items put in order, from the left and from the right.
use Rattle.std.proofs.Common.{◌≡◌, ℕ, zero, suc, Bool, true, false, List, [], ◌∷◌, ◌++◌, take, if◌then◌else◌, refl, ap, sym, ◌∙◌, append_assoc}
use Rattle.std.specs.Cmp.{IsStrictWeakOrder}
use Rattle.doc_tallies.specs.Firsts.{put_by, sorted_by, firsts_by, put_last_by}

-- ---- the order

-- an item before one that is before another is before that one
pub through : {X : Type 0} (b : X → X → Bool) → IsStrictWeakOrder b → (x y z : X) → b x y ≡ true → b y z ≡ true → b x z ≡ true
through b o x y z h k = go (b x z) refl
  where
    go : (t : Bool) → b x z ≡ t → b x z ≡ true
    go true e = e
    go false e =
        let back : b z y ≡ false = o.one_way y z k in
        let none : b x y ≡ false = o.chain x z y e back in
        absurd (cc)

-- an item before one that does not stand behind another is before that one
pub up_to : {X : Type 0} (b : X → X → Bool) → IsStrictWeakOrder b → (x y z : X) → b x y ≡ true → b z y ≡ false → b x z ≡ true
up_to b o x y z h k = go (b x z) refl
  where
    go : (t : Bool) → b x z ≡ t → b x z ≡ true
    go true e = e
    go false e =
        let none : b x y ≡ false = o.chain x z y e k in
        absurd (cc)

-- ---- the first so many

take_none : {X : Type 0} (n : ℕ) → take {A = X} n [] ≡ []
take_none zero = refl
take_none (suc n) = refl

pub take_twice : {X : Type 0} (n : ℕ) (zs : List X) → take n (take n zs) ≡ take n zs
take_twice zero zs = refl
take_twice (suc n) [] = refl
take_twice (suc n) (z ∷ zs) = ap (λ ws. z ∷ ws) (take_twice n zs)

take_less : {X : Type 0} (n : ℕ) (ys : List X) → take n (take (suc n) ys) ≡ take n ys
take_less zero ys = refl
take_less (suc n) [] = refl
take_less (suc n) (y ∷ ys) = ap (λ zs. y ∷ zs) (take_less n ys)

take_front : {X : Type 0} (n : ℕ) (y : X) (ys : List X) → take n (y ∷ take n ys) ≡ take n (y ∷ ys)
take_front zero y ys = refl
take_front (suc n) y ys = ap (λ zs. y ∷ zs) (take_less n ys)

-- what comes behind the first n makes no difference to the first n
put_take : {X : Type 0} (b : X → X → Bool) (n : ℕ) (x : X) (ys : List X) → take n (put_by b x (take n ys)) ≡ take n (put_by b x ys)
put_take b zero x ys = refl
put_take b (suc n) x [] = refl
put_take b (suc n) x (y ∷ ys) = go (b y x) (put_take b n x ys) (take_front n y ys)
  where
    go : (t : Bool) → take n (put_by b x (take n ys)) ≡ take n (put_by b x ys) → take n (y ∷ take n ys) ≡ take n (y ∷ ys)
        → take (suc n) (if t then y ∷ put_by b x (take n ys) else x ∷ y ∷ take n ys) ≡ take (suc n) (if t then y ∷ put_by b x ys else x ∷ y ∷ ys)
    go false h t = ap (λ zs. x ∷ zs) t
    go true h t = ap (λ zs. y ∷ zs) h

pub put_last_take : {X : Type 0} (b : X → X → Bool) (n : ℕ) (x : X) (ys : List X) → take n (put_last_by b x (take n ys)) ≡ take n (put_last_by b x ys)
put_last_take b zero x ys = refl
put_last_take b (suc n) x [] = refl
put_last_take b (suc n) x (y ∷ ys) = go (b x y) (put_last_take b n x ys) (take_front n y ys)
  where
    go : (t : Bool) → take n (put_last_by b x (take n ys)) ≡ take n (put_last_by b x ys) → take n (y ∷ take n ys) ≡ take n (y ∷ ys)
        → take (suc n) (if t then x ∷ y ∷ take n ys else y ∷ put_last_by b x (take n ys)) ≡ take (suc n) (if t then x ∷ y ∷ ys else y ∷ put_last_by b x ys)
    go true h t = ap (λ zs. x ∷ zs) t
    go false h t = ap (λ zs. y ∷ zs) h

-- ---- both ways to put

swapped : {X : Type 0} (b : X → X → Bool) → IsStrictWeakOrder b → (x y : X) (zs : List X) → put_by b x (put_last_by b y zs) ≡ put_last_by b y (put_by b x zs)
swapped b o x y [] = refl
swapped b o x y (z ∷ zs) = go (b z x) refl (b y z) refl (b y x) refl (swapped b o x y zs)
  where
    go : (p : Bool) → b z x ≡ p → (q : Bool) → b y z ≡ q → (r : Bool) → b y x ≡ r → put_by b x (put_last_by b y zs) ≡ put_last_by b y (put_by b x zs)
        → put_by b x (put_last_by b y (z ∷ zs)) ≡ put_last_by b y (put_by b x (z ∷ zs))
    go true e true f r g ih = let w = through b o y z x f e in simp (e, f, w)
    go true e false f r g ih = simp (e, f) (ap (λ ws. z ∷ ws) ih)
    go false e true f true g ih = simp (e, f, g)
    go false e true f false g ih = simp (e, f, g)
    go false e false f false g ih = simp (e, f, g)
    go false e false f true g ih = let w = up_to b o y x z g e in absurd (cc)

-- one more item at the end of a list
pub sorted_more : {X : Type 0} (b : X → X → Bool) → IsStrictWeakOrder b → (xs : List X) (y : X) → sorted_by b (xs ++ y ∷ []) ≡ put_last_by b y (sorted_by b xs)
sorted_more b o [] y = refl
sorted_more b o (x ∷ xs) y = ap (put_by b x) (sorted_more b o xs y) ∙ swapped b o x y (sorted_by b xs)

-- and among the first so many
pub firsts_more : {X : Type 0} (b : X → X → Bool) → IsStrictWeakOrder b → (n : ℕ) (xs : List X) (y : X) → firsts_by n b (xs ++ y ∷ []) ≡ take n (put_last_by b y (firsts_by n b xs))
firsts_more b o n xs y = ap (take n) (sorted_more b o xs y) ∙ sym (put_last_take b n y (sorted_by b xs))

puts : {X : Type 0} → (X → X → Bool) → List X → List X → List X
puts b [] zs = zs
puts b (x ∷ xs) zs = put_by b x (puts b xs zs)

puts_last : {X : Type 0} → (X → X → Bool) → List X → List X → List X
puts_last b [] zs = zs
puts_last b (x ∷ xs) zs = puts_last b xs (put_last_by b x zs)

sorted_append : {X : Type 0} (b : X → X → Bool) (xs ys : List X) → sorted_by b (xs ++ ys) ≡ puts b xs (sorted_by b ys)
unfolding puts
sorted_append b [] ys = refl
sorted_append b (x ∷ xs) ys = ap (put_by b x) (sorted_append b xs ys)

sorted_append_last : {X : Type 0} (b : X → X → Bool) → IsStrictWeakOrder b → (ys xs : List X) → sorted_by b (xs ++ ys) ≡ puts_last b ys (sorted_by b xs)
unfolding puts_last
sorted_append_last b o [] xs = ap (sorted_by b) (append_none xs)
  where
    append_none : {X : Type 0} (xs : List X) → xs ++ [] ≡ xs
    append_none [] = refl
    append_none (x ∷ xs) = ap (λ zs. x ∷ zs) (append_none xs)
sorted_append_last b o (y ∷ ys) xs =
    ap (sorted_by b) (sym (append_assoc xs (y ∷ []) ys))
    ∙ (sorted_append_last b o ys (xs ++ y ∷ []) ∙ ap (puts_last b ys) (sorted_more b o xs y))

puts_take : {X : Type 0} (b : X → X → Bool) (n : ℕ) (xs zs : List X) → take n (puts b xs (take n zs)) ≡ take n (puts b xs zs)
unfolding puts
puts_take b n [] zs = take_twice n zs
puts_take b n (x ∷ xs) zs = sym (put_take b n x (puts b xs (take n zs))) ∙ (ap (λ ws. take n (put_by b x ws)) (puts_take b n xs zs) ∙ put_take b n x (puts b xs zs))

puts_last_take : {X : Type 0} (b : X → X → Bool) (n : ℕ) (xs zs : List X) → take n (puts_last b xs (take n zs)) ≡ take n (puts_last b xs zs)
unfolding puts_last
puts_last_take b n [] zs = take_twice n zs
puts_last_take b n (x ∷ xs) zs =
    sym (puts_last_take b n xs (put_last_by b x (take n zs)))
    ∙ (ap (λ ws. take n (puts_last b xs ws)) (put_last_take b n x zs) ∙ puts_last_take b n xs (put_last_by b x zs))

-- ---- a list that is in order

-- no item stands behind the next
abbrev pub InOrder : {X : Type 0} → (X → X → Bool) → List X → Type 0
InOrder b [] = Unit {0}
InOrder b (x ∷ []) = Unit {0}
InOrder b (x ∷ y ∷ ys) = (b y x ≡ false) × InOrder b (y ∷ ys)

pub sorted_self : {X : Type 0} (b : X → X → Bool) (xs : List X) → InOrder b xs → sorted_by b xs ≡ xs
sorted_self b [] h = refl
sorted_self b (x ∷ []) h = refl
sorted_self b (x ∷ y ∷ ys) h = ap (put_by b x) (sorted_self b (y ∷ ys) h.1) ∙ rw (h.0)

put_in_order : {X : Type 0} (b : X → X → Bool) → IsStrictWeakOrder b → (x : X) (ys : List X) → InOrder b ys → InOrder b (put_by b x ys)
put_in_order b o x [] h = tt
put_in_order b o x (y ∷ []) h = go (b y x) refl
  where
    go : (t : Bool) → b y x ≡ t → InOrder b (if t then y ∷ x ∷ [] else x ∷ y ∷ [])
    go true e = (o.one_way y x e, tt)
    go false e = (e, tt)
put_in_order b o x (y ∷ z ∷ zs) h = go (b y x) refl (b z x) refl (put_in_order b o x (z ∷ zs) h.1)
  where
    go : (t : Bool) → b y x ≡ t → (u : Bool) → b z x ≡ u → InOrder b (if b z x then z ∷ put_by b x zs else x ∷ z ∷ zs) → InOrder b (if t then y ∷ (if b z x then z ∷ put_by b x zs else x ∷ z ∷ zs) else x ∷ y ∷ z ∷ zs)
    go false e u f rest = (e, h)
    go true e true f rest = rw (f) (h.0, rw f at rest)
    go true e false f rest = rw (f) (o.one_way y x e, rw f at rest)

pub sorted_in_order : {X : Type 0} (b : X → X → Bool) → IsStrictWeakOrder b → (xs : List X) → InOrder b (sorted_by b xs)
sorted_in_order b o [] = tt
sorted_in_order b o (x ∷ xs) = put_in_order b o x (sorted_by b xs) (sorted_in_order b o xs)

pub take_in_order : {X : Type 0} (b : X → X → Bool) (n : ℕ) (xs : List X) → InOrder b xs → InOrder b (take n xs)
take_in_order b zero xs h = tt
take_in_order b (suc n) [] h = tt
take_in_order b (suc zero) (x ∷ xs) h = tt
take_in_order b (suc (suc n)) (x ∷ []) h = tt
take_in_order b (suc (suc n)) (x ∷ y ∷ ys) h = (h.0, take_in_order b (suc n) (y ∷ ys) h.1)

pub firsts_in_order : {X : Type 0} (b : X → X → Bool) → IsStrictWeakOrder b → (n : ℕ) (xs : List X) → InOrder b (firsts_by n b xs)
firsts_in_order b o n xs = take_in_order b n (sorted_by b xs) (sorted_in_order b o xs)

-- ---- merging

pub merged : {X : Type 0} (b : X → X → Bool) → IsStrictWeakOrder b → (n : ℕ) (xs ys : List X)
    → firsts_by n b (firsts_by n b xs ++ firsts_by n b ys) ≡ firsts_by n b (xs ++ ys)
merged b o n xs ys =
    ap (take n) (sorted_append_last b o (firsts_by n b ys) (firsts_by n b xs) ∙ ap (puts_last b (firsts_by n b ys)) (sorted_self b (firsts_by n b xs) (firsts_in_order b o n xs)))
    ∙ (puts_last_take b n (firsts_by n b ys) (sorted_by b xs)
    ∙ (ap (take n) (sym (sorted_append_last b o (firsts_by n b ys) xs) ∙ (sorted_append b xs (firsts_by n b ys) ∙ ap (puts b xs) (sorted_self b (firsts_by n b ys) (firsts_in_order b o n ys))))
    ∙ (puts_take b n xs (sorted_by b ys) ∙ ap (take n) (sym (sorted_append b xs ys)))))
