-- Some key of a document passes a test exactly where it has one of the dictionary's keys that pass it.
use Rattle.std.proofs.Common.{◌≡◌, ℕ, ◌⊎◌, inl, inr, Bool, true, false, ◌&&◌, ◌||◌, List, [], ◌∷◌, nat_eq, if◌then◌else◌, refl, ap, ◌∙◌, eq-eqb}
use Rattle.std.specs.List.{starts_with}
use Rattle.std.specs.Str.{bytes_eq}
use Rattle.std.proofs.lemmas.Bool.{eqb-true, or_cases}
use Rattle.split_bundle.specs.Keys.{Occurrence}
use Rattle.split_bundle.specs.Lists.{has_key}
use Rattle.doc_sets.specs.Asked.{begins, beginning, such, chosen, has_some, is_listed}
use Rattle.doc_sets.proofs.PhraseKeys.{alike}

or_right : (a b : Bool) → b ≡ true → a || b ≡ true
or_right true b h = refl
or_right false b h = h

or_left : (a b : Bool) → a ≡ true → a || b ≡ true
or_left true b h = refl
or_left false b h = absurd (cc)

and_left : (a b : Bool) → a && b ≡ true → a ≡ true
and_left true b h = refl
and_left false b h = h

and_right : (a b : Bool) → a && b ≡ true → b ≡ true
and_right true b h = h
and_right false b h = absurd (cc)

same_bytes : (a b : List ℕ) → bytes_eq a b ≡ true → a ≡ b
same_bytes [] [] h = refl
same_bytes [] (y ∷ ys) h = absurd (cc)
same_bytes (x ∷ xs) [] h = absurd (cc)
same_bytes (x ∷ xs) (y ∷ ys) h = let e = eqb-true x y (and_left (nat_eq x y) (bytes_eq xs ys) h) in let d = same_bytes xs ys (and_right (nat_eq x y) (bytes_eq xs ys) h) in cc

bytes_same : (a : List ℕ) → bytes_eq a a ≡ true
bytes_same [] = refl
bytes_same (x ∷ xs) = ap (λ b. b && bytes_eq xs xs) (eq-eqb x x refl) ∙ bytes_same xs

-- a key that is listed, begins so and is had is one of those
listed_some : (test : List ℕ → Bool) (key : List ℕ) (ks : List (List ℕ)) (os : List Occurrence) → is_listed key ks ≡ true → test key ≡ true → has_key key os ≡ true → has_some (chosen test ks) os ≡ true
listed_some test key [] os h s k = h
listed_some test key (x ∷ ks) os h s k = go (or_cases (bytes_eq x key) (is_listed key ks) h) (λ e. listed_some test key ks os e s k)
  where
    skip : (b : Bool) → has_some (chosen test ks) os ≡ true → has_some (if b then x ∷ chosen test ks else chosen test ks) os ≡ true
    skip true r = or_right (has_key x os) (has_some (chosen test ks) os) r
    skip false r = r

    go : ((bytes_eq x key ≡ true) ⊎ (is_listed key ks ≡ true)) → (is_listed key ks ≡ true → has_some (chosen test ks) os ≡ true) → has_some (if test x then x ∷ chosen test ks else chosen test ks) os ≡ true
    go (inl e) r =
        let same = same_bytes x key e in
        let begin : test x ≡ true = ap (λ y. test y) same ∙ s in
        ap (λ b. has_some (if b then x ∷ chosen test ks else chosen test ks) os) begin ∙ or_left (has_key x os) (has_some (chosen test ks) os) (ap (λ y. has_key y os) same ∙ k)
    go (inr e) r = skip (test x) (r e)

begun : (test : List ℕ → Bool) (ks : List (List ℕ)) (os all : List Occurrence) → ((key : List ℕ) → has_key key os ≡ true → has_key key all ≡ true) → ((key : List ℕ) → has_key key all ≡ true → is_listed key ks ≡ true) → such test os ≡ true → has_some (chosen test ks) all ≡ true
begun test ks [] all sub listed h = absurd (cc)
begun test ks (o ∷ os) all sub listed h = go (or_cases (test o.key) (such test os) h) (λ e. begun test ks os all (λ key k. sub key (or_right (bytes_eq o.key key) (has_key key os) k)) listed e)
  where
    go : ((test o.key ≡ true) ⊎ (such test os ≡ true)) → (such test os ≡ true → has_some (chosen test ks) all ≡ true) → has_some (chosen test ks) all ≡ true
    go (inl e) r = let k = sub o.key (or_left (bytes_eq o.key o.key) (has_key o.key os) (bytes_same o.key)) in listed_some test o.key ks all (listed o.key k) e k
    go (inr e) r = r e

key_such : (test : List ℕ → Bool) (key : List ℕ) (os : List Occurrence) → has_key key os ≡ true → test key ≡ true → such test os ≡ true
key_such test key [] h s = h
key_such test key (o ∷ os) h s = go (or_cases (bytes_eq o.key key) (has_key key os) h) (λ e. key_such test key os e s)
  where
    go : ((bytes_eq o.key key ≡ true) ⊎ (has_key key os ≡ true)) → (has_key key os ≡ true → such test os ≡ true) → test o.key || such test os ≡ true
    go (inl e) r = or_left (test o.key) (such test os) (ap (λ y. test y) (same_bytes o.key key e) ∙ s)
    go (inr e) r = or_right (test o.key) (such test os) (r e)

some_such : (test : List ℕ → Bool) (ks : List (List ℕ)) (os : List Occurrence) → has_some (chosen test ks) os ≡ true → such test os ≡ true
some_such test [] os h = absurd (cc)
some_such test (k ∷ ks) os h = go (test k) refl (some_such test ks os) h
  where
    go : (b : Bool) → test k ≡ b → (has_some (chosen test ks) os ≡ true → such test os ≡ true) → has_some (if b then k ∷ chosen test ks else chosen test ks) os ≡ true → such test os ≡ true
    go false s r h = r h
    go true s r h = elim (or_cases (has_key k os) (has_some (chosen test ks) os) h) [ inl e ↦ key_such test k os e s | inr e ↦ r e ]

-- where every key of the document is listed
pub such_is_some : (test : List ℕ → Bool) (ks : List (List ℕ)) (os : List Occurrence) → ((key : List ℕ) → has_key key os ≡ true → is_listed key ks ≡ true) → such test os ≡ has_some (chosen test ks) os
such_is_some test ks os listed = alike (such test os) (has_some (chosen test ks) os) (begun test ks os os (λ key k. k) listed) (some_such test ks os)

pub begins_is_some : (prefix : List ℕ) (ks : List (List ℕ)) (os : List Occurrence) → ((key : List ℕ) → has_key key os ≡ true → is_listed key ks ≡ true) → begins prefix os ≡ has_some (beginning prefix ks) os
begins_is_some prefix ks os listed = such_is_some (λ key. starts_with nat_eq key prefix) ks os listed
