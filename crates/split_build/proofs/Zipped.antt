-- Two lists side by side, of which the second is changed from the front on.
use Rattle.std.proofs.Common.{◌≡◌, ℕ, zero, suc, ◌<◌, ◌≤◌, List, [], ◌∷◌, ◌++◌, length, get_or, set, arith}
use Rattle.std.specs.List.{AllZip}

module _ {A B : Type 0} where
  pub zip_push : (R : A → B → Type 0) (ls : List A) (ms : List B) (a : A) (b : B) → AllZip R ls ms → R a b → AllZip R (ls ++ a ∷ []) (ms ++ b ∷ [])
  zip_push R [] [] a b h r = (r, tt)
  zip_push R [] (y ∷ ys) a b h r = absurd h
  zip_push R (x ∷ xs) [] a b h r = absurd h
  zip_push R (x ∷ xs) (y ∷ ys) a b h r = (h.0, zip_push R xs ys a b h.1 r)

  pub zip_length : (R : A → B → Type 0) (ls : List A) (ms : List B) → AllZip R ls ms → length ls ≡ length ms
  zip_length R [] [] h = omega arith
  zip_length R [] (y ∷ ys) h = absurd h
  zip_length R (x ∷ xs) [] h = absurd h
  zip_length R (x ∷ xs) (y ∷ ys) h = omega (arith, zip_length R xs ys h.1)

  -- the first so many are changed, and the others are ls they were
  abbrev pub Partly : (P Q : A → B → Type 0) → ℕ → List A → List B → Type 0
  Partly P Q zero ls ms = AllZip Q ls ms
  Partly P Q (suc i) [] [] = Unit {0}
  Partly P Q (suc i) [] (b ∷ ms) = ⊥
  Partly P Q (suc i) (a ∷ ls) [] = ⊥
  Partly P Q (suc i) (a ∷ ls) (b ∷ ms) = P a b × Partly P Q i ls ms

  pub partly_set : (P Q : A → B → Type 0) (i : ℕ) (ls : List A) (ms : List B) (b d : B) → i < length ms → ((a : A) → Q a (get_or ms i d) → P a b) → Partly P Q i ls ms → Partly P Q (suc i) ls (set ms i b)
  partly_set P Q i ls [] b d lt change h = absurd (omega (arith, lt))
  partly_set P Q zero [] (y ∷ ys) b d lt change h = absurd h
  partly_set P Q zero (x ∷ xs) (y ∷ ys) b d lt change h = (change x h.0, h.1)
  partly_set P Q (suc i) [] (y ∷ ys) b d lt change h = absurd h
  partly_set P Q (suc i) (x ∷ xs) (y ∷ ys) b d lt change h = (h.0, partly_set P Q i xs ys b d (omega (arith, lt)) change h.1)

  pub partly_all : (P Q : A → B → Type 0) (i : ℕ) (ls : List A) (ms : List B) → length ms ≤ i → Partly P Q i ls ms → AllZip P ls ms
  partly_all P Q zero [] [] le h = tt
  partly_all P Q zero [] (y ∷ ys) le h = absurd h
  partly_all P Q zero (x ∷ xs) [] le h = absurd h
  partly_all P Q zero (x ∷ xs) (y ∷ ys) le h = absurd (omega (arith, le))
  partly_all P Q (suc i) [] [] le h = tt
  partly_all P Q (suc i) [] (y ∷ ys) le h = absurd h
  partly_all P Q (suc i) (x ∷ xs) [] le h = absurd h
  partly_all P Q (suc i) (x ∷ xs) (y ∷ ys) le h = (h.0, partly_all P Q i xs ys (omega (arith, le)) h.1)
