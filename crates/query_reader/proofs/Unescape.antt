-- Bytes that are taken one after another without the backslashes that hide a byte.
use Rattle.std.proofs.Common.{◌≡◌, ℕ, ◌+◌, ◌<◌, Bool, true, false, List, [], ◌∷◌, ◌++◌, length, get_or, drop, refl, ap, sym, ◌∙◌, append_assoc, add-one, ne_eqb}
use Rattle.std.proofs.Math.Seq.{drop-cons}
use Rattle.query_reader.specs.Texts.{unescaped_from}

first_of : (bytes : List ℕ) (i : ℕ) (h : Bool) → i < length bytes → unescaped_from h (drop i bytes) ≡ unescaped_from h (get_or bytes i 0 ∷ drop (i + 1) bytes)
first_of bytes i h l = ap (unescaped_from h) (drop-cons bytes i 0 l ∙ ap (λ k. get_or bytes i 0 ∷ drop k bytes) (sym (add-one i)))

mark : (b : ℕ) (cs : List ℕ) → b ≡ 92 → unescaped_from false (b ∷ cs) ≡ unescaped_from true cs
mark b cs e = rw e refl

other : (h : Bool) (b : ℕ) (cs : List ℕ) → (b ≡ 92 → ⊥) → unescaped_from h (b ∷ cs) ≡ b ∷ unescaped_from false cs
other true b cs n = refl
other false b cs n = rw (ne_eqb b 92 n) refl

-- a backslash that is not hidden is left out
pub marked : (out new bytes whole : List ℕ) (i : ℕ) (h next : Bool) → i < length bytes → h ≡ false → get_or bytes i 0 ≡ 92 → new ≡ out → next ≡ true
    → out ++ unescaped_from h (drop i bytes) ≡ whole → new ++ unescaped_from next (drop (i + 1) bytes) ≡ whole
marked out new bytes whole i h next l p e n f inv =
    rw (n, f) (ap (λ t. out ++ t) (sym (first_of bytes i false l ∙ mark (get_or bytes i 0) (drop (i + 1) bytes) e)) ∙ ap (λ t. out ++ unescaped_from t (drop i bytes)) (sym p) ∙ inv)

taken : (out new bytes whole : List ℕ) (i : ℕ) (h next : Bool) → i < length bytes → unescaped_from h (get_or bytes i 0 ∷ drop (i + 1) bytes) ≡ get_or bytes i 0 ∷ unescaped_from false (drop (i + 1) bytes)
    → new ≡ out ++ (get_or bytes i 0 ∷ []) → next ≡ false → out ++ unescaped_from h (drop i bytes) ≡ whole → new ++ unescaped_from next (drop (i + 1) bytes) ≡ whole
taken out new bytes whole i h next l s n f inv =
    rw (n, f) (append_assoc out (get_or bytes i 0 ∷ []) (unescaped_from false (drop (i + 1) bytes)) ∙ ap (λ t. out ++ t) (sym (first_of bytes i h l ∙ s)) ∙ inv)

-- a byte that a backslash hides, and a byte that is no backslash
pub taken_hidden : (out new bytes whole : List ℕ) (i : ℕ) (h next : Bool) → i < length bytes → h ≡ true → new ≡ out ++ (get_or bytes i 0 ∷ []) → next ≡ false
    → out ++ unescaped_from h (drop i bytes) ≡ whole → new ++ unescaped_from next (drop (i + 1) bytes) ≡ whole
taken_hidden out new bytes whole i h next l p n f inv = taken out new bytes whole i h next l (ap (λ t. unescaped_from t (get_or bytes i 0 ∷ drop (i + 1) bytes)) p) n f inv

pub taken_other : (out new bytes whole : List ℕ) (i : ℕ) (h next : Bool) → i < length bytes → (get_or bytes i 0 ≡ 92 → ⊥) → new ≡ out ++ (get_or bytes i 0 ∷ []) → next ≡ false
    → out ++ unescaped_from h (drop i bytes) ≡ whole → new ++ unescaped_from next (drop (i + 1) bytes) ≡ whole
taken_other out new bytes whole i h next l p n f inv = taken out new bytes whole i h next l (other h (get_or bytes i 0) (drop (i + 1) bytes) p) n f inv
