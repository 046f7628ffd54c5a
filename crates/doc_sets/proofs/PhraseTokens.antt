-- The tokens of a text stand behind the first of them.
use Rattle.std.proofs.Common.{◌≡◌, ℕ, zero, suc, ◌<◌, ◌≤◌, ◌⊎◌, inl, inr, Bool, true, false, List, [], ◌∷◌, refl, arith}
use Rattle.std.specs.List.{AllByRecursion}
use Rattle.text_tokens.specs.declared.tokens.Token.{Token}
use Rattle.doc_value.specs.declared.schema.Field.{Field}
use Rattle.query_ast.specs.FieldTokens.{field_tokens}
use Rattle.split_bundle.proofs.TokenPlaces.{TokensRise, tokens_rise}
use Rattle.doc_sets.specs.Asked.{AreBehindFirst}

rise_from : (n m : ℕ) (ts : List Token) → n ≤ m → TokensRise m ts → AllByRecursion (λ u. n ≤ u.position) ts
rise_from n m [] le h = tt
rise_from n m (t ∷ ts) le h = let x = h.0 in (omega (arith, x, le), rise_from n (suc t.position) ts (omega (arith, x, le)) h.1)

behind_of : (n : ℕ) (ts : List Token) → TokensRise n ts → AreBehindFirst ts
behind_of n [] h = tt
behind_of n (t ∷ ts) h = (omega arith, rise_from t.position (suc t.position) ts (omega arith) h.1)

pub tokens_behind : (f : Field) (text : List ℕ) → AreBehindFirst (field_tokens f text)
tokens_behind f text = behind_of 0 (field_tokens f text) (tokens_rise f text)

-- a list of several tokens that needs positions, or of one at most
pub can_phrase : (b : Bool) (n : ℕ) → (1 < n → b ≡ true) → (b ≡ true) ⊎ (n ≤ 1)
can_phrase true n h = inl refl
can_phrase false n h = inr (go n h)
  where
    go : (n : ℕ) → (1 < n → false ≡ true) → n ≤ 1
    go zero k = omega arith
    go (suc zero) k = omega arith
    go (suc (suc m)) k = absurd (let x : false ≡ true = k (omega arith) in cc)
