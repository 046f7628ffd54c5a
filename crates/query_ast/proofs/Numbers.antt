-- Numbers that are too large stay too large.
use Rattle.std.proofs.Common.{◌≡◌, ℕ, ◌+◌, ◌-◌, ◌*◌, ◌^◌, ◌<◌, ◌≤◌, Bool, true, false, List, [], ◌∷◌, None, refl, ap, ◌∙◌, arith, le-ltb, if◌then◌else◌, suc, sym, length, get_or, drop}
use Rattle.std.proofs.Math.Seq.{drop-cons}
use Rattle.std.specs.Prelude.{option_and_then}
use Rattle.std.specs.Char.{is_ascii_digit}
use Rattle.query_ast.specs.Spelled.{number_from, below}

pub too_large : (n : ℕ) (bs : List ℕ) → 2 ^ 64 ≤ n → option_and_then (below (2 ^ 64)) (number_from n bs) ≡ None
too_large n [] l = rw (le-ltb n (2 ^ 64) l) refl
too_large n (b ∷ bs) l = go (is_ascii_digit b) (λ m. too_large (n * 10 + (b - 48)) bs m)
  where
    go : (t : Bool) → ((2 ^ 64 ≤ n * 10 + (b - 48)) → option_and_then (below (2 ^ 64)) (number_from (n * 10 + (b - 48)) bs) ≡ None)
        → option_and_then (below (2 ^ 64)) (if t then number_from (n * 10 + (b - 48)) bs else None) ≡ None
    go true again = again (omega arith)
    go false again = refl

step_digit : (b n : ℕ) (bs : List ℕ) → is_ascii_digit b ≡ true → number_from n (b ∷ bs) ≡ number_from (n * 10 + (b - 48)) bs
step_digit b n bs d = ap (λ t. if t then number_from (n * 10 + (b - 48)) bs else None) d

-- digits that grow too large
pub grown : (text : List ℕ) (i n m : ℕ) → i < length text → is_ascii_digit (get_or text i 0) ≡ true → m ≡ n * 10 + (get_or text i 0 - 48) → 2 ^ 64 ≤ m
    → number_from n (drop i text) ≡ number_from 0 text → None ≡ option_and_then (below (2 ^ 64)) (number_from 0 text)
grown text i n m l d e g inv = sym (
    ap (option_and_then (below (2 ^ 64))) (sym inv ∙ ap (number_from n) (drop-cons text i 0 l) ∙ step_digit (get_or text i 0) n (drop (suc i) text) d)
    ∙ too_large (n * 10 + (get_or text i 0 - 48)) (drop (suc i) text) (omega (arith, e, g))
    )
