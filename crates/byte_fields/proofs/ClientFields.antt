-- The fields of a client that is made.
use Rattle.std.proofs.Common.{◌≡◌, ℕ, ◌≤◌, ◌-◌, List, ◌++◌, length, drop, ap, ◌∙◌, arith}
use Rattle.std.proofs.lemmas.List.{length-append, length-drop, drop_at, drop-replicate}
use Rattle.std.specs.Prelude.{replicate}

abbrev zeros : List ℕ
zeros = replicate 32 0

pub fields_of : (text front : List ℕ) → front ≡ text → length text ≤ 32
    → (length text ≤ 32) × (length (front ++ drop (length text) zeros) ≡ 32) × (drop (length text) (front ++ drop (length text) zeros) ≡ replicate (32 - length text) 0)
fields_of text front e short = (
  short,
  omega (arith, ap length e, length-append front (drop (length text) zeros), length-drop (length text) zeros),
  drop_at front (drop (length text) zeros) (length text) (ap length e) ∙ drop-replicate (length text) 32 0,
)
