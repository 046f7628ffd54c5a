-- The fields of a name that is made, and the text that a name is.
use Rattle.std.proofs.Common.{◌≡◌, ℕ, ◌≤◌, ◌<◌, ◌-◌, true, List, ◌++◌, length, take, drop, ap, sym, subst, ◌∙◌, arith}
use Rattle.std.proofs.lemmas.Bool.Decides.{nat_tests}
use Rattle.std.proofs.lemmas.List.{length-append, length-drop, drop_at, take_at, drop-replicate}
use Rattle.std.proofs.lemmas.List.Elements.{All-weaker}
use Rattle.std.proofs.lemmas.Str.{IsUtf8-from_ascii}
use Rattle.std.proofs.lemmas.Str.Ascii.{IsAscii-from_all}
use Rattle.std.specs.Prelude.{replicate, IsTrue, IsUtf8}
use Rattle.source_checkpoint.specs.Names.{IsPartition, is_name_byte}

abbrev zeros : List ℕ
zeros = replicate 64 0

pub fields_of : (text front : List ℕ) → front ≡ text → length text ≤ 64
    → (length text ≤ 64) × (length (front ++ drop (length text) zeros) ≡ 64) × (drop (length text) (front ++ drop (length text) zeros) ≡ replicate (64 - length text) 0)
fields_of text front e short = (
  short,
  omega (arith, ap length e, length-append front (drop (length text) zeros), length-drop (length text) zeros),
  drop_at front (drop (length text) zeros) (length text) (ap length e) ∙ drop-replicate (length text) 64 0,
)

pub name_of : (text front : List ℕ) → front ≡ text → IsPartition text → IsPartition (take (length text) (front ++ drop (length text) zeros))
name_of text front e named = subst IsPartition (sym (take_at front (drop (length text) zeros) (length text) (ap length e) ∙ e)) named

is_low_byte : (b : ℕ) → is_name_byte b ≡ true → b < 128
is_low_byte b h = grind (arith, nat_tests)

pub name_is_utf8 : (name : List ℕ) → IsPartition name → IsUtf8 name
name_is_utf8 name named = IsUtf8-from_ascii name (IsAscii-from_all name (All-weaker (λ b. IsTrue (is_name_byte b)) (λ b. b < 128) is_low_byte name named.each))
