use Rattle.std.proofs.Common.{◌≡◌, ℕ, ◌-◌, ◌/◌, ◌^◌, ◌<◌, length}
use Rattle.meta_journal.specs.Places.{digits}
use Rattle.meta_journal.proofs.keys.number_of.Given as goal

-- the digits so far are those of the number
abbrev pub invariant-loop-byte : goal.invariant-loop-byte
invariant-loop-byte l = (n : ℕ) → n < 2 ^ 64 → n < 10 ^ length l.text → l.text ≡ digits (length l.text) n → l.number ≡ n / 10 ^ (length l.text - l.byte-index)
