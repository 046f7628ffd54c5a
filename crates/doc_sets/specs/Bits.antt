-- A set of numbers below a size.
use Rattle.std.specs.Prelude.{ℕ, Bool, nat_eq}
use Rattle.doc_sets.specs.BitWords.{bit_of}
use Rattle.doc_sets.specs.declared.bits.DocBits.{DocBits}

-- whether a set has a number
abbrev pub has : DocBits → ℕ → Bool
has b k = nat_eq (bit_of b.words.items k) 1
