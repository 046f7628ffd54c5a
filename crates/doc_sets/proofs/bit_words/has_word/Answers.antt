use Rattle.std.proofs.Common.{nat_eq, ap}
use Rattle.std.proofs.lemmas.Nat.Bits.{shr_and_one}
use Rattle.doc_sets.specs.BitWords.{bit_of}
use Rattle.doc_sets.proofs.bit_words.has_word.Goals as goal

pub returns : goal.returns
unfolding bit_of
returns c = ap (λ b. nat_eq b 1) (shr_and_one _ _)
