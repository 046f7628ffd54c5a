use Rattle.std.proofs.Common.{ℕ, List, length, ap, arith}
use Rattle.doc_sets.proofs.LowestBit.{numbers_given}
use Rattle.doc_sets.proofs.bits.DocBits.numbers.Goals as goal

pub numbers_of-requires : goal.numbers_of-requires
numbers_of-requires c = omega (arith, ap (λ (l : List ℕ). length l) c.deref.ensures.value, c.args.self.now.words_len)

pub returns : goal.returns
returns c = numbers_given c.numbers_of.result c.args.self.now.words.items c.deref.result.now c.args.self.now.size c.deref.ensures.value (omega (arith, c.args.self.now.words_len, c.args.self.now.words.ok)) c.args.self.now.behind c.numbers_of.ensures
