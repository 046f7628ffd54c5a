use Rattle.std.proofs.Common.{ℕ, List, length, ap, arith}
use Rattle.doc_sets.proofs.bits.DocBits.next_from.Goals as goal

pub next_word-requires : goal.next_word-requires
next_word-requires c = omega (arith, ap (λ (l : List ℕ). length l) c.deref.ensures.value, c.args.self.now.words_len)
