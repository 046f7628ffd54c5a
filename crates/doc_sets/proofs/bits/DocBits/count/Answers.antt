use Rattle.std.proofs.Common.{ℕ, List, length, ap, arith}
use Rattle.doc_sets.specs.Bits.{has}
use Rattle.doc_sets.proofs.CountedBits.{count_given}
use Rattle.doc_sets.proofs.Members.{members_few}
use Rattle.doc_sets.proofs.bits.DocBits.count.Goals as goal

pub count_words-requires : goal.count_words-requires
count_words-requires c = omega (arith, ap (λ (l : List ℕ). length l) c.deref.ensures.value, c.args.self.now.words_len)

pub overflow_cast-result : goal.overflow_cast-result
overflow_cast-result c =
    let given = count_given c.args.self.now.words.items c.deref.result.now c.args.self.now.size c.count_words.result c.deref.ensures.value (omega (arith, c.args.self.now.words_len, c.args.self.now.words.ok)) c.args.self.now.behind c.count_words.ensures in
    let few = members_few (has c.args.self.now) 0 c.args.self.now.size in
    omega (arith, given, few)

pub returns : goal.returns
returns c = count_given c.args.self.now.words.items c.deref.result.now c.args.self.now.size c.count_words.result c.deref.ensures.value (omega (arith, c.args.self.now.words_len, c.args.self.now.words.ok)) c.args.self.now.behind c.count_words.ensures
