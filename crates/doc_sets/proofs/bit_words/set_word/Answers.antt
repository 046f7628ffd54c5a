use Rattle.std.proofs.Common.{arith}
use Rattle.doc_sets.proofs.WordBits.{bit_set, bit_kept}
use Rattle.doc_sets.proofs.bit_words.set_word.Goals as goal

pub returns-clause-set : goal.returns-clause-set
returns-clause-set c = bit_set c.args.words.now c.args.number (omega arith)

pub returns-clause-others : goal.returns-clause-others
returns-clause-others c = λ k ne. bit_kept c.args.words.now c.args.number k (omega arith) ne
