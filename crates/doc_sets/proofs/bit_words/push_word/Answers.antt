use Rattle.std.proofs.Common.{◌++◌, ap, sym, ◌∙◌, append-nil}
use Rattle.doc_sets.proofs.LowestBit.{word_none}
use Rattle.doc_sets.proofs.bit_words.push_word.Goals as goal

pub returns-then-word-eq0 : goal.returns-then-word-eq0
returns-then-word-eq0 c = sym (ap (λ l. c.args.numbers.now.items ++ l) (word_none c.args.word c.args.first c.if-word-eq0.true) ∙ append-nil c.args.numbers.now.items)
