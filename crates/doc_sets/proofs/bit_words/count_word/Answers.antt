use Rattle.std.proofs.Common.{◌∙◌, sym, arith}
use Rattle.doc_sets.proofs.CountedBits.{word_counted}
use Rattle.doc_sets.proofs.bit_words.count_word.Goals as goal

pub returns : goal.returns
returns c = λ first. c.from.ensures ∙ sym (word_counted c.args.word first (omega arith))
