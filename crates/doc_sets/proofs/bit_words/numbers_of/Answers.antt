use Rattle.std.proofs.Common.{◌∙◌}
use Rattle.doc_sets.specs.BitWords.{members}
use Rattle.doc_sets.proofs.LowestBit.{words_more}
use Rattle.doc_sets.proofs.bit_words.numbers_of.Goals as goal

pub loop-at-init : goal.loop-at-init
unfolding members
loop-at-init c = c.in_ok-numbers.ensures.items

pub loop-at-preserved : goal.loop-at-preserved
loop-at-preserved c = c.in_ok-push_word.ensures ∙ words_more c.args.words.now c.loop-at.at c.loop-at.numbers.items c.loop-at.invariant
