use Rattle.std.proofs.Common.{refl, arith, get_or}
use Rattle.doc_sets.specs.BitWords.{members}
use Rattle.doc_sets.proofs.CountedBits.{counted_few, counted_more, word_few}
use Rattle.doc_sets.proofs.bit_words.count_words.Goals as goal

pub loop-at-init : goal.loop-at-init
unfolding members
loop-at-init c = refl

pub overflow_add-count : goal.overflow_add-count
overflow_add-count c =
    let few = counted_few c.args.words.now c.loop-at.at c.loop-at.count c.loop-at.invariant in
    let more = word_few (get_or c.args.words.now c.loop-at.at 0) 0 c.count_word-count.result (c.count_word-count.ensures 0) in
    omega (arith, few, more)

pub loop-at-preserved : goal.loop-at-preserved
loop-at-preserved c = counted_more c.args.words.now c.loop-at.at c.loop-at.count c.count_word-count.result c.loop-at.invariant (c.count_word-count.ensures _)
