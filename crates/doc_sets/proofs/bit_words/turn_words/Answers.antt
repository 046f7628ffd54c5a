use Rattle.std.proofs.Common.{arith}
use Rattle.doc_sets.proofs.WordBits.{bit_turned}
use Rattle.doc_sets.proofs.bit_words.turn_words.Goals as goal

pub returns : goal.returns
returns c = λ k lt. bit_turned c.loop-word.words c.args.words.now k (c.loop-word.invariant.before _ (omega arith)) (c.loop-word.invariant.fits _ (omega arith))
