use Rattle.std.proofs.Common.{arith}
use Rattle.doc_sets.proofs.WordBits.{cut_below, cut_behind, bit_past}
use Rattle.doc_sets.proofs.bit_words.cut_words.Goals as goal

pub returns-then-within-gt0-clause-below : goal.returns-then-within-gt0-clause-below
returns-then-within-gt0-clause-below c = λ k lt. cut_below c.args.words.now c.args.size k c.if-within-gt0.true c.requires lt

pub returns-then-within-gt0-clause-behind : goal.returns-then-within-gt0-clause-behind
returns-then-within-gt0-clause-behind c = λ k le. cut_behind c.args.words.now c.args.size k c.if-within-gt0.true c.requires le

pub returns-else-within-gt0-clause-behind : goal.returns-else-within-gt0-clause-behind
returns-else-within-gt0-clause-behind c = λ k le. bit_past c.args.words.now k (omega arith)
