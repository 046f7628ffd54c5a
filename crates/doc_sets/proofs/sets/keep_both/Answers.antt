use Rattle.doc_sets.proofs.SetLemmas.{set_and}
use Rattle.doc_sets.proofs.sets.keep_both.Goals as goal

pub returns-clause-only : goal.returns-clause-only
returns-clause-only c = λ p q documents. set_and c.args.bits.now c.args.other.now c.keep.new.self p q documents c.keep.ensures.size c.keep.ensures.has
