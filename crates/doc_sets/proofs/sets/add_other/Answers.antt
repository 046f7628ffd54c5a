use Rattle.doc_sets.proofs.SetLemmas.{set_or}
use Rattle.doc_sets.proofs.sets.add_other.Goals as goal

pub returns-clause-only : goal.returns-clause-only
returns-clause-only c = λ p q documents. set_or c.args.bits.now c.args.other.now c.add.new.self p q documents c.add.ensures.size c.add.ensures.has
