use Rattle.doc_sets.proofs.SetLemmas.{set_not}
use Rattle.doc_sets.proofs.sets.take_others.Goals as goal

pub returns-clause-only : goal.returns-clause-only
returns-clause-only c = λ p documents. set_not c.args.bits.now c.turn.new.self p documents c.turn.ensures.size c.turn.ensures.has
