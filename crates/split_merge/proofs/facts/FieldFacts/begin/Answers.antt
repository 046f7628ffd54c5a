use Rattle.split_merge.proofs.GainLemmas.{none_added}
use Rattle.split_merge.proofs.facts.FieldFacts.begin.Goals as goal

pub returns : goal.returns
returns c = λ s ds d none h. none_added c.args.self.now _ s ds d c.in_ok-self.ensures none h
