use Rattle.std.proofs.Common.{refl, sym, subst, Err}
use Rattle.root_search.specs.Searching.{FaultEnds}
use Rattle.root_search.specs.declared.fetching.FetchError.{FetchError}
use Rattle.root_search.specs.StepReads.{IsFetchRefusal, Refuses}
use Rattle.root_search.proofs.Leaving.{works_replied, works_short}
use Rattle.root_search.proofs.searcher.Searcher.refuse_fetch.Goals as goal

pub returns-in-World-clause-step : goal.returns-in-World-clause-step
returns-in-World-clause-step c = λ client core log w.
    subst (λ (e : FetchError). FaultEnds e c.refuse.result c.refuse.new.self c.args.revision client core log) (sym c.in-World.is) (λ trouble is. c.refuse.ensures.step trouble client core log is w)

pub returns-in-World-clause-refuses : goal.returns-in-World-clause-refuses
returns-in-World-clause-refuses c = subst (λ (e : FetchError). Refuses c.args.revision (IsFetchRefusal c.args.number e) c.refuse.result) (sym c.in-World.is) c.refuse.ensures.refuses

pub returns-in-World-clause-leaves : goal.returns-in-World-clause-leaves
returns-in-World-clause-leaves c = c.refuse.ensures.leaves

pub returns-in-Memory-clause-leaves : goal.returns-in-Memory-clause-leaves
returns-in-Memory-clause-leaves c none = works_short c.args.self.now c.args.self.now (Err c.in-Memory.refused) refl refl refl none

pub returns-in-Corrupt-clause-leaves : goal.returns-in-Corrupt-clause-leaves
returns-in-Corrupt-clause-leaves c none = works_replied c.args.self.now c.reply.new.self c.reply.result c.args.revision _ c.reply.ensures.said c.reply.ensures.leaves none
