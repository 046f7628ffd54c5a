use Rattle.std.proofs.Common.{sym, subst, Ok, Err, ◌∙◌, refl}
use Rattle.index_world.specs.Gate.{IsPublishable}
use Rattle.indexing_run.specs.declared.outcome.IndexerOutcome.TheVariants as said
use Rattle.indexing_run.proofs.Stepping.{publishes, published_answers, unpublished_answers}
use Rattle.indexing_run.proofs.Holding.{held_is_publishable}
use Rattle.indexing_run.proofs.Holding.{own_later}
use Rattle.indexing_run.specs.declared.outcome.IndexerOutcome.{IndexerOutcome as Said}
use Rattle.indexing_run.specs.Ending.{EndsPublish}
use Rattle.indexing_run.proofs.Ended.{ends_by}
use Rattle.index_world.specs.Answering.{Answered}
use Rattle.indexing_run.proofs.indexer.Indexer.publish.Goals as goal

pub returns-in-Ok-clause-step : goal.returns-in-Ok-clause-step
returns-in-Ok-clause-step g c = λ indexer core read held s stands same u.
    publishes g.L.SourceLog.told g.L.SourceLog.fault_count g.G.Gate.Stands g.G.Gate.Between g.G.Gate.Owns g.G.Gate.Adds indexer core read c.args.self.now c.args.gate.now c.publish.new.self s held c.args.uploaded.number
    (Ok c.in-Ok.field-0) (Ok (said.Published c.args.uploaded.number)) same
    (c.in-Ok.ensures.step core read stands (subst (IsPublishable read core) (sym same) (held_is_publishable read core held u)))
    (published_answers held c.args.uploaded.number indexer c.in-Ok.field-0 same)

pub returns-in-Err-clause-step : goal.returns-in-Err-clause-step
returns-in-Err-clause-step g c = λ indexer core read held s stands same u.
    publishes g.L.SourceLog.told g.L.SourceLog.fault_count g.G.Gate.Stands g.G.Gate.Between g.G.Gate.Owns g.G.Gate.Adds indexer core read c.args.self.now c.args.gate.now c.publish.new.self s held c.args.uploaded.number
    (Err c.in-Err.error) c.unpublished.result same
    (c.in-Err.ensures.step core read stands (subst (IsPublishable read core) (sym same) (held_is_publishable read core held u)))
    (unpublished_answers held c.args.uploaded.number indexer c.in-Err.error c.unpublished.result same c.unpublished.ensures.unmade)

pub returns-in-Ok-clause-owns : goal.returns-in-Ok-clause-owns
returns-in-Ok-clause-owns g c = λ h. own_later g.G.Gate.Owns g.G.Gate.since g.met.G.Gate.since_owns c.args.gate.now c.publish.new.self c.args.self.now.place c.publish.ensures.later h

pub returns-in-Err-clause-owns : goal.returns-in-Err-clause-owns
returns-in-Err-clause-owns g c = λ h. own_later g.G.Gate.Owns g.G.Gate.since g.met.G.Gate.since_owns c.args.gate.now c.publish.new.self c.args.self.now.place c.publish.ensures.later h

pub returns-in-Ok-clause-ends : goal.returns-in-Ok-clause-ends
returns-in-Ok-clause-ends g c = λ idle. (Ok c.in-Ok.field-0, c.in-Ok.ensures.answered, refl, idle)

pub returns-in-Err-clause-ends : goal.returns-in-Err-clause-ends
returns-in-Err-clause-ends g c = λ idle.
    ends_by (EndsPublish (λ (call : Answered). g.G.Gate.Answers c.args.gate.now call c.publish.new.self) c.args.uploaded.number) c.unpublished.result c.args.self.now.place idle (λ (outcome : Said) e. (Err c.in-Err.error, c.in-Err.ensures.answered, sym c.unpublished.ensures.exact ∙ e, idle))
