use Rattle.std.proofs.Common.{◌∙◌, ap, refl, subst, sym, inr, Ok, Err, List}
use Rattle.index_config.specs.declared.config.IndexConfig.{IndexConfig}
use Rattle.index_world.specs.SplitFile.{file_of, facts_of}
use Rattle.index_world.proofs.InHand.{number_apart}
use Rattle.indexing_run.specs.Standing.{HoldsOwn}
use Rattle.indexing_run.specs.declared.indexer.IndexerPlace.TheVariants as places
use Rattle.indexing_run.proofs.Reading.{target_ranges}
use Rattle.indexing_run.proofs.Stepping.{as_put, staged_facts, built_splits, stage_short, stages, stage_fails, no_answer}
use Rattle.indexing_run.proofs.Holding.{own_later}
use Rattle.indexing_run.specs.declared.outcome.IndexerOutcome.{IndexerOutcome as Said}
use Rattle.indexing_run.specs.Ending.{EndsClosed}
use Rattle.indexing_run.proofs.Ended.{ends_by, ends_short}
use Rattle.source_checkpoint.specs.declared.delta.Part.{Part}
use Rattle.index_world.specs.Answering.{Answered, stage_answered}
use Rattle.indexing_run.proofs.indexer.Indexer.stage.Goals as goal

pub returns-in_err-bytes-clause-step : goal.returns-in_err-bytes-clause-step
returns-in_err-bytes-clause-step g c = λ indexer core read made s stands b m k closed some.
    stage_short g.L.SourceLog.told g.L.SourceLog.fault_count g.G.Gate.Stands g.G.Gate.Between g.G.Gate.Owns g.G.Gate.Adds indexer core read c.args.self.now c.args.gate.now c.args.gate.now s made closed (number_apart made.count 0 some)
    c.from_residual.result (no_answer c.from_residual.result c.from_residual.ensures.0) stands (g.met.G.Gate.none_between core) (g.met.G.Gate.adds_none c.args.gate.now)

pub returns-in-Ok-clause-step : goal.returns-in-Ok-clause-step
returns-in-Ok-clause-step g c = λ indexer core read made s stands b m k closed some.
    let list = made.documents in
    let mapping = c.args.batch.documents.mapping in
    let split = c.in_ok-bytes.field-0 in
    let built = c.in_ok-bytes.ensures.facts list b.documents ∙ ap (λ (x : IndexConfig). facts_of x list 0) b.config in
    as_put c.args.self.now (places.Staged c.in-Ok.staged split.bytes) c.put.new.place c.put.ensures
    (stages g.L.SourceLog.told g.L.SourceLog.fault_count g.G.Gate.Stands g.G.Gate.Between g.G.Gate.Owns g.G.Gate.Adds indexer core read c.args.self.now c.args.gate.now c.stage-staged.new.self s made closed (number_apart made.count 0 some)
    c.from_vec-delta.result c.with_rejected-facts.result (c.from_vec-delta.ensures ∙ b.parts)
    (staged_facts made list split.facts c.with_rejected-facts.result c.args.batch.count c.saturating_sub-rejected.result refl b.count
    built c.saturating_sub-rejected.ensures c.with_rejected-facts.ensures.facts m.few (target_ranges core made.config k).1)
    c.in-Ok.staged split.bytes g.met.G.Gate.between_goes (c.in_ok-bytes.ensures.bytes list b.documents ∙ ap (λ (x : IndexConfig). file_of x list) b.config) m
    (built_splits made.config mapping list split b.config (c.in_ok-bytes.ensures.built list b.documents) (c.in_ok-bytes.ensures.bytes list b.documents)) k (c.in-Ok.ensures.step core read stands))

pub returns-clause-step : goal.returns-clause-step
returns-clause-step g c = λ indexer core read made s stands b m k closed some.
    let list = made.documents in
    let built = c.in_ok-bytes.ensures.facts list b.documents ∙ ap (λ (x : IndexConfig). facts_of x list 0) b.config in
    stage_fails g.L.SourceLog.told g.L.SourceLog.fault_count g.G.Gate.Stands g.G.Gate.Between g.G.Gate.Owns g.G.Gate.Adds indexer core read c.args.self.now c.args.gate.now c.stage-staged.new.self s made closed (number_apart made.count 0 some)
    c.from_vec-delta.result c.with_rejected-facts.result (c.from_vec-delta.ensures ∙ b.parts)
    (staged_facts made list c.in_ok-bytes.field-0.facts c.with_rejected-facts.result c.args.batch.count c.saturating_sub-rejected.result refl b.count
    built c.saturating_sub-rejected.ensures c.with_rejected-facts.ensures.facts m.few (target_ranges core made.config k).1)
    c.in-Err.error c.unstaged.result c.unstaged.ensures.unmade (c.in-Err.ensures.step core read stands)

pub returns-in_err-bytes-clause-later_gate : goal.returns-in_err-bytes-clause-later_gate
returns-in_err-bytes-clause-later_gate g c = g.met.G.Gate.since_same c.args.gate.now

pub returns-in-Ok-clause-owns : goal.returns-in-Ok-clause-owns
returns-in-Ok-clause-owns g c = λ h. subst (HoldsOwn g.G.Gate.Owns c.stage-staged.new.self) (sym c.put.ensures) c.in-Ok.ensures.owned

pub returns-clause-owns : goal.returns-clause-owns
returns-clause-owns g c = λ h. own_later g.G.Gate.Owns g.G.Gate.since g.met.G.Gate.since_owns c.args.gate.now c.stage-staged.new.self c.args.self.now.place c.stage-staged.ensures.later h

pub with_rejected-facts-requires : goal.with_rejected-facts-requires
with_rejected-facts-requires g c = c.in_ok-bytes.ensures.can

pub stage-staged-requires : goal.stage-staged-requires
stage-staged-requires g c = c.with_rejected-facts.ensures.can

pub returns-in_err-bytes-clause-ends : goal.returns-in_err-bytes-clause-ends
returns-in_err-bytes-clause-ends g c = λ idle some. ends_short (EndsClosed (λ (call : Answered). g.G.Gate.Answers c.args.gate.now call c.args.gate.now) c.args.batch) c.from_residual.result c.args.self.now.place c.from_residual.ensures.0 idle

pub returns-in-Ok-clause-ends : goal.returns-in-Ok-clause-ends
returns-in-Ok-clause-ends g c = λ idle some.
    inr (some, (c.with_rejected-facts.result, Ok c.in-Ok.staged, subst (λ (parts : List Part). g.G.Gate.Answers c.args.gate.now (stage_answered parts c.with_rejected-facts.result (Ok c.in-Ok.staged)) c.stage-staged.new.self) c.from_vec-delta.ensures c.in-Ok.ensures.answered, (refl, (c.in_ok-bytes.field-0.bytes, c.put.ensures, λ documents taken. c.in_ok-bytes.ensures.bytes documents taken))))

pub returns-clause-ends : goal.returns-clause-ends
returns-clause-ends g c = λ idle some.
    ends_by (EndsClosed (λ (call : Answered). g.G.Gate.Answers c.args.gate.now call c.stage-staged.new.self) c.args.batch) c.unstaged.result c.args.self.now.place idle (λ (outcome : Said) e. inr (some, (c.with_rejected-facts.result, Err c.in-Err.error, subst (λ (parts : List Part). g.G.Gate.Answers c.args.gate.now (stage_answered parts c.with_rejected-facts.result (Err c.in-Err.error)) c.stage-staged.new.self) c.from_vec-delta.ensures c.in-Err.ensures.answered, (sym c.unstaged.ensures.exact ∙ e, idle))))
