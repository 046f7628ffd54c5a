use Rattle.std.proofs.Common.{◌∙◌, ℕ, List, sym, ap, subst, inl}
use Rattle.std.specs.Prelude.{None}
use Rattle.std.proofs.Math.Logic.{∥∥₁_elim}
use Rattle.index_world.specs.Configuration.{configuration}
use Rattle.index_world.specs.Core.{journal_of}
use Rattle.split_build.proofs.Mere.{schema_prop}
use Rattle.split_laws.proofs.Spelling.{can_spell_prop}
use Rattle.upkeep_run.specs.Ending.{Told, unmerged_said}
use Rattle.upkeep_run.specs.Judging.{AreSplits}
use Rattle.upkeep_run.specs.Standing.{Answers}
use Rattle.upkeep_run.specs.Steps.{stage_outcome}
use Rattle.upkeep_run.proofs.Leaving.{leave_short, left_built, left_fault, left_stages}
use Rattle.upkeep_run.proofs.Planning.{same_config}
use Rattle.upkeep_run.proofs.Spelling.{files_can}
use Rattle.upkeep_run.proofs.Told.{unstaged_answers}
use Rattle.index_config.specs.declared.config.IndexConfig.{IndexConfig}
use Rattle.index_world.specs.Answering.{Answered}
use Rattle.upkeep_run.specs.Corrupting.{IsCorrupt, LeftFault}
use Rattle.upkeep_run.specs.Judging.{HasNoSplit}
use Rattle.upkeep_run.proofs.Corrupted.{left_corrupt, stage_gives}
use Rattle.upkeep_run.proofs.delete_worker.DeleteWorker.rebuild.Goals as goal

pub merged-built-requires-clause-schema : goal.merged-built-requires-clause-schema
merged-built-requires-clause-schema g c = ∥∥₁_elim c.config.ensures.schema (schema_prop c.config.result.now.schema) (λ x. x)

pub returns-in-Ok-clause-step : goal.returns-in-Ok-clause-step
returns-in-Ok-clause-step g c = λ core log planned is stands ws i p done leaves some.
    let config = c.config.result.now in
    let same = same_config (configuration (journal_of core)) config planned.config (c.config.ensures.step core log stands) i.configured in
    let made = left_built core log c.args.work planned ws i p done c.args.dropped.now leaves c.in-Ok.split config same
    (λ lists are. c.in-Ok.ensures.only lists (subst (λ (fs : List (List ℕ)). AreSplits config.schema fs lists) (sym c.as_slice.ensures) are)) (λ documents built. c.built_is_one.ensures config.schema documents built) in
    left_stages core log c.args.work planned ws i p done c.args.dropped.now leaves g.G.Gate.Stands g.G.Gate.Between g.G.Gate.Owns g.G.Gate.Adds c.args.gate.now c.stage.new.gate g.met.G.Gate.between_goes
    (λ after there. g.met.G.Gate.is_sound c.stage.new.gate after log there) some c.in-Ok.split is made c.stage.new.place c.stage.result
    (λ error e unmade u. subst (λ (r : Told). Answers r (stage_outcome unmade)) (sym e) (unstaged_answers error unmade u)) (c.stage.ensures.step core log stands)

pub returns-in-Err-clause-step : goal.returns-in-Err-clause-step
returns-in-Err-clause-step g c = λ core log planned is stands ws i p done leaves some.
    let config = c.config.result.now in
    let same = same_config (configuration (journal_of core)) config planned.config (c.config.ensures.step core log stands) i.configured in
    let none = left_fault core log c.args.work planned ws i p done c.args.dropped.now leaves c.in-Err.error config same
    (λ lists are. c.in-Err.ensures.only lists (subst (λ (fs : List (List ℕ)). AreSplits config.schema fs lists) (sym c.as_slice.ensures) are)) in
    leave_short core log planned done g.G.Gate.Stands g.G.Gate.Between g.G.Gate.Owns g.G.Gate.Adds c.args.gate.now c.args.gate.now c.args.self.now.place c.unmerged.result c.requires.idle
    (subst (λ (r : Told). Answers r None) (sym (c.unmerged.ensures ∙ ap (unmerged_said _) none.1)) tt) stands (g.met.G.Gate.none_between core) (g.met.G.Gate.adds_none c.args.gate.now)

pub stage-requires-clause-can : goal.stage-requires-clause-can
stage-requires-clause-can g c =
    ∥∥₁_elim c.config.ensures.schema (can_spell_prop c.in-Ok.split.facts)
    (λ s. files_can c.config.result.now.schema c.args.dropped.now c.as_slice.result.now c.in-Ok.split s.few c.in-Ok.ensures.exact c.facts_fit.ensures.size c.facts_fit.ensures.times)

pub returns-in-Ok-clause-corrupt : goal.returns-in-Ok-clause-corrupt
returns-in-Ok-clause-corrupt g c = λ key e. inl (stage_gives (λ (call : Answered). g.G.Gate.Answers c.args.gate.now call c.stage.new.gate) c.args.work.plan c.in-Ok.split c.stage.result c.stage.new.place c.stage.ensures.ends key e)

pub returns-in-Err-clause-corrupt : goal.returns-in-Err-clause-corrupt
returns-in-Err-clause-corrupt g c =
    subst (λ (k : IndexConfig). (key : List ℕ) → IsCorrupt c.unmerged.result key → LeftFault (λ (call : Answered). g.G.Gate.Answers c.args.gate.now call c.args.gate.now) k c.args.work key) c.config.ensures.value
    (λ key e. left_corrupt c.config.result.now c.args.work (λ (call : Answered). g.G.Gate.Answers c.args.gate.now call c.args.gate.now) c.args.dropped.now c.in-Err.error
    (subst (λ (fs : List (List ℕ)). HasNoSplit c.config.result.now.schema fs c.in-Err.error) c.as_slice.ensures c.in-Err.ensures.cause)
    (λ lists are. c.in-Err.ensures.only lists (subst (λ (fs : List (List ℕ)). AreSplits c.config.result.now.schema fs lists) (sym c.as_slice.ensures) are))
    c.unmerged.result (c.unmerged.ensures ∙ ap (λ rows. unmerged_said rows c.in-Err.error) c.as_slice-in-Err.ensures) key e)
