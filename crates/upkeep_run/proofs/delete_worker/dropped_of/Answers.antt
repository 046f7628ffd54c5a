use Rattle.std.proofs.Common.{◌⊎◌, List, subst}
use Rattle.std.specs.Prelude.{MatchResult}
use Rattle.std.proofs.Math.Logic.{∥∥₁_elim}
use Rattle.delete_tasks.specs.Removes.{DeleteTask}
use Rattle.doc_sets.specs.Faults.{IsMemory}
use Rattle.index_config.specs.declared.config.IndexConfig.{IndexConfig}
use Rattle.source_checkpoint.specs.declared.span.Span.{Span}
use Rattle.split_build.proofs.Mere.{le_prop}
use Rattle.index_world.specs.PlanTasks.{spans_of}
use Rattle.upkeep_run.specs.Dropping.{DropsOf, IsUnasked}
use Rattle.upkeep_run.proofs.DropLeaves.{drops_given}
use Rattle.upkeep_run.proofs.delete_worker.dropped_of.Goals as goal

pub dropped-requires : goal.dropped-requires
dropped-requires g c = ∥∥₁_elim c.config.ensures.schema (le_prop _ _) (λ s. s.few)

pub returns-clause-drops : goal.returns-clause-drops
returns-clause-drops g c =
    let upto = c.args.plan.now.upto in
    let tasks = c.args.plan.now.tasks in
    let row = c.args.row.now in
    let file = c.args.file.now in
    subst (λ (k : IndexConfig). MatchResult c.dropped.result (λ places. DropsOf k.schema (spans_of row.work) tasks upto file places.items) (λ error. IsMemory error ⊎ IsUnasked k.schema tasks file)) c.config.ensures.value
    (subst (λ (ss : List Span). MatchResult c.dropped.result (λ places. DropsOf c.config.result.now.schema ss tasks upto file places.items) (λ error. IsMemory error ⊎ IsUnasked c.config.result.now.schema tasks file)) c.spans_of-spans.ensures
    (subst (λ (ts : List DeleteTask). MatchResult c.dropped.result (λ places. DropsOf c.config.result.now.schema c.spans_of-spans.result.now ts upto file places.items) (λ error. IsMemory error ⊎ IsUnasked c.config.result.now.schema ts file)) c.as_slice-tasks.ensures
    (drops_given c.config.result.now.schema c.spans_of-spans.result.now c.as_slice-tasks.result.now upto file c.dropped.result c.dropped.ensures.rise c.dropped.ensures.there)))
