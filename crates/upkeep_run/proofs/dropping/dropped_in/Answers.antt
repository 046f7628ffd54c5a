use Rattle.std.proofs.Common.{◌≡◌, ◌∙◌, List, Some, take, sym, subst, arith}
use Rattle.std.specs.Prelude.{slice_get}
use Rattle.delete_tasks.specs.Removes.{DeleteTask}
use Rattle.doc_sets.specs.Faults.{IsMemory}
use Rattle.leaf_search.proofs.LeafSteps.{handed}
use Rattle.upkeep_run.specs.Dropping.{HasDropped}
use Rattle.upkeep_run.proofs.DropSets.{asked_at, dropped_next, dropped_start, item_there, take_more}
use Rattle.upkeep_run.proofs.dropping.dropped_in.Goals as goal

pub loop-task-init : goal.loop-task-init
loop-task-init c = record {
  size = c.in_ok-bits.ensures.size ∙ c.doc_count.ensures.exact;
  there = λ documents p part all asked.
      dropped_start c.args.schema.now c.args.spans.now c.args.upto documents c.in_ok-bits.bits (c.in_ok-bits.ensures.size ∙ c.doc_count.ensures.only c.args.schema.now documents p part) c.in_ok-bits.ensures.none;
}

pub returns-in_err-put_dropped-clause-there : goal.returns-in_err-put_dropped-clause-there
returns-in_err-put_dropped-clause-there c = λ documents p part all asked.
    let i = c.loop-task.task-index in
    let ts = c.args.tasks.now in
    let s = c.args.schema.now in
    let task = c.task-item.result in
    let there : slice_get ts i ≡ Some task = item_there ts i task task (omega (arith, c.loop-task-test.true)) c.task-item.is in
    handed (HasDropped s c.args.spans.now ts c.args.upto documents) IsMemory c.from_residual-in_err-put_dropped.result c.in_err-put_dropped.field-0.0 c.from_residual-in_err-put_dropped.ensures.1
    (c.in_err-put_dropped.ensures.there documents p part all (asked_at s ts i task there asked))

pub loop-task-preserved : goal.loop-task-preserved
loop-task-preserved c =
    let i = c.loop-task.task-index in
    let ts = c.args.tasks.now in
    let s = c.args.schema.now in
    let task = c.task-item.result in
    let there : slice_get ts i ≡ Some task = item_there ts i task task (omega (arith, c.loop-task-test.true)) c.task-item.is in
    record {
      size = c.put_dropped.ensures.size ∙ c.loop-task.invariant.size;
      there = λ documents p part all asked.
          subst (λ (done : List DeleteTask). HasDropped s c.args.spans.now done c.args.upto documents c.put_dropped.new.bits) (sym (take_more ts i task there))
          (dropped_next s c.args.spans.now (take i ts) task c.args.upto documents c.loop-task.bits c.put_dropped.new.bits (c.loop-task.invariant.there documents p part all asked) c.put_dropped.ensures.size
          (c.in_ok-put_dropped.ensures.there documents p part all (asked_at s ts i task there asked)));
    }
