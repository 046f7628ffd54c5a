use Rattle.std.proofs.Common.{◌∙◌, sym}
use Rattle.split_states.specs.Answers.{answer_to_retire}
use Rattle.meta_store.proofs.Steps.{each_next}
use Rattle.meta_store.proofs.checks.may_retire_each.Goals as goal

pub loop-number-preserved : goal.loop-number-preserved
loop-number-preserved c =
    each_next (λ n. answer_to_retire c.args.rows.now.list n c.args.now c.args.period) c.args.numbers.now c.loop-number.number-index _ c.loop-number-test.true (sym c.may_retire.ensures ∙ c.in_ok-may_retire.was)
    ∙ c.loop-number.invariant
