use Rattle.std.proofs.Common.{◌∙◌, sym}
use Rattle.split_states.specs.Answers.{answer_to_mark}
use Rattle.meta_store.proofs.Steps.{each_next}
use Rattle.meta_store.proofs.checks.may_mark_each.Goals as goal

pub loop-number-preserved : goal.loop-number-preserved
loop-number-preserved c =
    each_next (λ n. answer_to_mark c.args.rows.now.list n c.args.now c.args.grace) c.args.numbers.now c.loop-number.number-index _ c.loop-number-test.true (sym c.may_mark.ensures ∙ c.in_ok-may_mark.was)
    ∙ c.loop-number.invariant
