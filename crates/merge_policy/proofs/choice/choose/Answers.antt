use Rattle.std.proofs.Common.{subst}
use Rattle.split_states.specs.Rows.{RowsRise}
use Rattle.merge_policy.specs.Chosen.{chosen}
use Rattle.merge_policy.proofs.Only.{one_choice}
use Rattle.merge_policy.proofs.Picked.{chosen_is}
use Rattle.merge_policy.proofs.Chosen.{levels_rise, chosen_none, chosen_some}
use Rattle.merge_policy.proofs.choice.choose.Goals as goal

pub first_merged-requires : goal.first_merged-requires
first_merged-requires c =
    rw c.deref.ensures.value
    (levels_rise c.args.policy.now c.args.docs_target c.args.now c.as_slice.result.now c.in_ok-list.list.items c.as_slice.ensures.order c.in_ok-list.ensures.rows c.in_ok-list.ensures.levels c.in_ok-list.ensures.order)

pub returns-in-Some-clause-choice : goal.returns-in-Some-clause-choice
returns-in-Some-clause-choice c =
    rw (← c.as_slice.ensures.rows)
    (chosen_some c.args.policy.now c.args.docs_target c.args.now c.as_slice.result.now c.in_ok-list.list.items c.as_slice.ensures.order c.in_ok-list.ensures.rows c.in_ok-list.ensures.levels c.in_ok-list.ensures.order _ _
    (rw c.deref.ensures.value at c.in-Some.ensures) c.in_ok-numbers-in-Some.ensures)

pub returns-clause-choice : goal.returns-clause-choice
returns-clause-choice c =
    rw (← c.as_slice.ensures.rows)
    (chosen_none c.args.policy.now c.args.docs_target c.args.now c.as_slice.result.now c.in_ok-list.list.items c.as_slice.ensures.order c.in_ok-list.ensures.rows c.in_ok-list.ensures.levels c.in_ok-list.ensures.order
    (rw c.deref.ensures.value at c.in-None.ensures))

pub returns-in-Some-clause-exact : goal.returns-in-Some-clause-exact
returns-in-Some-clause-exact c =
    one_choice c.args.policy.now c.args.docs_target c.args.now c.args.rows.now.list _ (chosen c.args.policy.now c.args.docs_target c.args.now c.args.rows.now.list) (returns-in-Some-clause-choice c)
    (chosen_is c.args.policy.now c.args.docs_target c.args.now c.args.rows.now.list c.requires.policy (subst RowsRise c.as_slice.ensures.rows c.as_slice.ensures.order))

pub returns-clause-exact : goal.returns-clause-exact
returns-clause-exact c =
    one_choice c.args.policy.now c.args.docs_target c.args.now c.args.rows.now.list _ (chosen c.args.policy.now c.args.docs_target c.args.now c.args.rows.now.list) (returns-clause-choice c)
    (chosen_is c.args.policy.now c.args.docs_target c.args.now c.args.rows.now.list c.requires.policy (subst RowsRise c.as_slice.ensures.rows c.as_slice.ensures.order))
