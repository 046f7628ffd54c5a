use Rattle.std.proofs.Common.{◌∙◌, sym}
use Rattle.doc_tallies.specs.Orders.{comes_before}
use Rattle.doc_tallies.proofs.HitOrders.{hits_order}
use Rattle.root_search.proofs.Merging.{drawn_left, drawn_right, kept_in_order, taken_left, taken_left_alone, taken_right, taken_right_alone}
use Rattle.root_search.proofs.joins.next_hit.Goals as goal

pub returns-then-comes_before-clause-first : goal.returns-then-comes_before-clause-first
returns-then-comes_before-clause-first c =
    taken_right (comes_before c.args.order) (hits_order c.args.order) _ _ _ c.pop_front.result c.in-Some-Some.one.now c.in-Some-Some.other.now
    c.pop_front.ensures.items c.in-Some-Some.ensures.lookup c.in-Some-Some.ensures'.lookup (sym c.comes_before.ensures ∙ c.if-comes_before.true)

pub returns-then-comes_before-clause-right : goal.returns-then-comes_before-clause-right
returns-then-comes_before-clause-right c = kept_in_order (comes_before c.args.order) (hits_order c.args.order) _ _ c.pop_front.result c.pop_front.ensures.items

pub returns-else-comes_before-clause-first : goal.returns-else-comes_before-clause-first
returns-else-comes_before-clause-first c =
    taken_left (comes_before c.args.order) (hits_order c.args.order) _ _ _ c.pop_front-else-comes_before.result c.in-Some-Some.one.now c.in-Some-Some.other.now
    c.pop_front-else-comes_before.ensures.items c.in-Some-Some.ensures.lookup c.in-Some-Some.ensures'.lookup (sym c.comes_before.ensures ∙ c.if-comes_before.false)

pub returns-else-comes_before-clause-left : goal.returns-else-comes_before-clause-left
returns-else-comes_before-clause-left c = kept_in_order (comes_before c.args.order) (hits_order c.args.order) _ _ c.pop_front-else-comes_before.result c.pop_front-else-comes_before.ensures.items

pub returns-in-Some-None-clause-first : goal.returns-in-Some-None-clause-first
returns-in-Some-None-clause-first c = λ left right.
    taken_left_alone (comes_before c.args.order) (hits_order c.args.order) _ _ c.args.right.now.items c.pop_front-in-Some-None.result c.pop_front-in-Some-None.ensures.items
    c.in-Some-None.ensures'.item.3 left

pub returns-in-Some-None-clause-left : goal.returns-in-Some-None-clause-left
returns-in-Some-None-clause-left c = kept_in_order (comes_before c.args.order) (hits_order c.args.order) _ _ c.pop_front-in-Some-None.result c.pop_front-in-Some-None.ensures.items

pub returns-in-None-default-clause-first : goal.returns-in-None-default-clause-first
returns-in-None-default-clause-first c = λ left right.
    taken_right_alone (comes_before c.args.order) (hits_order c.args.order) c.args.left.now.items _ _ c.pop_front-in-None-default.result c.pop_front-in-None-default.ensures.items
    c.in-None-default.ensures.item.3 right

pub returns-in-None-default-clause-right : goal.returns-in-None-default-clause-right
returns-in-None-default-clause-right c = kept_in_order (comes_before c.args.order) (hits_order c.args.order) _ _ c.pop_front-in-None-default.result c.pop_front-in-None-default.ensures.items

pub returns-then-comes_before-clause-drawn : goal.returns-then-comes_before-clause-drawn
returns-then-comes_before-clause-drawn c = drawn_right c.args.left.now.items _ _ c.pop_front.result c.pop_front.ensures.items

pub returns-else-comes_before-clause-drawn : goal.returns-else-comes_before-clause-drawn
returns-else-comes_before-clause-drawn c = drawn_left _ _ c.args.right.now.items c.pop_front-else-comes_before.result c.pop_front-else-comes_before.ensures.items

pub returns-in-Some-None-clause-drawn : goal.returns-in-Some-None-clause-drawn
returns-in-Some-None-clause-drawn c = drawn_left _ _ c.args.right.now.items c.pop_front-in-Some-None.result c.pop_front-in-Some-None.ensures.items

pub returns-in-None-default-clause-drawn : goal.returns-in-None-default-clause-drawn
returns-in-None-default-clause-drawn c = drawn_right c.args.left.now.items _ _ c.pop_front-in-None-default.result c.pop_front-in-None-default.ensures.items
