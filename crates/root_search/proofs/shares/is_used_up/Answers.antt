use Rattle.std.proofs.Common.{◌≡◌, ◌-◌, List, Some, inl, inr, length, slice_get, ap, sym, ◌∙◌}
use Rattle.split_bundle.specs.declared.placed.Placed.{Placed}
use Rattle.doc_tallies.specs.Orders.{comes_before}
use Rattle.doc_tallies.proofs.HitOrders.{hits_order}
use Rattle.root_search.specs.Shares.{IsUsedUp}
use Rattle.root_search.proofs.ShareHits.{cut_behind, when}
use Rattle.root_search.proofs.shares.is_used_up.Goals as goal

pub returns-in-Some : goal.returns-in-Some
returns-in-Some c =
    let order = c.args.order in
    let share = c.args.share.now in
    let last = c.in-Some.last.now in
    let here : slice_get share.answer.hits (length share.answer.hits - 1) ≡ Some last = ap (λ (l : List Placed). slice_get l (length l - 1)) (sym c.as_slice.ensures) ∙ sym c.in-Some.ensures.value in
    when c.comes_before.result (IsUsedUp order c.args.wanted c.args.bar.now share)
    (λ e own part h. inr (cut_behind (comes_before order) (hits_order order) share.wanted own share.answer.hits c.args.bar.now last h (c.is_whole.ensures.full c.if-is_whole.false) here (sym c.comes_before.ensures ∙ e)))

pub returns-then-is_whole : goal.returns-then-is_whole
returns-then-is_whole c = λ own part h. inl (c.if-is_whole.ensures.whole c.args.order own part h)
