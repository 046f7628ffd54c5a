use Rattle.std.proofs.Common.{◌≡◌, ◌-◌, ◌<◌, length, slice_get, Some, None, ap, sym, ◌∙◌, arith}
use Rattle.std.proofs.lemmas.Option.{slice_get-get_or}
use Rattle.split_bundle.specs.declared.placed.Placed.{Placed}
use Rattle.doc_tallies.specs.Orders.{comes_before}
use Rattle.doc_tallies.proofs.HitOrders.{hits_order}
use Rattle.doc_tallies.proofs.Late.{late_when}
use Rattle.doc_tallies.proofs.hits.is_late_by_address.Goals as goal

pub returns : goal.returns
returns c = λ d partition offset bar.
    let kept = c.args.kept.now in
    let z = c.index-kept-last.result in
    let i = c.saturating_sub-last.result in
    let lt : i < length kept = omega arith in
    let at : i ≡ c.args.wanted - 1 = omega arith in
    let here : slice_get kept i ≡ Some z = slice_get-get_or kept i z lt ∙ ap (λ (x : Placed). Some x) (sym c.index-kept-last.is) in
    late_when (comes_before None) (hits_order None) c.args.wanted kept d z i c.stands_before.result at here (c.stands_before.ensures d partition offset) bar
