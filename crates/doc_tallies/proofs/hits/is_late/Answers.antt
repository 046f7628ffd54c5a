use Rattle.std.proofs.Common.{◌≡◌, ◌-◌, ◌<◌, length, slice_get, Some, ap, sym, ◌∙◌, arith}
use Rattle.std.proofs.lemmas.Option.{slice_get-get_or}
use Rattle.split_bundle.specs.declared.placed.Placed.{Placed}
use Rattle.doc_tallies.specs.Orders.{comes_before}
use Rattle.doc_tallies.proofs.HitOrders.{hits_order}
use Rattle.doc_tallies.proofs.Late.{late_when}
use Rattle.doc_tallies.proofs.hits.is_late.Goals as goal

pub returns : goal.returns
returns c = λ bar.
    let order = c.args.order in
    let kept = c.args.kept.now in
    let z = c.index-kept-last.result in
    let i = c.saturating_sub-last.result in
    let lt : i < length kept = omega arith in
    let at : i ≡ c.args.wanted - 1 = omega arith in
    let here : slice_get kept i ≡ Some z = slice_get-get_or kept i z lt ∙ ap (λ (d : Placed). Some d) (sym c.index-kept-last.is) in
    late_when (comes_before order) (hits_order order) c.args.wanted kept c.args.hit.now z i c.comes_before.result at here c.comes_before.ensures bar
