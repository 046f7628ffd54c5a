use Rattle.std.proofs.Common.{[], ◌∷◌, ◌++◌, ◌∙◌, List, Some, IsPermutation, ap, arith, length, length-append, refl, subst, sym}
use Rattle.doc_tallies.specs.Orders.{comes_before}
use Rattle.split_bundle.specs.declared.placed.Placed.{Placed}
use Rattle.doc_tallies.proofs.HitOrders.{hits_order}
use Rattle.root_search.proofs.Merging.{all_taken, drawn_more, enough_taken, firsts_merged, merging_more}
use Rattle.root_search.proofs.joins.merged_hits.Goals as goal
use Rattle.root_search.proofs.joins.merged_hits.Goals.{else-loop-order-test, then-loop-order-test+in-None}

pub returns-clause-only : goal.returns-clause-only
returns-clause-only c = λ xs ys e f.
    let before = comes_before c.args.order in
    let hits = c.loop-order.hits in
    let held = hits.ok.0 in
    let few = c.loop-order.invariant.few in
    c.from_vec.ensures ∙ firsts_merged before (hits_order c.args.order) c.args.wanted xs ys c.args.one c.args.other hits.items e f (λ h k.
    let m = c.loop-order.invariant.merging h k in
    elim c.loop-order-test.branch [
      | else-loop-order-test w ↦ enough_taken before c.args.wanted c.args.one c.args.other hits.items c.loop-order.left.items c.loop-order.right.items m (omega (arith, held, few))
      | then-loop-order-test+in-None w ↦ all_taken before c.args.wanted c.args.one c.args.other hits.items c.loop-order.left.items c.loop-order.right.items m w.in-None.ensures.none (omega (arith, held, few))
    ])

pub returns-clause-drawn : goal.returns-clause-drawn
returns-clause-drawn c =
    (c.loop-order.left.items ++ c.loop-order.right.items, subst (λ (hits : List Placed). IsPermutation (hits ++ (c.loop-order.left.items ++ c.loop-order.right.items)) (c.args.one ++ c.args.other)) (sym c.from_vec.ensures) c.loop-order.invariant.drawn)

pub loop-order-preserved : goal.loop-order-preserved
loop-order-preserved c =
    let hits = c.loop-order.hits.items in
    let more = c.in_ok-push-in-Some.ensures.items in
    let long = length-append hits (c.in-Some.hit ∷ []) in
    record {
      merging = λ h k. merging_more (comes_before c.args.order) c.args.one c.args.other hits c.push.new.self.items c.loop-order.left.items c.loop-order.right.items c.next_hit.new.left.items c.next_hit.new.right.items c.in-Some.hit (c.loop-order.invariant.merging h k) c.in-Some.ensures.first c.in-Some.ensures.left c.in-Some.ensures.right more;
      few = omega (arith, c.loop-order-test.true, c.len.ensures, c.push.new.self.ok.0, c.loop-order.hits.ok.0, ap length more, long);
      drawn = drawn_more (c.args.one ++ c.args.other) hits c.push.new.self.items c.loop-order.left.items c.loop-order.right.items c.next_hit.new.left.items c.next_hit.new.right.items (Some c.in-Some.hit) c.in-Some.hit c.loop-order.invariant.drawn c.in-Some.ensures.drawn refl more;
    }
