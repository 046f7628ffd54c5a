use Rattle.std.proofs.Common.{take, ap, ◌∙◌, rules}
use Rattle.std.proofs.lemmas.Fn.{always_returns_same}
use Rattle.doc_tallies.specs.Orders.{comes_before}
use Rattle.doc_tallies.proofs.HitOrders.{hits_order}
use Rattle.doc_tallies.proofs.Stable.{sorted_is}
use Rattle.doc_tallies.proofs.hits.cut.Goals as goal

pub returns : goal.returns
returns c =
    let b = comes_before c.args.order in
    let o = hits_order c.args.order in
    c.truncate.ensures.items ∙ ap (take c.args.wanted) (sorted_is b o c.args.kept.now.items c.sort_by.new.self.items
    (c.in_ok-sort_by.ensures.sorted b o (always_returns_same _ _ _ (λ a r f k. search rules)))
    (c.sort_by.ensures.stable b o (always_returns_same _ _ _ (λ a r f k. search rules))))
