use Rattle.std.proofs.Common.{◌≡◌, ◌≤◌, List, length, ap, sym, subst, ◌∙◌, arith}
use Rattle.split_bundle.specs.declared.placed.Placed.{Placed}
use Rattle.doc_tallies.specs.Bars.{HasBar}
use Rattle.doc_tallies.specs.Orders.{comes_before, firsts}
use Rattle.doc_tallies.proofs.HitOrders.{hits_order}
use Rattle.doc_tallies.proofs.Late.{bar_more, bar_when, firsts_again}
use Rattle.doc_tallies.proofs.Putting.{InOrder, firsts_in_order}
use Rattle.doc_tallies.proofs.Tabling.{on_true}
use Rattle.doc_tallies.proofs.hits.keep.Goals as goal

pub returns-then-len-saturating_add-clause-bar : goal.returns-then-len-saturating_add-clause-bar
returns-then-len-saturating_add-clause-bar c =
    let b = comes_before c.args.order in
    let wanted = c.args.wanted in
    on_true c.args.full (HasBar b wanted c.args.kept.now.items) (HasBar b wanted c.push.new.self.items)
    (λ bar. subst (λ (ks : List Placed). HasBar b wanted ks) (sym c.in_ok-push.ensures.items) (bar_more b wanted c.args.kept.now.items c.args.hit bar)) c.requires

pub returns-clause-firsts : goal.returns-clause-firsts
returns-clause-firsts c =
    let b = comes_before c.args.order in
    let some = firsts c.args.wanted c.args.order in
    ap some c.in_ok-cut.ensures ∙ (firsts_again b (hits_order c.args.order) c.args.wanted c.push.new.self.items ∙ ap some c.in_ok-push.ensures.items)

pub returns-clause-bar : goal.returns-clause-bar
returns-clause-bar c =
    let b = comes_before c.args.order in
    let o = hits_order c.args.order in
    let wanted = c.args.wanted in
    let kept = c.cut.new.kept.items in
    bar_when b o wanted kept c.is_full.result (subst (λ (ks : List Placed). InOrder b ks) (sym c.in_ok-cut.ensures) (firsts_in_order b o wanted c.push.new.self.items))
    (on_true c.is_full.result ((1 ≤ wanted) × (c.len-count.result ≡ wanted)) ((1 ≤ wanted) × (length kept ≡ wanted)) (λ full. (full.0, let same = full.1 in omega arith)) c.is_full.ensures)
