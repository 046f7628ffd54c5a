use Rattle.std.proofs.Common.{◌≡◌, ◌+◌, ◌-◌, ◌≤◌, Bool, List, [], ◌∷◌, ◌++◌, count_by, length, not, take, ap, subst, sym, ◌∙◌}
use Rattle.std.specs.List.{filter}
use Rattle.std.proofs.lemmas.List.{take_more}
use Rattle.split_bundle.specs.declared.placed.Placed.{Placed}
use Rattle.doc_tallies.specs.Orders.{comes_before}
use Rattle.doc_tallies.specs.Shares.{joined}
use Rattle.root_search.specs.Shares.{hits_in}
use Rattle.root_search.specs.declared.shares.SplitShare.{SplitShare}
use Rattle.root_search.proofs.ShareHits.{enough_more}
use Rattle.root_search.proofs.shares.have_enough.Goals as goal

pub loop-share-preserved : goal.loop-share-preserved
loop-share-preserved c =
    let i = c.loop-share.share-index in
    let shares = c.args.shares.now in
    let share = c.share-item.result in
    let reaches : Placed → Bool = λ y. not (comes_before c.args.order c.args.bar.now y) in
    let left = c.missing_behind-missing.result in
    let front : take (i + 1) shares ≡ take i shares ++ share ∷ [] = take_more shares i share c.loop-share-test.true ∙ ap (λ g. take i shares ++ g ∷ []) (sym c.share-item.is) in
    let counted : left ≡ c.loop-share.missing - count_by reaches share.answer.hits = c.missing_behind-missing.ensures ∙ ap (λ (l : List Placed). c.loop-share.missing - count_by reaches l) c.as_slice.ensures in
    subst (λ (l : List SplitShare). c.args.wanted ≤ left + length (filter reaches (joined (hits_in l)))) (sym front) (enough_more reaches (take i shares) share c.args.wanted c.loop-share.missing left c.loop-share.invariant counted)
