use Rattle.std.proofs.Common.{◌≡◌, ◌+◌, List, [], ◌∷◌, ◌++◌, take, ap, subst, sym, ◌∙◌}
use Rattle.std.specs.List.{AllByRecursion}
use Rattle.std.proofs.lemmas.List.{take_all, take_more}
use Rattle.root_search.specs.Shares.{IsWhole}
use Rattle.root_search.specs.declared.shares.SplitShare.{SplitShare}
use Rattle.root_search.proofs.ShareHits.{all_last}
use Rattle.root_search.proofs.shares.first_open.Goals as goal

pub loop-place-preserved : goal.loop-place-preserved
loop-place-preserved c = λ order.
    let i = c.loop-place.place in
    let shares = c.args.shares.now in
    let share = c.index-shares-place.result in
    let front : take (i + 1) shares ≡ take i shares ++ share ∷ [] = take_more shares i share c.loop-place-test.true ∙ ap (λ g. take i shares ++ g ∷ []) (sym c.index-shares-place.is) in
    subst (λ (l : List SplitShare). AllByRecursion (IsWhole order c.args.wanted) l) (sym front)
    (all_last (IsWhole order c.args.wanted) (take i shares) share (c.loop-place.invariant order) (c.if-not-is_whole.ensures.whole order))

pub returns : goal.returns
returns c = λ order.
    subst (λ (l : List SplitShare). AllByRecursion (IsWhole order c.args.wanted) l) (take_all c.loop-place.place c.args.shares.now c.loop-place-test.false) (c.loop-place.invariant order)
