use Rattle.std.proofs.Common.{inl, inr}
use Rattle.std.specs.List.{AllByRecursion}
use Rattle.root_search.specs.Shares.{AreEnough, IsUsedUp, IsWhole}
use Rattle.root_search.proofs.ShareHits.{if_none}
use Rattle.root_search.proofs.shares.open_share.Goals as goal

pub returns-then-have_enough : goal.returns-then-have_enough
returns-then-have_enough c =
    let order = c.args.order in
    let wanted = c.args.wanted in
    let bar = c.in-Some.bar.now in
    let shares = c.args.shares.now in
    if_none c.open_behind.result (AllByRecursion (IsUsedUp order wanted bar) shares) (AreEnough order wanted shares) c.open_behind.ensures (λ used. inr (bar, c.if-have_enough.ensures, used))

pub returns : goal.returns
returns c =
    let order = c.args.order in
    let wanted = c.args.wanted in
    let shares = c.args.shares.now in
    if_none c.first_open.result (AllByRecursion (IsWhole order wanted) shares) (AreEnough order wanted shares) (c.first_open.ensures order) (λ whole. inl whole)
