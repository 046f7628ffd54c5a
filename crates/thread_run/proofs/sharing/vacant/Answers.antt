use Rattle.std.proofs.Common.{◌≡◌, ◌∙◌, ◌∷◌, [], ap, length, length-append, subst, sym, arith}
use Rattle.std.specs.List.{AllByRecursion}
use Rattle.thread_run.proofs.Shares.{all_pushed}
use Rattle.thread_run.proofs.sharing.vacant.Goals as goal

pub loop-init : goal.loop-init
loop-init g c = (ap length c.new-lists.ensures.items, subst (AllByRecursion (λ list. list.items ≡ [])) (sym c.new-lists.ensures.items) tt)

pub loop-preserved : goal.loop-preserved
loop-preserved g c =
    let items = c.in_ok-push.ensures.items in
    let long = length-append c.loop.lists.items (c.new.result ∷ []) in
    let inv = c.loop.invariant in (
      ap length items ∙ (let so_far = inv.0 in omega (arith, long, so_far)),
      subst (AllByRecursion (λ list. list.items ≡ [])) (sym items) (all_pushed (λ list. list.items ≡ []) c.loop.lists.items c.new.result inv.1 c.new.ensures.items),
    )
