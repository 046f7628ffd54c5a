use Rattle.std.proofs.Common.{◌≡◌, ◌∙◌, ◌+◌, ◌<◌, [], ap, arith, refl, ℕ, subst, sym}
use Rattle.std.proofs.lemmas.List.{nil_from_length}
use Rattle.std.proofs.lemmas.Option.{slice_get-get_or}
use Rattle.std.specs.Prelude.{Some, slice_get}
use Rattle.std.specs.Vec.Iter.{into_iter_items}
use Rattle.std.specs.declared.alloc.Global.{Global}
use Rattle.std.specs.declared.vec.Vec.{Vec}
use Rattle.thread_run.proofs.Shares.{AllOwe, owe_all, owe_less, owe_none, set_long}
use Rattle.thread_run.proofs.sharing.shared_out.Goals as goal

pub loop-one-init : goal.loop-one-init
loop-one-init g c =
    let lists = c.in_ok-lists.ensures in
    let all = c.args.all.items in (
      tt,
      tt,
      c.requires,
      lists.0,
      subst (λ rest. AllOwe c.args.count 0 0 all rest c.in_ok-lists.lists.items) (sym c.into_iter-one-iterator.ensures.into_iter_gives.0) (owe_none c.args.count 0 all c.in_ok-lists.lists.items lists.1),
    )

pub loop-one-preserved-then-next-count : goal.loop-one-preserved-then-next-count
loop-one-preserved-then-next-count g c =
    let lists = c.loop-one.lists.items in
    let next = c.loop-one.next in
    let inv = c.loop-one.invariant in
    let less = inv.2 in
    let long = inv.3 in
    let last = c.if-next-count.true in
    let old : Vec g.row.A.Denot Global = c.index_mut.result.now in
    let at : slice_get lists next ≡ Some old = slice_get-get_or lists next old (omega (arith, less, long)) ∙ ap (λ x. Some x) (sym c.index_mut.ensures.value) in
    let owe = subst (λ rest. AllOwe c.args.count next 0 c.args.all.items rest lists) c.in-Some.ensures.steps.0 inv.4 in (
      tt,
      tt,
      c.requires,
      set_long lists next c.push.new.self ∙ long,
      owe_less c.args.count next 0 0 next c.args.all.items (into_iter_items c.next.new.self) c.in-Some.one lists old c.push.new.self ((λ e. refl), (λ l. absurd (omega (arith, last, l)))) (omega arith) (omega (arith, less, long)) (omega (arith, long)) at c.in_ok-push.ensures.items owe,
    )

pub loop-one-preserved : goal.loop-one-preserved
loop-one-preserved g c =
    let lists = c.loop-one.lists.items in
    let next = c.loop-one.next in
    let inv = c.loop-one.invariant in
    let less = inv.2 in
    let long = inv.3 in
    let more : next + 1 < c.args.count = not_last next c.args.count less c.if-next-count.false in
    let old : Vec g.row.A.Denot Global = c.index_mut.result.now in
    let at : slice_get lists next ≡ Some old = slice_get-get_or lists next old (omega (arith, less, long)) ∙ ap (λ x. Some x) (sym c.index_mut.ensures.value) in
    let owe = subst (λ rest. AllOwe c.args.count next 0 c.args.all.items rest lists) c.in-Some.ensures.steps.0 inv.4 in (
      tt,
      tt,
      more,
      set_long lists next c.push.new.self ∙ long,
      owe_less c.args.count next (next + 1) 0 next c.args.all.items (into_iter_items c.next.new.self) c.in-Some.one lists old c.push.new.self ((λ e. absurd (omega (arith, more, e))), (λ l. omega arith)) (omega arith) (omega (arith, less, long)) (omega (arith, long)) at c.in_ok-push.ensures.items owe,
    )
  where
    not_last : (n m : ℕ) → n < m → (n + 1 ≡ m → ⊥) → n + 1 < m
    not_last n m less other = search arith

pub returns-clause-shares : goal.returns-clause-shares
returns-clause-shares g c =
    let lists = c.loop-one.lists.items in
    let none : into_iter_items c.loop-one.one-iterator ≡ [] = nil_from_length c.loop-one.one-iterator.rest.items (omega (arith, c.in-None.ensures.steps.0, c.loop-one.one-iterator.rest.ok)) in
    owe_all c.args.count c.loop-one.next 0 c.args.all.items lists (subst (λ rest. AllOwe c.args.count c.loop-one.next 0 c.args.all.items rest lists) none c.loop-one.invariant.4)
