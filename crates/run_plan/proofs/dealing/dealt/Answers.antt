use Rattle.std.proofs.Common.{◌≡◌, ◌∙◌, ◌+◌, ◌++◌, ◌∷◌, [], List, ℕ, add-one, ap, append-nil, arith, drop, drop-cons, get_or, length, map, refl, subst, sym, take}
use Rattle.std.specs.Prelude.{Option, Some, None}
use Rattle.std.specs.Option.{option_to_list}
use Rattle.std.specs.declared.alloc.Global.{Global}
use Rattle.std.specs.declared.vec.Vec.{Vec}
use Rattle.run_plan.specs.Dealing.{HoldBack, dealt, rest_of}
use Rattle.run_plan.proofs.Deals.{dealt_more, is_none, whole_front}
use Rattle.run_plan.proofs.dealing.dealt.Goals.{in-Some+in_ok-push, in_default}
use Rattle.run_plan.proofs.dealing.dealt.Goals as goal

pub loop-owner-init : goal.loop-owner-init
loop-owner-init g c =
    let lists = map (λ list. list.items) c.args.lists.items in
    let long = c.turn_all.auto.lists ∙ c.as_mut_slice.ensures.len in (
      lists,
      subst (λ l. HoldBack l lists) (sym (whole_front c.turn_all.new.lists _ c.args.lists.len long)) (c.turn_all.ensures lists (ap (λ l. map (λ list. list.items) l) (sym c.as_mut_slice.ensures.value))),
      ap (λ l. l ++ dealt c.args.by.now lists) c.new-all.ensures.items,
    )

pub loop-owner-preserved : goal.loop-owner-preserved
loop-owner-preserved g c =
    let inv = c.loop-owner.invariant in
    let rests = inv.0 in
    let by = c.args.by.now in
    let i = c.loop-owner.owner-index in
    let owner = get_or by i 0 in
    let rest = drop (i + 1) by in
    let view = c.as_mut_slice-in-loop-owner in
    let t = c.take_one.ensures rests (subst (λ l. HoldBack l rests) (sym view.ensures.value) inv.1) in
    let long = c.take_one.auto.lists ∙ view.ensures.len in
    let added : c.match-take_one.all.items ≡ c.loop-owner.all.items ++ option_to_list c.take_one.result = elim c.match-take_one.branch [
      | in-Some+in_ok-push w ↦ ap (λ (v : Vec g.row.A.Denot Global). v.items) w.all-is ∙ (w.in_ok-push.ensures.items ∙ ap (λ o. c.loop-owner.all.items ++ option_to_list o) (sym w.in-Some.is))
      | in_default w ↦ ap (λ (v : Vec g.row.A.Denot Global). v.items) w.all-is ∙ (sym (append-nil c.loop-owner.all.items) ∙ ap (λ o. c.loop-owner.all.items ++ option_to_list o) (sym (is_none c.take_one.result w.in_default.not-Some)))
    ] in
    let here : drop i by ≡ owner ∷ rest = drop-cons by i 0 c.loop-owner-test.true ∙ ap (λ n. owner ∷ drop n by) (sym (add-one i)) in (
      rest_of rests owner,
      subst (λ l. HoldBack l (rest_of rests owner)) (sym (whole_front c.take_one.new.lists _ c.loop-owner.lists.len long)) t.1,
      ap (λ l. l ++ dealt rest (rest_of rests owner)) added ∙ (dealt_more owner rest c.loop-owner.all.items rests c.take_one.result t.0 ∙ (ap (λ l. c.loop-owner.all.items ++ dealt l rests) (sym here) ∙ inv.2)),
    )
