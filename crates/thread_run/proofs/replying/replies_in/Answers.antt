use Rattle.std.proofs.Common.{◌≡◌, ◌∙◌, List, ap, arith, false, map, refl, subst}
use Rattle.std.specs.List.{AllByRecursion}
use Rattle.std.specs.Vec.Iter.{into_iter_items}
use Rattle.thread_run.specs.declared.serving.Answered.{Answered}
use Rattle.thread_run.proofs.Loops.{all_given, all_push, mapped_push, one_given}
use Rattle.thread_run.proofs.replying.replies_in.Goals as goal

pub loop-one-init : goal.loop-one-init
loop-one-init c = (tt, tt, c.into_iter-one-iterator.ensures.into_iter_gives.0, c.new-all.ensures.items, λ e. tt)

pub loop-one-preserved : goal.loop-one-preserved
loop-one-preserved c =
    let inv = c.loop-one.invariant in (
      tt,
      tt,
      one_given c.loop-one.yielded (into_iter_items c.next.new.self) _ _ c.in-Some.one c.in-Some.ensures.steps.0 inv.2,
      mapped_push (λ (one : Answered). one.replies) c.loop-one.yielded c.loop-one.all.items c.push.new.self.items c.in-Some.one _ c.in_ok-push.ensures.items inv.3 refl,
      λ e. (let both = c.either-lacks.ensures e in all_push (λ (one : Answered). one.short ≡ false) c.loop-one.yielded c.in-Some.one (inv.4 both.0) both.1),
    )

pub returns-clause-lists : goal.returns-clause-lists
returns-clause-lists c =
    let inv = c.loop-one.invariant in
    let none = c.in-None.ensures.steps.0 in
    let whole = all_given c.loop-one.yielded (into_iter_items c.loop-one.one-iterator) _ (let ok = c.loop-one.one-iterator.rest.ok in omega (arith, none, ok)) inv.2 in
    inv.3 ∙ ap (λ (l : List Answered). map (λ (one : Answered). one.replies) l) whole

pub returns-clause-whole : goal.returns-clause-whole
returns-clause-whole c e =
    let inv = c.loop-one.invariant in
    let none = c.in-None.ensures.steps.0 in
    let whole = all_given c.loop-one.yielded (into_iter_items c.loop-one.one-iterator) _ (let ok = c.loop-one.one-iterator.rest.ok in omega (arith, none, ok)) inv.2 in
    subst (λ (l : List Answered). AllByRecursion (λ (one : Answered). one.short ≡ false) l) whole (inv.4 e)
