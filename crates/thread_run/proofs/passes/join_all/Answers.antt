use Rattle.std.proofs.Common.{◌≡◌, ◌∙◌, ◌++◌, ◌+◌, ◌∷◌, [], ap, append_assoc, append-nil, arith, refl, rules, subst, sym}
use Rattle.std.proofs.lemmas.List.{nil_from_length}
use Rattle.std.specs.List.{AllByRecursion}
use Rattle.std.specs.Vec.Iter.{into_iter_items}
use mathlib.Core.List.{IsPrefix}
use Rattle.turn_lock.specs.Counts.{times, total}
use Rattle.turn_lock.specs.Passes.{IsIdle, IsOf, parts, places, seen}
use Rattle.turn_lock.proofs.Beginnings.{prefix_self, prefix_trans}
use Rattle.thread_run.proofs.Joining.{all_at, all_snoc, all_weaker, times_append, total_snoc}
use Rattle.thread_run.proofs.passes.join_all.Goals as goal

pub loop-other-init : goal.loop-other-init
loop-other-init g c = (tt, tt, search rules, c.requires.lock, prefix_self (seen c.args.pass.now), tt, λ place. omega arith, omega arith)

pub loop-other-preserved : goal.loop-other-preserved
loop-other-preserved g c =
    let p = c.loop-other.pass in
    let q = c.join.new.pass in
    let other = c.in-Some.other in
    let taken : (c.loop-other.yielded ++ other ∷ []) ++ into_iter_items c.next.new.self ≡ c.args.others.items =
    append_assoc c.loop-other.yielded (other ∷ []) (into_iter_items c.next.new.self) ∙ (ap (λ l. c.loop-other.yielded ++ l) (sym c.in-Some.ensures.steps.0) ∙ c.loop-other.invariant.2) in
    let begins = c.join.ensures.begins in (
      tt,
      tt,
      taken,
      (c.join.ensures.lock, c.join.ensures.idle),
      prefix_trans (seen c.args.pass.now) (seen p) (seen q) c.loop-other.invariant.4 begins.0,
      all_snoc (λ o. IsPrefix (seen o) (seen q)) c.loop-other.yielded other
          (all_weaker (λ o. IsPrefix (seen o) (seen p)) (λ o. IsPrefix (seen o) (seen q)) c.loop-other.yielded (λ o h. prefix_trans (seen o) (seen p) (seen q) h begins.0) c.loop-other.invariant.5) begins.1,
      λ place. (
          let so_far = c.loop-other.invariant.6 place in
          let here = ap (λ l. times place l) c.join.ensures.places in
          let both = times_append place (places p) (places other) in
          let more = total_snoc (λ o. times place (places o)) c.loop-other.yielded other in
          omega (arith, so_far, here, both, more)),
      (let so_far = c.loop-other.invariant.7 in
          let more = total_snoc (λ o. parts o) c.loop-other.yielded other in
          let counts = c.join.ensures.counts.0 in
          omega (arith, so_far, more, counts)),
    )

pub returns-clause-places : goal.returns-clause-places
returns-clause-places g c place =
    let none : into_iter_items c.loop-other.other-iterator ≡ [] = nil_from_length c.loop-other.other-iterator.rest.items (omega (arith, c.in-None.ensures.steps.0, c.loop-other.other-iterator.rest.ok)) in
    let whole : c.loop-other.yielded ≡ c.args.others.items = sym (append-nil c.loop-other.yielded) ∙ (ap (λ l. c.loop-other.yielded ++ l) (sym none) ∙ c.loop-other.invariant.2) in
    c.loop-other.invariant.6 place ∙ ap (λ l. times place (places c.args.pass.now) + total (λ other. times place (places other)) l) whole
