use Rattle.std.proofs.Common.{ℤ, ◌∷◌, rules}
use Rattle.std.proofs.lemmas.Bool.Decides.{Decides-int_eq}
use Rattle.std.proofs.lemmas.Int.{to_z-of_z}
use Rattle.std.proofs.lemmas.Map.Keys.{IsDistinct-tail}
use Rattle.std.specs.Cmp.{int_eq_equiv}
use Rattle.std.specs.HashMap.{get}
use Rattle.std.specs.Int.RustNames.{FitsSigned}
use Rattle.std.specs.Map.{lookup, keys_of}
use Rattle.std.specs.Ordering.{int_eq}
use Rattle.agg_model.proofs.Entries.{none_left}
use Rattle.agg_nested.proofs.Joining.{first_left, left_more, can_join_left}
use Rattle.agg_nested.proofs.group_maps.merge_wholes.Goals as goal
use mir.Syntax.{w128}

pub join_whole-requires : goal.join_whole-requires
join_whole-requires c =
    let q : ℤ = c.in-Some.whole.now in
    let fits : FitsSigned w128 c.in-Some.whole.now = search rules in
    let before = rw c.in-Some.ensures.steps at c.loop-whole.invariant.0 in
    rw (to_z-of_z w128 c.in-Some.whole.now fits) (can_join_left c.args.nested.now (get int_eq c.args.groups.now) (get int_eq c.args.others.now) (get int_eq c.loop-whole.groups)
    (λ (z : ℤ). lookup (int_eq z) ((c.in-Some.whole.now, c.in-Some.other.now) ∷ c.next.new.self)) q c.in-Some.other.now before
    (first_left (λ (z : ℤ). z) int_eq Decides-int_eq c.in-Some.whole.now c.in-Some.other.now c.next.new.self) (c.requires q))

pub loop-whole-preserved : goal.loop-whole-preserved
loop-whole-preserved c =
    let fits : FitsSigned w128 c.in-Some.whole.now = search rules in
    let apart = rw c.in-Some.ensures.steps at c.loop-whole.invariant.1 in
    let before = rw c.in-Some.ensures.steps at c.loop-whole.invariant.0 in
    let none = none_left int_eq int_eq_equiv c.in-Some.whole.now c.in-Some.other.now c.next.new.self apart in
    let step = rw (to_z-of_z w128 c.in-Some.whole.now fits) at c.in_ok-join_whole.ensures in (
      left_more (λ (z : ℤ). z) int_eq Decides-int_eq c.args.nested.now
          (get int_eq c.args.groups.now) (get int_eq c.args.others.now) (get int_eq c.loop-whole.groups) (get int_eq c.join_whole.new.groups)
          (int_eq c.in-Some.whole.now) c.in-Some.whole.now c.in-Some.other.now c.next.new.self (Decides-int_eq c.in-Some.whole.now) before step none,
      IsDistinct-tail int_eq c.in-Some.whole.now (keys_of c.next.new.self) apart,
    )
