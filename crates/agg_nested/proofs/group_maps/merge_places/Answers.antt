use Rattle.std.proofs.Common.{ℕ, ◌∷◌, nat_eq}
use Rattle.std.proofs.lemmas.Bool.Decides.{Decides-eqb}
use Rattle.std.proofs.lemmas.Cmp.{nat_eq_equiv}
use Rattle.std.proofs.lemmas.Map.Keys.{IsDistinct-tail}
use Rattle.std.specs.HashMap.{get}
use Rattle.std.specs.Map.{lookup, keys_of}
use Rattle.agg_model.proofs.Entries.{none_left}
use Rattle.agg_nested.proofs.Joining.{first_left, left_more, can_join_left}
use Rattle.agg_nested.proofs.group_maps.merge_places.Goals as goal

pub join_place-requires : goal.join_place-requires
join_place-requires c =
    let q : ℕ = c.in-Some.place.now in
    let before = rw c.in-Some.ensures.steps at c.loop-place.invariant.0 in
    can_join_left c.args.nested.now (get nat_eq c.args.groups.now) (get nat_eq c.args.others.now) (get nat_eq c.loop-place.groups)
    (λ (n : ℕ). lookup (nat_eq n) ((c.in-Some.place.now, c.in-Some.other.now) ∷ c.next.new.self)) q c.in-Some.other.now before
    (first_left (λ (n : ℕ). n) nat_eq Decides-eqb c.in-Some.place.now c.in-Some.other.now c.next.new.self) (c.requires q)

pub loop-place-preserved : goal.loop-place-preserved
loop-place-preserved c =
    let apart = rw c.in-Some.ensures.steps at c.loop-place.invariant.1 in
    let before = rw c.in-Some.ensures.steps at c.loop-place.invariant.0 in
    let none = none_left nat_eq nat_eq_equiv c.in-Some.place.now c.in-Some.other.now c.next.new.self apart in (
      left_more (λ (n : ℕ). n) nat_eq Decides-eqb c.args.nested.now
          (get nat_eq c.args.groups.now) (get nat_eq c.args.others.now) (get nat_eq c.loop-place.groups) (get nat_eq c.join_place.new.groups)
          (nat_eq c.in-Some.place.now) c.in-Some.place.now c.in-Some.other.now c.next.new.self (Decides-eqb c.in-Some.place.now) before c.in_ok-join_place.ensures none,
      IsDistinct-tail nat_eq c.in-Some.place.now (keys_of c.next.new.self) apart,
    )
