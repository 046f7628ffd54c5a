use Rattle.std.proofs.Common.{ℕ, List, ◌∷◌}
use Rattle.std.proofs.lemmas.Map.Keys.{IsDistinct-tail}
use Rattle.std.proofs.lemmas.Slice.Eq.{bytes_eq-Decides}
use Rattle.std.specs.HashMap.{get_by_text}
use Rattle.std.specs.Map.{lookup, keys_of}
use Rattle.std.specs.Str.{bytes_eq}
use Rattle.std.specs.String.{string_bytes, string_eq, string_eq_equiv}
use Rattle.agg_model.proofs.Entries.{none_left}
use Rattle.agg_nested.proofs.Joining.{first_left, left_more, can_join_left}
use Rattle.agg_nested.proofs.group_maps.merge_texts.Goals as goal

pub join_text-requires : goal.join_text-requires
join_text-requires c =
    let q : List ℕ = string_bytes c.in-Some.text.now in
    let before = rw c.in-Some.ensures.steps at c.loop-text.invariant.0 in
    rw c.as_str.ensures.value (can_join_left c.args.nested.now (get_by_text c.args.groups.now) (get_by_text c.args.others.now) (get_by_text c.loop-text.groups)
    (λ (q : List ℕ). lookup (λ k. bytes_eq q (string_bytes k)) ((c.in-Some.text.now, c.in-Some.other.now) ∷ c.next.new.self)) q c.in-Some.other.now before
    (first_left string_bytes (λ q k. bytes_eq q (string_bytes k)) (λ q k. bytes_eq-Decides q (string_bytes k)) c.in-Some.text.now c.in-Some.other.now c.next.new.self) (c.requires q))

pub loop-text-preserved : goal.loop-text-preserved
loop-text-preserved c =
    let apart = rw c.in-Some.ensures.steps at c.loop-text.invariant.1 in
    let before = rw c.in-Some.ensures.steps at c.loop-text.invariant.0 in
    let none = none_left string_eq string_eq_equiv c.in-Some.text.now c.in-Some.other.now c.next.new.self apart in
    let step = rw c.as_str.ensures.value at c.in_ok-join_text.ensures in (
      left_more string_bytes (λ q k. bytes_eq q (string_bytes k)) (λ q k. bytes_eq-Decides q (string_bytes k)) c.args.nested.now
          (get_by_text c.args.groups.now) (get_by_text c.args.others.now) (get_by_text c.loop-text.groups) (get_by_text c.join_text.new.groups)
          (bytes_eq (string_bytes c.in-Some.text.now)) c.in-Some.text.now c.in-Some.other.now c.next.new.self (λ t. bytes_eq-Decides (string_bytes c.in-Some.text.now) t) before step none,
      IsDistinct-tail string_eq c.in-Some.text.now (keys_of c.next.new.self) apart,
    )
