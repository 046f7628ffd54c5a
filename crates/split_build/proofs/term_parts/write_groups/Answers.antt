use Rattle.std.proofs.Common.{◌≡◌, ◌∙◌, ◌+◌, ℕ, List, drop, length, sym, ap, subst, arith, refl}
use Rattle.std.proofs.Math.Logic.{∥∥₁_elim, ∥∥₁_map}
use Rattle.std.proofs.lemmas.List.{drop_all, length-map}
use Rattle.split_bundle.specs.Splits.{AreKeys}
use Rattle.split_build.specs.HeldKeys.{key_bytes}
use Rattle.split_build.specs.KeyGroups.{Numbered, ordered_keys}
use Rattle.split_build.proofs.GroupWriting.{all_done, are_keys, group_here, left_at, list_of_group, next_at, next_written, none_written}
use Rattle.split_build.proofs.Mere.{group_prop}
use Rattle.split_build.proofs.term_parts.write_groups.Goals as goal

pub loop-i-init : goal.loop-i-init
loop-i-init c = λ ds g.
    none_written c.vacant-writer.result c.args.schema.now ds (key_bytes c.args.keys.now) c.in_ok-order.order.items c.in_ok-order.order.items refl (c.vacant-writer.ensures c.args.schema.now ds) c.in_ok-order.ensures

pub put_group-requires : goal.put_group-requires
put_group-requires c = ∥∥₁_elim c.requires (group_prop c.index.result.now.1 c.groups_for.result.now) (λ r.
    let ds = r.0 in
    let g = r.1 in
    let left = left_at c.in_ok-order.order.items c.loop-i.i c.index.result.now (omega (arith, c.loop-i-test.true, c.len-i-end.ensures, c.in_ok-order.order.ok.0)) c.index.ensures in
    let at = next_at c.loop-i.writer c.args.schema.now ds (key_bytes c.args.keys.now) c.in_ok-order.order.items (drop c.loop-i.i c.in_ok-order.order.items) (drop (c.loop-i.i + 1) c.in_ok-order.order.items) c.index.result.now left (c.loop-i.invariant ds g) in
    let group = group_here c.args.schema.now ds (key_bytes c.args.keys.now) c.args.placed.now c.args.plain.now c.groups_for.result.now c.index.result.now.0.now c.index.result.now.1 c.keeps_places-kept.result g at c.keeps_places-kept.ensures c.groups_for.ensures in
    group.has)

pub write-requires : goal.write-requires
write-requires c = ∥∥₁_map c.requires (λ r.
    let ds = r.0 in
    let g = r.1 in
    let left = left_at c.in_ok-order.order.items c.loop-i.i c.index.result.now (omega (arith, c.loop-i-test.true, c.len-i-end.ensures, c.in_ok-order.order.ok.0)) c.index.ensures in
    let at = next_at c.loop-i.writer c.args.schema.now ds (key_bytes c.args.keys.now) c.in_ok-order.order.items (drop c.loop-i.i c.in_ok-order.order.items) (drop (c.loop-i.i + 1) c.in_ok-order.order.items) c.index.result.now left (c.loop-i.invariant ds g) in
    let group = group_here c.args.schema.now ds (key_bytes c.args.keys.now) c.args.placed.now c.args.plain.now c.groups_for.result.now c.index.result.now.0.now c.index.result.now.1 c.keeps_places-kept.result g at c.keeps_places-kept.ensures c.groups_for.ensures in (
      ds,
      list_of_group c.args.schema.now ds c.index.result.now.0.now c.keeps_places-kept.result c.deref.result.now c.deref-in-loop-i.result.now c.keeps_places-kept.ensures (c.deref.ensures.value ∙ c.in_ok-put_group.ensures.documents _ _ group) (c.deref-in-loop-i.ensures.value ∙ c.in_ok-put_group.ensures.places _ _ group)
          (key_bytes c.args.keys.now) c.args.placed.now c.args.plain.now g,
    ))

pub loop-i-preserved : goal.loop-i-preserved
loop-i-preserved c = λ ds g.
    let left = left_at c.in_ok-order.order.items c.loop-i.i c.index.result.now (omega (arith, c.loop-i-test.true, c.len-i-end.ensures, c.in_ok-order.order.ok.0)) c.index.ensures in
    let at = next_at c.loop-i.writer c.args.schema.now ds (key_bytes c.args.keys.now) c.in_ok-order.order.items (drop c.loop-i.i c.in_ok-order.order.items) (drop (c.loop-i.i + 1) c.in_ok-order.order.items) c.index.result.now left (c.loop-i.invariant ds g) in
    let group = group_here c.args.schema.now ds (key_bytes c.args.keys.now) c.args.placed.now c.args.plain.now c.groups_for.result.now c.index.result.now.0.now c.index.result.now.1 c.keeps_places-kept.result g at c.keeps_places-kept.ensures c.groups_for.ensures in
    let listed = list_of_group c.args.schema.now ds c.index.result.now.0.now c.keeps_places-kept.result c.deref.result.now c.deref-in-loop-i.result.now c.keeps_places-kept.ensures (c.deref.ensures.value ∙ c.in_ok-put_group.ensures.documents _ _ group) (c.deref-in-loop-i.ensures.value ∙ c.in_ok-put_group.ensures.places _ _ group)
    (key_bytes c.args.keys.now) c.args.placed.now c.args.plain.now g in
    next_written c.loop-i.writer c.write.new.self c.args.schema.now ds (key_bytes c.args.keys.now) c.in_ok-order.order.items (drop c.loop-i.i c.in_ok-order.order.items) (drop (c.loop-i.i + 1) c.in_ok-order.order.items) c.index.result.now left
    c.args.placed.now c.args.plain.now g c.in_ok-order.ensures (λ done rise written. c.in_ok-write.ensures ds done listed rise written) (c.loop-i.invariant ds g)

pub returns : goal.returns
returns c = λ ds g.
    let h = c.loop-i.invariant ds g in
    let none = drop_all c.loop-i.i c.in_ok-order.order.items (omega (arith, c.loop-i-test.false, c.len-i-end.ensures, c.in_ok-order.order.ok.0)) in
    let whole : h.done ≡ ordered_keys c.in_ok-order.order.items = all_done c.loop-i.writer c.args.schema.now ds (key_bytes c.args.keys.now) c.in_ok-order.order.items (drop c.loop-i.i c.in_ok-order.order.items) none h in
    record {
      keys = h.done;
      are_keys = subst (λ (ks : List (List ℕ)). AreKeys c.args.schema.now ds ks) (sym whole) (are_keys c.args.schema.now ds (key_bytes c.args.keys.now) c.in_ok-order.order.items c.args.placed.now c.args.plain.now g c.in_ok-order.ensures);
      count = omega (arith, c.len.ensures, c.in_ok-order.order.ok.0, ap (λ (ks : List (List ℕ)). length ks) whole, length-map c.in_ok-order.order.items (λ (e : Numbered). e.0.now));
      dictionary = c.finish-dictionary.ensures _ h.written.taken;
      lists = h.written.lists;
      postings = h.written.postings;
      positions = h.written.positions;
    }
