use Rattle.std.proofs.Common.{◌≡◌, ◌+◌, ◌<◌, ◌∷◌, ◌++◌, length, get_or, drop, string_bytes, sym, ap, ◌∙◌, arith}
use Rattle.std.proofs.lemmas.List.{drop_more}
use Rattle.std.proofs.lemmas.Str.{IsUtf8-string_bytes}
use Rattle.serde_json.specs.View.{view, items_view, members_view}
use Rattle.doc_value.specs.Documents.{mapped_fields}
use Rattle.dynamic_paths.specs.Leaves.{items_leaves, members_leaves, is_field}
use Rattle.dynamic_paths.specs.Walk.{noted_all}
use Rattle.dynamic_paths.proofs.Fronts.{splits_behind, cut_back}
use Rattle.dynamic_paths.proofs.Noting.{next_item, next_field, next_key}
use Rattle.dynamic_paths.proofs.walk.+walk.Goals as goal
use Rattle.dynamic_paths.proofs.walk.+walk.Goals.{members_leaves-then-not-is_field+in_ok-value_leaves, members_leaves-else-not-is_field}

pub items_leaves-loop-item-preserved : goal.items_leaves-loop-item-preserved
items_leaves-loop-item-preserved t c =
    let fields = mapped_fields c.args.schema.now in
    let path = string_bytes c.args.path.now in
    let vs = c.args.items.now.items in
    let x = c.item-item.result in
    let i = c.loop-item.item-index in
    let within : i < length vs = omega (arith, c.loop-item-test.true, ap length c.deref-item-items.ensures.value) in
    let rest : drop i vs ≡ x ∷ drop (i + 1) vs =
    drop_more vs i x within ∙ ap (λ y. y ∷ drop (i + 1) vs) (sym (c.item-item.is ∙ ap (λ l. get_or l i x) c.deref-item-items.ensures.value)) in (
      c.in_ok-value_leaves.ensures.path ∙ c.loop-item.invariant.0,
      c.loop-item.invariant.1
          ∙ ap (λ l. noted_all (items_leaves fields path (items_view l)) c.loop-item.gathered) rest
          ∙ next_item fields path (string_bytes c.loop-item.path) (view x) (items_view (drop (i + 1) vs)) c.loop-item.gathered c.value_leaves.new.gathered c.loop-item.invariant.0 c.in_ok-value_leaves.ensures.noted,
    )

pub members_leaves-truncate-requires : goal.members_leaves-truncate-requires
members_leaves-truncate-requires t c = λ _.
    let start = string_bytes c.args.path.now in
    let key = string_bytes c.in-Some.key.now in
    let joined : string_bytes c.push_str.new.self ≡ start ++ key =
    c.in_ok-push_str.ensures.bytes ∙ ap (λ z. z ++ c.as_str.result.now) c.loop-key.invariant.0 ∙ ap (λ z. start ++ z) c.as_str.ensures.value in
    let whole : string_bytes c.if-not-is_field.path ≡ start ++ key = elim c.if-not-is_field.branch [
      | members_leaves-then-not-is_field+in_ok-value_leaves w ↦ ap string_bytes w.path-is ∙ w.in_ok-value_leaves.ensures.path ∙ joined
      | members_leaves-else-not-is_field w ↦ ap string_bytes w.path-is ∙ joined
    ] in
    splits_behind (string_bytes c.if-not-is_field.path) start key c.len-start.result (c.len-start.ensures ∙ c.args.path.now.bytes.ok.0) whole (IsUtf8-string_bytes c.in-Some.key.now)

pub members_leaves-loop-key-preserved : goal.members_leaves-loop-key-preserved
members_leaves-loop-key-preserved t c =
    let fields = mapped_fields c.args.schema.now in
    let start = string_bytes c.args.path.now in
    let key = string_bytes c.in-Some.key.now in
    let at = string_bytes c.push_str.new.self in
    let value = view c.in-Some.value.now in
    let left = members_view c.next.new.self in
    let joined : at ≡ start ++ key =
    c.in_ok-push_str.ensures.bytes ∙ ap (λ z. z ++ c.as_str.result.now) c.loop-key.invariant.0 ∙ ap (λ z. start ++ z) c.as_str.ensures.value in
    let whole : string_bytes c.if-not-is_field.path ≡ start ++ key = elim c.if-not-is_field.branch [
      | members_leaves-then-not-is_field+in_ok-value_leaves w ↦ ap string_bytes w.path-is ∙ w.in_ok-value_leaves.ensures.path ∙ joined
      | members_leaves-else-not-is_field w ↦ ap string_bytes w.path-is ∙ joined
    ] in
    let tested : c.is_field.result ≡ is_field fields at = c.is_field.ensures ∙ ap (is_field fields) c.as_bytes.ensures.value in
    let noted : noted_all (members_leaves fields start (members_view c.loop-key.key-iterator)) c.loop-key.gathered ≡ noted_all (members_leaves fields start left) c.if-not-is_field.gathered =
    ap (λ es. noted_all (members_leaves fields start (members_view es)) c.loop-key.gathered) c.in-Some.ensures.steps
    ∙ (elim c.if-not-is_field.branch [
      | members_leaves-then-not-is_field+in_ok-value_leaves w ↦
          next_key fields start key at value left c.loop-key.gathered c.if-not-is_field.gathered joined (sym tested ∙ w.if-not-is_field.true) (w.gathered-is ∙ w.in_ok-value_leaves.ensures.noted)
      | members_leaves-else-not-is_field w ↦
          next_field fields start key at value left c.loop-key.gathered joined (sym tested ∙ w.if-not-is_field.false) ∙ ap (noted_all (members_leaves fields start left)) (sym w.gathered-is)
    ]) in (
      c.truncate.ensures.bytes ∙ cut_back (string_bytes c.if-not-is_field.path) start key c.len-start.result (c.len-start.ensures ∙ c.args.path.now.bytes.ok.0) whole,
      c.loop-key.invariant.1 ∙ noted,
    )
