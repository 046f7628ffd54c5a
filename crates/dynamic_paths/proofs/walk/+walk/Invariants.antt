use Rattle.std.proofs.Common.{◌≡◌, string_bytes, drop}
use Rattle.serde_json.specs.View.{items_view, members_view}
use Rattle.doc_value.specs.Documents.{mapped_fields}
use Rattle.dynamic_paths.specs.Leaves.{items_leaves, members_leaves}
use Rattle.dynamic_paths.specs.Walk.{noted_all}
use Rattle.dynamic_paths.proofs.walk.+walk.Given as goal

abbrev pub invariant-items_leaves-loop-item : goal.invariant-items_leaves-loop-item
invariant-items_leaves-loop-item l =
    (string_bytes l.path ≡ string_bytes l.initial.path)
    × (noted_all (items_leaves (mapped_fields l.schema) (string_bytes l.initial.path) (items_view l.items.items)) l.initial.gathered
    ≡ noted_all (items_leaves (mapped_fields l.schema) (string_bytes l.initial.path) (items_view (drop l.item-index l.items.items))) l.gathered)

abbrev pub invariant-members_leaves-loop-key : goal.invariant-members_leaves-loop-key
invariant-members_leaves-loop-key l =
    (string_bytes l.path ≡ string_bytes l.initial.path)
    × (noted_all (members_leaves (mapped_fields l.schema) (string_bytes l.initial.path) (members_view l.members.entries)) l.initial.gathered
    ≡ noted_all (members_leaves (mapped_fields l.schema) (string_bytes l.initial.path) (members_view l.key-iterator)) l.gathered)
