use Rattle.std.proofs.Common.{[]}
use Rattle.serde_json.specs.Data.{members_depth}
use Rattle.serde_json.specs.View.{members_view}
use Rattle.doc_mapping.proofs.Gathering.{StandsAt}
use Rattle.doc_mapping.proofs.walk.flat_faults.Given as goal

abbrev pub invariant-loop-key : goal.invariant-loop-key
invariant-loop-key l =
    StandsAt l.config [] (members_view l.fn.map.entries) (members_depth (members_view l.fn.map.entries)) l.initial.parts.items (members_view l.key-iterator) l.parts.items
