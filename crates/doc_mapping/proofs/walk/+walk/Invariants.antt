use Rattle.std.proofs.Common.{◌+◌, ◌*◌}
use Rattle.serde_json.specs.View.{members_view}
use Rattle.doc_mapping.proofs.Gathering.{StandsAt}
use Rattle.doc_mapping.proofs.walk.+walk.Given as goal

abbrev pub decreases-members_fault : goal.decreases-members_fault
decreases-members_fault l = 4 * l.levels + 3

abbrev pub decreases-key_fault : goal.decreases-key_fault
decreases-key_fault l = 4 * l.levels + 2

abbrev pub decreases-path_fault : goal.decreases-path_fault
decreases-path_fault l = 4 * l.levels + 1

abbrev pub decreases-inner_fault : goal.decreases-inner_fault
decreases-inner_fault l = 4 * l.levels

abbrev pub invariant-members_fault-loop-key : goal.invariant-members_fault-loop-key
invariant-members_fault-loop-key l =
    StandsAt l.config l.prefix (members_view l.fn.map.entries) l.levels l.initial.parts.items (members_view l.key-iterator) l.parts.items
