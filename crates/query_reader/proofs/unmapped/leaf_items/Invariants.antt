use Rattle.std.proofs.Common.{◌≡◌, ◌++◌, drop, map}
use Rattle.query_reader.specs.Resolve.{leaf_item}
use Rattle.query_reader.proofs.unmapped.leaf_items.Given as goal

abbrev pub invariant-loop-member : goal.invariant-loop-member
invariant-loop-member l = l.items ++ map (leaf_item l.text l.path) (drop l.member-index l.members) ≡ map (leaf_item l.text l.path) l.members
