use Rattle.std.proofs.Common.{◌≡◌, ◌++◌, drop, map}
use Rattle.query_reader.specs.Resolve.{item_of}
use Rattle.query_reader.proofs.asked.items_of.Given as goal

abbrev pub invariant-loop-member : goal.invariant-loop-member
invariant-loop-member l = l.items ++ map (item_of l.text) (drop l.member-index l.members) ≡ map (item_of l.text) l.members
