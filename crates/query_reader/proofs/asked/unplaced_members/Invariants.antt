use Rattle.std.proofs.Common.{◌≡◌, drop}
use Rattle.query_reader.specs.Resolve.{unplaced_members}
use Rattle.query_reader.proofs.asked.unplaced_members.Given as goal

abbrev pub invariant-loop-member : goal.invariant-loop-member
invariant-loop-member l = unplaced_members l.text l.field (drop l.member-index l.members) ≡ unplaced_members l.text l.field l.members
