use Rattle.std.proofs.Common.{◌≡◌, drop}
use Rattle.query_reader.specs.Resolve.{bad_members}
use Rattle.query_reader.proofs.asked.bad_members.Given as goal

abbrev pub invariant-loop-member : goal.invariant-loop-member
invariant-loop-member l = bad_members l.text l.kind (drop l.member-index l.members) ≡ bad_members l.text l.kind l.members
