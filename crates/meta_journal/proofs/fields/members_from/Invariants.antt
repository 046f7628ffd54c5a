use Rattle.std.proofs.Common.{◌≡◌, ◌≤◌, ◌-◌, [], length}
use Rattle.meta_journal.specs.Reading.{members}
use Rattle.meta_journal.proofs.fields.members_from.Given as goal

abbrev pub invariant-loop-taken : goal.invariant-loop-taken
invariant-loop-taken g l = record {
  so_far : members (g.M.Member.step l.bytes) (l.count - l.taken) l.list l.next ≡ members (g.M.Member.step l.bytes) l.count [] l.start;
  within : l.next ≤ length l.bytes;
}
