use Rattle.std.proofs.Common.{[], arith}
use Rattle.meta_journal.specs.Reading.{members}
use Rattle.meta_journal.proofs.Steps.{members_end, members_more, members_fault}
use Rattle.meta_journal.proofs.fields.members_from.Goals as goal

pub returns-in-Err-clause-exact : goal.returns-in-Err-clause-exact
returns-in-Err-clause-exact g c = members_fault (g.M.Member.step c.args.bytes.now) c.args.count c.loop-taken.taken c.loop-taken.list c.loop-taken.next (members (g.M.Member.step c.args.bytes.now) c.args.count [] c.args.start) c.loop-taken.invariant.so_far c.in-Err.fault (omega arith) (rw c.as_slice.ensures at c.in-Err.ensures.exact)

pub loop-taken-preserved : goal.loop-taken-preserved
loop-taken-preserved g c = record {
  so_far = rw c.in_ok-push-in-Ok.ensures.ok (members_more (g.M.Member.step c.args.bytes.now) c.args.count c.loop-taken.taken c.loop-taken.list c.loop-taken.next (members (g.M.Member.step c.args.bytes.now) c.args.count [] c.args.start) c.loop-taken.invariant.so_far c.in-Ok.member c.in-Ok.behind (omega arith) (rw c.as_slice.ensures at c.in-Ok.ensures.exact));
  within = c.in-Ok.ensures.within;
}

pub returns-clause-exact : goal.returns-clause-exact
returns-clause-exact g c = members_end (g.M.Member.step c.args.bytes.now) c.args.count c.loop-taken.taken c.loop-taken.list c.loop-taken.next (members (g.M.Member.step c.args.bytes.now) c.args.count [] c.args.start) c.loop-taken.invariant.so_far (omega arith)
