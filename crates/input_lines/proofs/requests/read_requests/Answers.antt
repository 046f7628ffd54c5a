use Rattle.std.proofs.Common.{arith, subst}
use Rattle.input_lines.specs.Asking.{GoesOrEnds}
use Rattle.input_lines.specs.Held.{held as in_hand}
use Rattle.input_lines.proofs.requests.read_requests.Goals as goal

pub returns-in-Some-clause-reads : goal.returns-in-Some-clause-reads
returns-in-Some-clause-reads g c text told =
    subst (GoesOrEnds text (g.R.Source.left c.take_next.new.input) (in_hand c.take_next.new.lines) c.take_next.new.lines.taken c.take_next.new.taken.requests.items c.take_next.new.taken.clients.keys)
    c.in-Some.is (c.in_ok-end.ensures.goes text (c.lines.invariant.going text told))

pub lines-preserved : goal.lines-preserved
lines-preserved g c = record {
  going = λ text told.
      subst (GoesOrEnds text (g.R.Source.left c.take_next.new.input) (in_hand c.take_next.new.lines) c.take_next.new.lines.taken c.take_next.new.taken.requests.items c.take_next.new.taken.clients.keys)
      c.in_default.is (c.in_ok-end.ensures.goes text (c.lines.invariant.going text told));
  read = omega (arith, c.lines.invariant.read, c.in_ok-end.ensures.cause.later);
}
