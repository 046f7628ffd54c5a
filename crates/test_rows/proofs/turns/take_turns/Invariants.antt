use Rattle.std.proofs.Common.{◌≡◌}
use Rattle.turn_lock.specs.Passes.{IsOf, IsIdle, parts}
use Rattle.test_rows.proofs.turns.take_turns.Given as goal

abbrev pub invariant-loop-number : goal.invariant-loop-number
invariant-loop-number g l = IsOf l.lock l.pass × IsIdle l.pass × (parts l.pass ≡ parts l.fn.pass)
