use Rattle.node_run.specs.Each.{ChangedUpTo}
use Rattle.node_run.specs.Restarting.{Dropped}
use Rattle.node_run.proofs.drive.restart_clients.Given as goal

abbrev pub invariant-loop-i : goal.invariant-loop-i
invariant-loop-i l = ChangedUpTo Dropped l.i l.initial.clients l.clients
