use Rattle.std.proofs.Common.{◌≡◌, ◌+◌, ◌++◌, ◌<◌, ℕ}
use Rattle.thread_run.specs.Sharing.{turns_of}
use Rattle.thread_run.proofs.turning.turns_of.Given as goal

abbrev pub invariant-loop : goal.invariant-loop
invariant-loop l = (rest : ℕ) × (l.counter + rest ≡ l.long) × (l.next < l.count) × (l.turns.items ++ turns_of l.count l.next rest ≡ turns_of l.count 0 l.long)
