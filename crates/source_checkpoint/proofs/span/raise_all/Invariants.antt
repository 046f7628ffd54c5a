use Rattle.std.proofs.Common.{◌≡◌, ◌++◌, take, drop, map}
use Rattle.source_checkpoint.specs.Deltas.{raised}
use Rattle.source_checkpoint.proofs.span.raise_all.Given as goal

abbrev pub invariant-loop-span : goal.invariant-loop-span
invariant-loop-span l = l.spans ≡ map (raised l.upto) (take l.span-index l.initial.spans) ++ drop l.span-index l.initial.spans
