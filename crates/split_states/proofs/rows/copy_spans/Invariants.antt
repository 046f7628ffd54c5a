use Rattle.std.proofs.Common.{◌≡◌, ◌++◌, take}
use Rattle.split_states.proofs.rows.copy_spans.Given as goal

abbrev pub invariant-loop-span : goal.invariant-loop-span
invariant-loop-span l = l.into.items ≡ l.initial.into.items ++ take l.span-index l.spans
