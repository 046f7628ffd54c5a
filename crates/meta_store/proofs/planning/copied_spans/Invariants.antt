use Rattle.std.proofs.Common.{◌≡◌, take}
use Rattle.meta_store.proofs.planning.copied_spans.Given as goal

abbrev pub invariant-loop-span : goal.invariant-loop-span
invariant-loop-span l = l.copied ≡ take l.span-index l.spans
