use Rattle.std.proofs.Common.{◌≡◌, ◌++◌}
use Rattle.agg_model.specs.Listed.{listed, slot_at}
use Rattle.agg_model.proofs.ranking.push_wholes.Given as goal

abbrev pub invariant-loop-whole : goal.invariant-loop-whole
invariant-loop-whole l = l.all.items ++ listed (slot_at l.kind) l.whole-iterator ≡ l.initial.all.items ++ listed (slot_at l.kind) l.tallies.entries
