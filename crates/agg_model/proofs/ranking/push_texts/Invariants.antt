use Rattle.std.proofs.Common.{◌≡◌, ◌++◌}
use Rattle.agg_model.specs.Listed.{listed, text_slot}
use Rattle.agg_model.proofs.ranking.push_texts.Given as goal

abbrev pub invariant-loop-text : goal.invariant-loop-text
invariant-loop-text l = l.all.items ++ listed text_slot l.text-iterator ≡ l.initial.all.items ++ listed text_slot l.tallies.entries
