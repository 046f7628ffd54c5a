use Rattle.shared_rows.proofs.turns.sweep_all.Given as goal

abbrev pub invariant-loop-turn : goal.invariant-loop-turn
invariant-loop-turn g l = g.G.Gate.since l.fn.gate l.gate
