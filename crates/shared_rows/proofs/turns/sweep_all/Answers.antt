use Rattle.shared_rows.proofs.turns.sweep_all.Goals as goal

pub loop-turn-init : goal.loop-turn-init
loop-turn-init g c = g.met.G.Gate.since_same c.args.gate.now

pub loop-turn-preserved : goal.loop-turn-preserved
loop-turn-preserved g c = g.met.G.Gate.since_more c.args.gate.now c.loop-turn.gate c.sweep_delete-swept.new.self c.loop-turn.invariant c.sweep_delete-swept.ensures.later
