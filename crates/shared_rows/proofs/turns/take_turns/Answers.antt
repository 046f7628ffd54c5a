use Rattle.std.proofs.Common.{◌≡◌, subst, sym}
use Rattle.turn_lock.specs.Passes.{IsIdle, IsOf, parts}
use Rattle.shared_rows.proofs.turns.take_turns.Goals as goal

pub returns : goal.returns
returns g c =
    let w = c.sweep_all-all.new.gate in
    let s = c.sweep_all-all.ensures in
    subst (λ p. IsOf c.args.gate.lock.now p × IsIdle p × (parts p ≡ parts c.args.gate.pass)) (sym c.into_pass.ensures) (subst (λ l. IsOf l w.pass) s.lock w.of_lock, w.idle, s.parts)
