use Rattle.std.proofs.Common.{rules, ap, ◌∙◌}
use Rattle.turn_lock.proofs.Keeps.{looks}
use Rattle.turn_lock.proofs.lock.calls.await_ticket.Goals as goal

pub load-serving-requires : goal.load-serving-requires
load-serving-requires g c = let t = g.V.HasHistory in let same = c.loop.invariant in let w = c.requires.waits in
    (search rules, search rules, looks t.start t.history t.stands t.rests _ _ _ _ w.3.0 _ (ap (λ m. m.0.ticket) same.0 ∙ w.3.1) (ap (λ m. m.0.holding) same.0 ∙ w.0) (ap (λ m. m.0.spent) same.0 ∙ w.1) (ap (λ m. m.1) same.0 ∙ w.2))
