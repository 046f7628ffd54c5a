use Rattle.std.proofs.Common.{rules, ◌∷◌, Some, sym, ap, ◌∙◌}
use Rattle.atomic_table.specs.Table.{rest}
use Rattle.turn_lock.proofs.Keeps.{draws}
use Rattle.turn_lock.proofs.lock.TurnLock.turn.Goals as goal

pub fetch_add-ticket-requires : goal.fetch_add-ticket-requires
fetch_add-ticket-requires g c = let t = g.V.HasHistory in let idle = c.requires.idle in (search rules, search rules, draws t.start t.history t.stands t.rests _ _ _ _ _ idle.0 idle.1 c.args.pass.now.alive)

pub exchange-lent-requires : goal.exchange-lent-requires
exchange-lent-requires g c = let took = c.await_ticket.ensures.took in let out = ap (λ m. m.1) took.1 in (search rules, (Some took.0, out ∙ ap (λ cs. (0, Some took.0) ∷ rest cs) (sym out)))
