use Rattle.std.proofs.Common.{◌≡◌, sym, ap, ◌∙◌, subst}
use Rattle.turn_lock.proofs.Keeps.{closes}
use Rattle.turn_lock.proofs.Places.{whole_seen}
use Rattle.turn_lock.proofs.lock.TurnLock.close.Goals as goal

pub unreachable-requires : goal.unreachable-requires
unreachable-requires g c = let t = g.V.HasHistory in let p = c.args.pass in let e = closes t.start t.history t.stands t.rests _ _ _ p.seat.me.0 _ _ _ c.close_with-closed.ensures.values.2 c.take-slot.ensures.value c.requires.idle.1 p.alive c.requires.all in
    c.in_default.not-Some e.0 e.1

pub returns-clause-value : goal.returns-clause-value
returns-clause-value g c = let t = g.V.HasHistory in let p = c.args.pass in let e = closes t.start t.history t.stands t.rests _ _ _ p.seat.me.0 _ _ _ c.close_with-closed.ensures.values.2 c.take-slot.ensures.value c.requires.idle.1 p.alive c.requires.all in
    let same : c.in-Some.value ≡ e.0 = cc (e.1, c.in-Some.is) in (subst t.stands (sym same) e.3, ap t.start same ∙ e.2)

pub returns-clause-places : goal.returns-clause-places
returns-clause-places g c = let t = g.V.HasHistory in let p = c.args.pass in let e = closes t.start t.history t.stands t.rests _ _ _ p.seat.me.0 _ _ _ c.close_with-closed.ensures.values.2 c.take-slot.ensures.value c.requires.idle.1 p.alive c.requires.all in
    let same : c.in-Some.value ≡ e.0 = cc (e.1, c.in-Some.is) in rw same e.5

pub returns-clause-seen : goal.returns-clause-seen
returns-clause-seen g c = let t = g.V.HasHistory in let p = c.args.pass in let e = closes t.start t.history t.stands t.rests _ _ _ p.seat.me.0 _ _ _ c.close_with-closed.ensures.values.2 c.take-slot.ensures.value c.requires.idle.1 p.alive c.requires.all in
    let same : c.in-Some.value ≡ e.0 = cc (e.1, c.in-Some.is) in rw same (whole_seen _ _ p.seat.me.0.places e.4 p.low e.5)
