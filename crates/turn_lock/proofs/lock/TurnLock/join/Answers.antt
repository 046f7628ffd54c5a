use Rattle.std.proofs.Common.{rules, ◌≡◌, max, length, sym, ap, ◌∙◌, arith}
use Rattle.turn_lock.proofs.Beginnings.{longer_length, longer_max}
use Rattle.turn_lock.proofs.Places.{low_append}
use Rattle.turn_lock.specs.Turns.{joined, informed}
use Rattle.turn_lock.proofs.Keeps.{joins, takes_in}
use Rattle.turn_lock.proofs.lock.TurnLock.join.Goals as goal

pub join_seat-requires : goal.join_seat-requires
join_seat-requires g c = let t = g.V.HasHistory in let p = c.args.pass.now in let o = c.args.other in let idle = c.requires.idle in
    (search rules, search rules, search rules, search rules, joins t.start t.history t.stands t.rests _ _ _ _ _ _ idle.0.1 p.alive idle.1.0 idle.1.1 o.alive)

pub load-pass-requires : goal.load-pass-requires
load-pass-requires g c = let t = g.V.HasHistory in let me = c.join_seat.ensures.2 in (search rules, search rules, takes_in t.start t.history t.stands t.rests _ _ _ _ _ (ap (λ m. m.0.holding) me ∙ c.requires.idle.0.1))

pub invariant_of-pass : goal.invariant_of-pass
invariant_of-pass g c = let p = c.args.pass.now in let o = c.args.other in
    let took = c.load-pass.ensures.2.0 in let now : c.load-pass.new.seat.me.0 ≡ informed (joined p.seat.me.0 o.seat.me.0) = ap (λ m. m.0) took ∙ ap (λ m. informed m.0) c.join_seat.ensures.2 in
    let long = longer_length p.seat.me.0.seen o.seat.me.0.seen in record {
      counted = c.max-pass.ensures ∙ (λ i. max (p.counted i) (o.counted i)) ∙ longer_max p.seat.me.0.seen o.seat.me.0.seen ∙ ap (λ x. length x.seen) (sym now);
      alive = ap (λ x. x.spent) now ∙ p.alive;
      settled = ap (λ x. x.told) now;
      whole = rw now (omega (arith, p.whole));
      low = rw now (low_append _ _ _ p.seat.me.0.places o.seat.me.0.places p.low o.low long.0 long.1);
    }
