use Rattle.std.proofs.Common.{rules, ◌≡◌, ◌^◌, ◌<◌, [], ◌∷◌, length, Some, sym, ap, ◌∙◌, arith}
use Rattle.turn_lock.specs.Turns.{grown_to, rested}
use Rattle.turn_lock.proofs.Beginnings.{prefix_length}
use Rattle.turn_lock.proofs.Places.{low_grown, rises_grown}
use Rattle.turn_lock.proofs.Keeps.{appends, passes_on}
use Rattle.turn_lock.proofs.lock.TurnLock.done.Goals as goal

pub fetch_add-requires : goal.fetch_add-requires
fetch_add-requires g c = let t = g.V.HasHistory in let p = c.args.pass.now in let v = c.args.turn.value in let turn = c.requires.turn in
    let same : c.exchange-none.new.seat.me.0 ≡ p.seat.me.0 = search rules in let has : c.exchange-none.new.seat.me.1 ≡ (0, Some v) ∷ [] = search rules in
    let len = prefix_length _ _ c.requires.appended in let count : c.events-events.result ≡ length (t.history v) = search rules in let small : c.events-events.result < 2 ^ 64 = search rules in (
      search rules,
      search rules,
      appends t.start t.history t.stands t.rests _ _ _ _ _ _ v has (ap (λ x. x.holding) same ∙ turn.1) (ap (λ x. x.spent) same ∙ p.alive)
          (rw same c.requires.appended) (rw same (omega (arith, len, count, p.counted))) (omega (arith, count, small)) (rw same c.requires.rests),
    )

pub fetch_add-requires-2 : goal.fetch_add-requires-2
fetch_add-requires-2 g c = let t = g.V.HasHistory in let p = c.args.pass.now in let v = c.args.turn.value in let turn = c.requires.turn in
    let same : c.exchange-none.new.seat.me.0 ≡ p.seat.me.0 = search rules in let has : c.exchange-none.new.seat.me.1 ≡ (0, Some v) ∷ [] = search rules in
    let grew = c.fetch_add.ensures.2 v has in let now : c.fetch_add.new.seat.me.0 ≡ grown_to (t.history v) p.seat.me.0 = ap (λ m. m.0) grew ∙ ap (grown_to (t.history v)) same in (
      search rules,
      search rules,
      passes_on t.start t.history t.stands t.rests _ _ _ _ _ v (ap (λ m. m.1) grew ∙ has) (ap (λ x. x.holding) now ∙ turn.1) (ap (λ x. x.spent) now ∙ p.alive)
          (sym (ap (λ x. x.seen) now)) (ap (λ x. x.start) now ∙ (c.requires.lock.1 ∙ ap (λ z. Some z) (sym c.requires.value.1))) c.requires.value.0,
    )

pub invariant_of-pass : goal.invariant_of-pass
invariant_of-pass g c = let t = g.V.HasHistory in let p = c.args.pass.now in let v = c.args.turn.value in let len = prefix_length _ _ c.requires.appended in
    let same : c.exchange-none.new.seat.me.0 ≡ p.seat.me.0 = search rules in let has : c.exchange-none.new.seat.me.1 ≡ (0, Some v) ∷ [] = search rules in
    let grew = c.fetch_add.ensures.2 v has in let last = c.fetch_add-2.ensures.2 in
    let now : c.fetch_add-2.new.seat.me.0 ≡ rested (grown_to (t.history v) p.seat.me.0) = ap (λ m. m.0) last ∙ ap rested (ap (λ m. m.0) grew ∙ ap (grown_to (t.history v)) same) in
    let count : c.events-events.result ≡ length (t.history v) = search rules in record {
      counted = count ∙ ap (λ x. length x.seen) (sym now);
      alive = ap (λ x. x.spent) now ∙ p.alive;
      settled = ap (λ x. x.told) now ∙ p.settled;
      whole = rw now p.whole;
      low = rw now (low_grown _ _ p.seat.me.0.places p.low len);
    }

pub returns-clause-rises : goal.returns-clause-rises
returns-clause-rises g c rose = let t = g.V.HasHistory in let p = c.args.pass.now in let v = c.args.turn.value in
    let same : c.exchange-none.new.seat.me.0 ≡ p.seat.me.0 = search rules in let has : c.exchange-none.new.seat.me.1 ≡ (0, Some v) ∷ [] = search rules in
    let grew = c.fetch_add.ensures.2 v has in let last = c.fetch_add-2.ensures.2 in
    let now : c.fetch_add-2.new.seat.me.0 ≡ rested (grown_to (t.history v) p.seat.me.0) = ap (λ m. m.0) last ∙ ap rested (ap (λ m. m.0) grew ∙ ap (grown_to (t.history v)) same) in
    rw now (rises_grown _ _ p.seat.me.0.places p.low rose)
