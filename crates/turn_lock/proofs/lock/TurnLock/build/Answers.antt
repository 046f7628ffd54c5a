use Rattle.std.proofs.Common.{rules, ◌≡◌, ℕ, ◌^◌, ◌<◌, [], ◌∷◌, length, Some, refl, sym, ap, ◌∙◌, arith}
use Rattle.turn_lock.specs.Turns.{first_view}
use Rattle.turn_lock.proofs.Keeps.{opens}
use Rattle.turn_lock.proofs.Places.{low_run, rises_run}
use Rattle.turn_lock.proofs.lock.TurnLock.build.Goals as goal

pub new-requires : goal.new-requires
new-requires g c = let t = g.V.HasHistory in let x = c.args.value in let items : c.push.new.self.items ≡ Some x ∷ [] = search rules in let is : c.of.result.value ≡ x = search rules in
    let small : c.args.passes < 2 ^ 32 = search rules in
    rw (items, is) (opens t.start t.history t.stands t.rests (t.start x) c.args.passes x c.events-events.result refl c.requires.stands c.events-events.ensures c.requires.passes small c.requires.rests)

pub invariant_of-result-in-Ok : goal.invariant_of-result-in-Ok
invariant_of-result-in-Ok g c = let t = g.V.HasHistory in let x = c.args.value in let is : c.of.result.value ≡ x = search rules in
    let made : c.in-Ok.seat.me ≡ (first_view (t.start c.of.result.value) (t.history c.of.result.value) c.args.passes, []) = search rules in
    let me : c.in-Ok.seat.me ≡ (first_view (t.start x) (t.history x) c.args.passes, []) = made ∙ ap (λ z. (first_view (t.start z) (t.history z) c.args.passes, [])) is in
    let n : ℕ = length (t.history x) in record {
      counted = c.events-events.ensures ∙ ap (λ m. length m.0.seen) (sym me);
      alive = ap (λ m. m.0.spent) me;
      settled = ap (λ m. m.0.told) me;
      whole = rw me (omega (arith, c.requires.passes));
      low = rw me (low_run n);
    }

pub returns-in-Ok-clause-rises : goal.returns-in-Ok-clause-rises
returns-in-Ok-clause-rises g c = let t = g.V.HasHistory in let x = c.args.value in let is : c.of.result.value ≡ x = search rules in
    let made : c.in-Ok.seat.me ≡ (first_view (t.start c.of.result.value) (t.history c.of.result.value) c.args.passes, []) = search rules in
    rw made (rises_run 0 (length (t.history c.of.result.value)))
