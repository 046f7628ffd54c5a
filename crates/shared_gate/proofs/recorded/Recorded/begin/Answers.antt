use Rattle.std.proofs.Common.{◌≡◌, ◌<◌, ◌^◌, ℕ, refl, subst, sym}
use Rattle.std.specs.Prelude.{IfSome}
use Rattle.shared_gate.proofs.recorded.Recorded.begin.Goals as goal

pub returns-clause-clock : goal.returns-clause-clock
returns-clause-clock g c = record {
  clock = c.set.new.self;
  asked = record {
    low = subst (λ (n : ℕ). n < 2 ^ 62) (sym c.set.ensures) c.now-moment.ensures.below;
    as_told = subst (λ (n : ℕ). IfSome (g.K.Clock.told c.args.self.now.clock) (λ told. n ≡ told)) (sym c.set.ensures) c.now-moment.ensures.told;
    still_tells = c.now-moment.ensures.still_tells;
  };
  world = refl;
}
