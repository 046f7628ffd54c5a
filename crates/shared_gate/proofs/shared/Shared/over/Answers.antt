use Rattle.std.proofs.Common.{◌≡◌, ℕ}
use Rattle.std.specs.Prelude.{Option, Some, None}
use Rattle.shared_gate.proofs.shared.Shared.over.Goals as goal

pub invariant_of-result : goal.invariant_of-result
invariant_of-result g c = record {
  of_lock = c.requires.pass.0;
  idle = c.requires.pass.1;
  homed = λ place is. (let bad : ◌≡◌ {A = Option ℕ} None (Some place) = is in absurd (cc bad));
  formed = c.requires.formed;
}
