use Rattle.std.proofs.Common.{◌≡◌, ◌∙◌, false, refl, sym, true}
use Rattle.thread_run.proofs.Did.{true_false}
use Rattle.thread_run.proofs.threads.settled.Goals as goal

pub returns : goal.returns
returns g c = record {
  short = λ e. absurd (true_false (sym e ∙ c.if-end.false));
  settled = λ e. record { result = c.settle-world.result.1; settles = c.settle-world.ensures; told = c.told-settled.ensures; logs = refl; replies = refl; ends = refl };
}
