use Rattle.std.proofs.Common.{ℕ, List, ◌++◌, refl, ap, ◌∙◌}
use Rattle.toml.specs.Data.{Data}
use Rattle.toml.specs.View.{view}
use Rattle.index_config.specs.Rules.{member_path, scalar_faults, items_faults}
use Rattle.index_config.proofs.Turns.{turn}
use Rattle.index_config.proofs.checks.check_items.Goals as goal

pub loop-number-preserved : goal.loop-number-preserved
loop-number-preserved c =
    let at = c.loop-number.number in
    let part = λ (p : List ℕ) (d : Data). scalar_faults c.args.rule p d in
    turn (items_faults c.args.rule c.args.path.now) (part (member_path c.args.path.now at)) c.args.items.now at c.index-items-number.result _ _ _ (λ d ds. refl)
    c.loop-number-test.true c.index-items-number.is
    (c.in_ok-check_scalar.ensures ∙ ap (λ p. c.loop-number.faults ++ part p (view c.index-items-number.result)) c.in_ok-place.ensures) c.loop-number.invariant
