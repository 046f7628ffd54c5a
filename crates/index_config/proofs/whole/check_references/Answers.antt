use Rattle.std.proofs.Common.{◌++◌, refl, ap, ◌∙◌}
use Rattle.toml.specs.Data.{as_str}
use Rattle.toml.specs.View.{view}
use Rattle.index_config.specs.Rules.{member_path}
use Rattle.index_config.specs.Fields.{serves, reference_by, reference_faults}
use Rattle.index_config.proofs.Turns.{turn}
use Rattle.index_config.proofs.whole.check_references.Goals as goal

pub loop-number-preserved : goal.loop-number-preserved
loop-number-preserved c =
    let at = c.loop-number.number in
    let item = c.index-items-number.result in
    turn (reference_faults c.args.purpose c.args.raws.now c.args.place.now)
    (λ d. reference_by (serves c.args.purpose (as_str d) c.args.raws.now) (member_path c.args.place.now at)) c.args.items.now at item _ _ _ (λ d ds. refl)
    c.loop-number-test.true c.index-items-number.is
    (c.in_ok-bad_reference_unless.ensures
    ∙ ap (λ s. c.loop-number.faults ++ reference_by s c.in_ok-path.path) (c.serves.ensures c.args.purpose c.args.raws.now c.in_ok-paths.ensures)
    ∙ ap (λ p. c.loop-number.faults ++ reference_by (serves c.args.purpose (as_str (view item)) c.args.raws.now) p) c.in_ok-path.ensures)
    c.loop-number.invariant
