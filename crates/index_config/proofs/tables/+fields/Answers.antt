use Rattle.std.proofs.Common.{◌++◌, refl, sym, ap, ◌∙◌, arith}
use Rattle.std.specs.Prelude.{codes}
use Rattle.std.proofs.lemmas.Result.{on_ok_weaker}
use Rattle.toml.specs.View.{view}
use Rattle.index_config.specs.Rules.{under}
use Rattle.index_config.specs.Tables.{each_fault, member_at}
use Rattle.index_config.proofs.Turns.{turn}
use Rattle.index_config.proofs.Nesting.{step-member}
use Rattle.index_config.proofs.tables.+fields.Goals as goal

pub check_levels-returns : goal.check_levels-returns
check_levels-returns t c = λ path number at table.
    on_ok_weaker c.check_fields.result
    (step-member c.args.levels path number _ _ _ _ _ _ table (omega arith) c.type_of-field_type.ensures (sym c.is_object.ensures ∙ c.if-not-is_object.false) at c.in_ok-check_field.ensures)
    c.check_fields.ensures

pub check_fields-loop-number-preserved : goal.check_fields-loop-number-preserved
check_fields-loop-number-preserved t c =
    let at = c.loop-number.number in
    let place = under c.args.here.now.path (codes "field_mappings") in
    turn (each_fault (member_at c.args.levels place)) (member_at c.args.levels place at) c.items_at-items.result.now at
    c.index-items-number.result _ _ _ (λ d ds. refl) c.loop-number-test.true c.index-items-number.is
    (c.in_default.ensures ∙ ap (λ p. c.loop-number.faults ++ member_at c.args.levels p at (view c.index-items-number.result)) c.in_ok-list_path.ensures) c.loop-number.invariant
