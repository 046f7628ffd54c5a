use Rattle.std.proofs.Common.{ℕ, List, ◌++◌, refl, sym, ap, ◌∙◌, arith}
use Rattle.std.proofs.lemmas.Result.{on_ok_weaker}
use Rattle.toml.specs.Data.{Data}
use Rattle.toml.specs.View.{view}
use Rattle.index_config.specs.Rules.{under, member_path}
use Rattle.index_config.specs.Tables.{is_object}
use Rattle.index_config.specs.Fields.{each_raw, raw_member}
use Rattle.index_config.proofs.Turns.{turn}
use Rattle.index_config.proofs.Nesting.{step-raws}
use Rattle.index_config.proofs.fields.+raws.Goals as goal

pub push_member-returns-in-Ok : goal.push_member-returns-in-Ok
push_member-returns-in-Ok t c =
    on_ok_weaker c.push_fields-pushed.result
    (step-raws c.args.levels c.args.place.now c.args.path.now _ _ _ _ _ _ _ _ (omega arith) (ap is_object (sym c.type_of.ensures) ∙ sym c.is_object.ensures ∙ c.if-not-is_object.false) c.in_ok-raw_field.ensures c.in_ok-push.ensures.ok
    c.in_ok-inner_place.ensures (c.in-Ok.ensures ∙ ap (under c.args.path.now) c.name_of.ensures) c.items_at-items.ensures)
    c.push_fields-pushed.ensures

pub push_fields-loop-number-preserved : goal.push_fields-loop-number-preserved
push_fields-loop-number-preserved t c =
    let at = c.loop-number.number in
    let member = λ (p : List ℕ) (e : Data). raw_member c.args.levels p c.args.path.now e in
    turn (each_raw (λ n e. member (member_path c.args.list_place.now n) e)) (λ e. member (member_path c.args.list_place.now at) e) c.args.items.now at c.index-items-number.result _ _ _
    (λ d ds. refl) c.loop-number-test.true c.index-items-number.is
    (c.in_ok-pushed.ensures ∙ ap (λ p. c.loop-number.raws ++ member p (view c.index-items-number.result)) c.in_ok-place.ensures) c.loop-number.invariant
