use Rattle.std.proofs.Common.{◌≡◌, ◌∙◌, rules, sym, subst}
use Rattle.std.specs.Prelude.{filter}
use Rattle.std.proofs.lemmas.Fn.{filter_same}
use Rattle.split_states.specs.Rows.{RowsRise}
use Rattle.split_states.proofs.Rising.{is_left, left, rise_filter}
use Rattle.split_states.proofs.rows.drop_rows.Goals as goal

pub returns-clause-rows : goal.returns-clause-rows
returns-clause-rows c = filter_same _ (is_left c.args.numbers.now) _ (λ x b f' k. search rules) _ _ c.retain.ensures.filtered ∙ left c.args.numbers.now c.args.rows.now.items

pub returns-clause-order : goal.returns-clause-order
returns-clause-order c =
    let kept : c.retain.new.self.items ≡ filter (is_left c.args.numbers.now) c.args.rows.now.items =
    filter_same _ (is_left c.args.numbers.now) _ (λ x b f' k. search rules) _ _ c.retain.ensures.filtered in
    subst RowsRise (sym kept) (rise_filter (is_left c.args.numbers.now) c.args.rows.now.items c.requires)
