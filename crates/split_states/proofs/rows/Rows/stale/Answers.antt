use Rattle.std.proofs.Common.{◌≡◌, List, map, ◌∙◌, ap}
use Rattle.std.specs.Prelude.{filter}
use Rattle.split_states.specs.Due.{stamp_number, stamped_stale, stale_rows}
use Rattle.split_states.specs.Rows.{RowList}
use Rattle.split_states.specs.declared.stamps.Stamp.{Stamp}
use Rattle.split_states.proofs.Stamped.{if_ok, passing}
use Rattle.split_states.proofs.rows.Rows.stale.Goals as goal

pub returns : goal.returns
returns c =
    if_ok c.stale_numbers.result _ (λ numbers. numbers ≡ stale_rows c.args.now c.args.grace c.args.self.now.list)
    (λ numbers e.
    e
    ∙ ap (λ (l : List Stamp). map stamp_number (filter (stamped_stale c.args.now c.args.grace) l)) (c.as_slice.ensures.value ∙ c.self.invariant.1)
    ∙ passing (stamped_stale c.args.now c.args.grace) c.self.inside.list.items
    ∙ ap (λ (k : RowList). stale_rows c.args.now c.args.grace k.list) c.self.view_is)
    c.stale_numbers.ensures
