use Rattle.std.proofs.Common.{List, map, ◌∙◌, ap}
use Rattle.std.specs.Prelude.{filter, find, option_map, nat_le}
use Rattle.split_states.specs.Due.{stamp_number, stamped_due, next_due}
use Rattle.split_states.specs.Rows.{Row, RowList, rising}
use Rattle.split_states.specs.declared.stamps.Stamp.{Stamp}
use Rattle.split_states.proofs.Stamped.{first_passing, numbers_stamped}
use Rattle.split_states.proofs.rows.Rows.next_due.Goals as goal

pub stamps_from-requires : goal.stamps_from-requires
stamps_from-requires c =
    ap (λ (l : List Stamp). rising (map stamp_number l)) (c.as_slice.ensures.value ∙ c.self.invariant.1)
    ∙ ap rising (numbers_stamped c.self.inside.list.items)
    ∙ c.self.invariant.0

pub returns : goal.returns
returns c =
    c.first_due.ensures
    ∙ ap (λ (l : List Stamp). option_map stamp_number (find (stamped_due c.args.now c.args.grace) l)) (c.stamps_from.ensures ∙ ap (λ (l : List Stamp). filter (λ s. nat_le c.args.from s.number) l) (c.as_slice.ensures.value ∙ c.self.invariant.1))
    ∙ first_passing c.args.from (stamped_due c.args.now c.args.grace) c.self.inside.list.items
    ∙ ap (λ (k : RowList). option_map (λ (row : Row). row.number) (next_due c.args.from c.args.now c.args.grace k.list)) c.self.view_is
