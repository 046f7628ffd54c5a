use Rattle.std.proofs.Common.{List, ◌∙◌, map, ap, refl, sym, subst}
use Rattle.split_states.specs.Due.{stamp_of}
use Rattle.split_states.specs.Rows.{Row, raised_row, RowsRise}
use Rattle.split_states.proofs.Rising.{rise_change}
use Rattle.split_states.proofs.Stamped.{stamps_stay}
use Rattle.split_states.proofs.rows.raise_row.Goals as goal

pub returns-in-Some-clause-rows : goal.returns-in-Some-clause-rows
returns-in-Some-clause-rows c = rw c.raise.ensures (sym (c.in-Some.ensures.some.changed (raised_row c.args.upto) c.index-rows-i.result))

pub returns-in-Some-clause-order : goal.returns-in-Some-clause-order
returns-in-Some-clause-order c =
    rw c.raise.ensures (subst RowsRise (c.in-Some.ensures.some.changed (raised_row c.args.upto) c.index-rows-i.result) (rise_change c.args.number (raised_row c.args.upto) c.args.rows.now (λ row. refl) c.requires))

pub returns-in-Some-clause-stamps : goal.returns-in-Some-clause-stamps
returns-in-Some-clause-stamps c =
    ap (λ (l : List Row). map stamp_of l) (returns-in-Some-clause-rows c) ∙ stamps_stay c.args.number (raised_row c.args.upto) c.args.rows.now (λ row. refl)
