use Rattle.std.proofs.Common.{List, ◌∙◌, map, ap, refl, sym, subst}
use Rattle.split_states.specs.Due.{stamp_of}
use Rattle.split_states.specs.Rows.{Row, published, RowsRise}
use Rattle.split_states.proofs.Rising.{rise_change}
use Rattle.split_states.proofs.Stamped.{stamped}
use Rattle.split_states.proofs.rows.publish_row.Goals as goal

pub returns-in-Some-clause-rows : goal.returns-in-Some-clause-rows
returns-in-Some-clause-rows c = sym (c.in-Some.ensures.some.changed published c.index-rows-i.result)

pub returns-in-Some-clause-order : goal.returns-in-Some-clause-order
returns-in-Some-clause-order c =
    subst RowsRise (c.in-Some.ensures.some.changed published c.index-rows-i.result) (rise_change c.args.number published c.args.rows.now (λ row. refl) c.requires.order)

pub returns-in-Some-clause-stamps : goal.returns-in-Some-clause-stamps
returns-in-Some-clause-stamps c =
    c.restamp.ensures
    ∙ stamped c.args.rows.now c.args.stamps.now c.in-Some.i c.args.number published c.index-rows-i.result c.requires.stamps (c.in-Some.ensures.some.changed published c.index-rows-i.result)
    ∙ ap (λ (l : List Row). map stamp_of l) (sym (returns-in-Some-clause-rows c))
