use Rattle.std.proofs.Common.{◌∙◌, ap, map, arith}
use Rattle.std.proofs.lemmas.List.{take_all}
use Rattle.query_ast.specs.Sought.{view}
use Rattle.meta_store.specs.Planning.{planned_row, searched}
use Rattle.meta_store.proofs.planning.searched_rows.Goals as goal

pub returns : goal.returns
returns c =
    c.loop-row.invariant
    ∙ ap (λ l. map planned_row (searched c.args.schema.now (view c.args.query.now) c.args.times l)) (take_all c.loop-row.row-index c.args.rows.now (omega arith))
