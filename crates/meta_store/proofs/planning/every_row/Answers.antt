use Rattle.std.proofs.Common.{◌∙◌, ap, map, arith}
use Rattle.std.proofs.lemmas.List.{take_all}
use Rattle.meta_store.specs.Planning.{planned_row, every}
use Rattle.meta_store.proofs.planning.every_row.Goals as goal

pub returns : goal.returns
returns c = c.loop-row.invariant ∙ ap (λ l. map planned_row (every l)) (take_all c.loop-row.row-index c.args.rows.now (omega arith))
