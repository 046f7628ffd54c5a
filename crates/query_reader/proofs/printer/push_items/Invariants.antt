use Rattle.std.proofs.Common.{◌≡◌, ◌++◌, drop}
use Rattle.query_reader.specs.Printed.{items_rest}
use Rattle.query_reader.proofs.printer.push_items.Given as goal

abbrev pub invariant-loop-item : goal.invariant-loop-item
invariant-loop-item l = l.out ++ items_rest (drop l.item-index l.items) ≡ l.fn.out ++ items_rest l.items
