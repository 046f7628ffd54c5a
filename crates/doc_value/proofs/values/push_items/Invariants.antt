use Rattle.std.proofs.Common.{◌≡◌, ◌++◌, true, drop}
use Rattle.doc_value.specs.Printed.{items_text}
use Rattle.doc_value.proofs.values.push_items.Given as goal

abbrev pub invariant-loop-value : goal.invariant-loop-value
invariant-loop-value l = l.out ++ items_text l.first (drop l.value-index l.values) ≡ l.initial.out ++ items_text true l.values
