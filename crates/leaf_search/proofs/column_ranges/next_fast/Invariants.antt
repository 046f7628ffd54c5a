use Rattle.std.proofs.Common.{◌≡◌, ◌<◌, ℕ, Some, false, slice_get}
use Rattle.doc_value.specs.declared.schema.Field.{Field}
use Rattle.leaf_search.proofs.column_ranges.next_fast.Given as goal

abbrev pub invariant-loop-next : goal.invariant-loop-next
invariant-loop-next l = (k : ℕ) (f : Field) → l.number < k → k < l.next → slice_get l.schema.fields k ≡ Some f → f.fast ≡ false
