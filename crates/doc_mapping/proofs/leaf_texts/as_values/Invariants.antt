use Rattle.std.proofs.Common.{◌≡◌, ◌++◌}
use Rattle.std.specs.Prelude.{map}
use Rattle.std.specs.Vec.Iter.{into_iter_items}
use Rattle.doc_value.specs.declared.doc.Value.TheVariants as values
use Rattle.doc_mapping.proofs.leaf_texts.as_values.Given as goal

abbrev pub invariant-loop-text : goal.invariant-loop-text
invariant-loop-text l = map values.Text l.fn.texts ≡ l.held.items ++ map values.Text (into_iter_items l.text-iterator)
