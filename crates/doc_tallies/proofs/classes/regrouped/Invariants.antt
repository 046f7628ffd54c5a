use Rattle.std.proofs.Common.{◌≡◌, ◌<◌, ◌+◌, ℕ, List, take, vec_len}
use Rattle.std.specs.List.{All}
use Rattle.doc_value.specs.declared.schema.Kind.{Kind}
use Rattle.agg_model.specs.declared.request.Agg.{Agg}
use Rattle.fast_fields.specs.declared.entries.Entry.{Entry}
use Rattle.doc_tallies.specs.Classes.{IsMarked, IsRegrouped, class_sum}
use Rattle.doc_tallies.proofs.classes.regrouped.Given as goal

abbrev pub invariant-loop-cell : goal.invariant-loop-cell
invariant-loop-cell l = record {
  size : 0 < vec_len l.classes;
  total : class_sum l.classes.items ≡ class_sum l.initial.classes.items + class_sum (take l.cell-index l.cells);
  marked : (agg : Agg) (kind : Kind) (entries : List Entry) (bound : ℕ) → All (IsMarked agg kind entries bound) l.cells → All (IsMarked agg kind entries bound) l.initial.classes.items
      → IsRegrouped agg kind entries bound (take l.cell-index l.cells) l.initial.classes.items l.classes.items;
}
