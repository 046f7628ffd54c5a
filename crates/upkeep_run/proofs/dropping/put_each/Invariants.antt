use Rattle.std.proofs.Common.{◌≡◌, ◌||◌, ◌&&◌, ℕ, List, take}
use Rattle.doc_sets.specs.Bits.{has}
use Rattle.doc_sets.specs.Sets.{is_one_of}
use Rattle.doc_value.specs.declared.schema.Schema.{Schema}
use Rattle.split_bundle.specs.Files.{Parts, file_bytes}
use Rattle.split_bundle.specs.Lending.{IsPartOf}
use Rattle.split_bundle.specs.Wholes.{HaveAll}
use Rattle.split_bundle.specs.declared.placed.Placed.{Placed}
use Rattle.upkeep_run.specs.Dropping.{holds, is_before}
use Rattle.upkeep_run.proofs.dropping.put_each.Given as goal

abbrev pub invariant-loop-number : goal.invariant-loop-number
invariant-loop-number l = record {
  size : l.bits.size ≡ l.fn.bits.size;
  has : (s : Schema) (documents : List Placed) (p : Parts) → IsPartOf l.view s documents p → HaveAll (file_bytes p) l.view.pieces →
      (k : ℕ) → has l.bits k ≡ (has l.fn.bits k || (is_one_of k (take l.number-index l.numbers) && holds (is_before l.spans l.opstamp) documents k));
}
