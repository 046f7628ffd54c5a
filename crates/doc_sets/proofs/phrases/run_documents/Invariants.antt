use Rattle.std.proofs.Common.{◌≡◌, ℕ, ◌-◌, ◌<◌, ◌≤◌, true, false, List}
use Rattle.doc_value.specs.declared.schema.Schema.{Schema}
use Rattle.split_bundle.specs.declared.placed.Placed.{Placed}
use Rattle.split_bundle.specs.Keys.{field_key, keys_of}
use Rattle.split_bundle.specs.Lists.{keeps_places}
use Rattle.doc_sets.specs.Asked.{has_each, has_run}
use Rattle.doc_sets.specs.Bits.{has}
use Rattle.doc_sets.specs.Seeking.{ArePassing}
use Rattle.doc_sets.specs.Sets.{holds_at, IsSetOf}
use Rattle.doc_sets.proofs.phrases.run_documents.Given as goal

abbrev pub invariant-loop-document : goal.invariant-loop-document
invariant-loop-document l = record {
  within : l.from ≤ l.candidates.size;
  size : l.bits.size ≡ l.candidates.size;
  rest : (k : ℕ) → l.from ≤ k → has l.bits k ≡ false;
  only : (s : Schema) (documents : List Placed) (number : ℕ) → ArePassing s documents number l.phrase l.fn.cursors 0 0 → ((term : List ℕ) → keeps_places s (field_key number term) ≡ true)
      → IsSetOf (λ d. has_each number l.phrase (keys_of s d)) documents l.candidates
      → ArePassing s documents number l.phrase l.cursors l.from 0 × ((k : ℕ) → k < l.from → has l.bits k ≡ holds_at (λ d. has_run number l.phrase (keys_of s d)) documents k);
}

abbrev pub decreases-loop-document : goal.decreases-loop-document
decreases-loop-document l = l.candidates.size - l.from
