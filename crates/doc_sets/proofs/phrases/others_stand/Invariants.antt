use Rattle.std.proofs.Common.{◌≡◌, ℕ, true, Some, slice_get, List, drop}
use Rattle.doc_value.specs.declared.schema.Schema.{Schema}
use Rattle.term_postings.specs.Postings.{AreRising}
use Rattle.split_bundle.specs.declared.placed.Placed.{Placed}
use Rattle.split_bundle.specs.Keys.{field_key, keys_of}
use Rattle.split_bundle.specs.Lists.{keeps_places}
use Rattle.doc_sets.specs.Asked.{has_each, stands_from_one}
use Rattle.doc_sets.specs.Seeking.{ArePassing}
use Rattle.doc_sets.proofs.phrases.others_stand.Given as goal

abbrev pub invariant-loop-other : goal.invariant-loop-other
invariant-loop-other l = (s : Schema) (documents : List Placed) (number : ℕ) (d : Placed) → ArePassing s documents number l.phrase l.fn.cursors l.document 1
    → ((term : List ℕ) → keeps_places s (field_key number term) ≡ true) → slice_get documents l.document ≡ Some d → has_each number l.phrase (keys_of s d.doc) ≡ true
    → AreRising l.fn.starts.items
    → ArePassing s documents number l.phrase l.cursors l.document l.other × AreRising l.starts.items
    × (stands_from_one number (drop l.other l.phrase) l.from l.starts.items (keys_of s d.doc) ≡ stands_from_one number (drop 1 l.phrase) l.from l.fn.starts.items (keys_of s d.doc))
