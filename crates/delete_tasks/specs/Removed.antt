-- Which records are removed: by the documents that they are, or, for laws that hold of any way to match, by a test.
use Rattle.std.specs.Prelude.{ℕ, ◌&&◌, ◌||◌, Bool, List, nat_lt, nat_le, bytes_eq}
use Rattle.std.specs.List.{list_any}
use Rattle.doc_value.specs.declared.doc.DocField.{DocField}
use Rattle.doc_value.specs.declared.schema.Schema.{Schema}
use Rattle.source_checkpoint.specs.declared.delta.Part.{Part}
use Rattle.source_checkpoint.specs.declared.span.Span.{Span}
use Rattle.source_checkpoint.specs.Deltas.{Partition, range_of}
use Rattle.delete_tasks.specs.Ledger.{Ledger}
use Rattle.delete_tasks.specs.Removes.{DeleteTask, removes}

-- where a record stands in the log
pub record Place : Type 0 where
  pub partition : Partition
  pub offset : ℕ

abbrev pub lies_in : Part → Place → Bool
lies_in r x = bytes_eq r.partition x.partition && (nat_le r.from x.offset && nat_lt x.offset r.to)

-- ---- by a test of tasks

-- some task behind `admitted` and up to `upto` matches
abbrev pub covered_by : (matches : DeleteTask → Bool) → List DeleteTask → (admitted upto : ℕ) → Bool
covered_by matches tasks admitted upto =
    list_any (λ task. matches task && (nat_lt admitted task.opstamp && nat_le task.opstamp upto)) tasks

-- some task that the span's marks name matches
abbrev pub erased_by : (matches : DeleteTask → Bool) → List DeleteTask → Span → Bool
erased_by matches tasks s = covered_by matches tasks s.admitted s.applied

-- the record lies in a live span whose tasks erase it
abbrev pub erased_where : (matches : DeleteTask → Bool) → Ledger → Place → Bool
erased_where matches l x = list_any (λ s. lies_in (range_of s) x && erased_by matches l.tasks s) l.spans

-- it is erased, or lies in a retired range
abbrev pub removed_where : (matches : DeleteTask → Bool) → Ledger → Place → Bool
removed_where matches l x = erased_where matches l x || list_any (λ r. lies_in r x) l.retired

-- ---- by the document

-- some task behind `admitted` and up to `upto` removes the document
abbrev pub covered : Schema → List DocField → List DeleteTask → (admitted upto : ℕ) → Bool
covered schema doc tasks admitted upto = covered_by (removes schema doc) tasks admitted upto

-- the record with this document lies in a live span whose tasks erase it
abbrev pub erased : Schema → Ledger → Place → List DocField → Bool
erased schema l x doc = erased_where (removes schema doc) l x

-- it is erased, or lies in a retired range
abbrev pub removed : Schema → Ledger → Place → List DocField → Bool
removed schema l x doc = removed_where (removes schema doc) l x
