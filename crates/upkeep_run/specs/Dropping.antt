-- Which documents of a planned row's file are dropped: those that a task removes whose records were taken in before it.
use Rattle.std.specs.Prelude.{◌≡◌, ◌+◌, ◌<◌, ◌≤◌, ◌&&◌, ℕ, zero, suc, Bool, false, not, List, [], ◌∷◌, filter, length, nat_le, nat_lt}
use Rattle.std.specs.List.{list_any}
use Rattle.delete_tasks.specs.Removed.{Place, lies_in}
use Rattle.delete_tasks.specs.Removes.{DeleteTask, removes}
use Rattle.doc_sets.specs.Bits.{has}
use Rattle.doc_sets.specs.declared.bits.DocBits.{DocBits}
use Rattle.doc_value.specs.declared.schema.Schema.{Schema}
use Rattle.index_world.specs.Seen.{place_of}
use Rattle.query_ast.specs.Askable.{CanAsk}
use Rattle.source_checkpoint.specs.Deltas.{range_of}
use Rattle.source_checkpoint.specs.declared.span.Span.{Span}
use Rattle.split_bundle.specs.Splits.{IsSplit}
use Rattle.split_bundle.specs.declared.placed.Address.{Address}
use Rattle.split_bundle.specs.declared.placed.Placed.{Placed}
use Rattle.split_merge.specs.Keeping.{RiseFrom, kept}

-- ---- one document

-- the record at a place was taken in before the task with this opstamp, by one of the spans
abbrev pub came_before : List Span → Place → (opstamp : ℕ) → Bool
came_before spans x opstamp = list_any (λ s. lies_in (range_of s) x && nat_lt s.admitted opstamp) spans

-- and a document's
abbrev pub is_before : List Span → (opstamp : ℕ) → Placed → Bool
is_before spans opstamp x = came_before spans (place_of x) opstamp

-- a task up to the last one removes the document, whose record was taken in before it
abbrev pub drops : Schema → List Span → (upto : ℕ) → Placed → DeleteTask → Bool
drops s spans upto x task = removes s x.doc task && (came_before spans (place_of x) task.opstamp && nat_le task.opstamp upto)

abbrev pub is_dropped : Schema → List Span → List DeleteTask → (upto : ℕ) → Placed → Bool
is_dropped s spans tasks upto x = list_any (drops s spans upto x) tasks

-- a test of the document with a number
abbrev pub holds : (Placed → Bool) → List Placed → ℕ → Bool
holds test [] k = false
holds test (d ∷ ds) zero = test d
holds test (d ∷ ds) (suc k) = holds test ds k

-- ---- where its record was taken in

abbrev pub place_at : Address → Place
place_at at = record { partition = at.partition; offset = at.offset }

-- a number that tells before which tasks up to the last one that was
abbrev pub IsAdmitted : List Span → (upto : ℕ) → Place → (admitted : ℕ) → Type 0
IsAdmitted spans upto x admitted = (opstamp : ℕ) → opstamp ≤ upto → nat_lt admitted opstamp ≡ came_before spans x opstamp

-- ---- the documents of a file

-- each task's query can be asked of a split
abbrev pub AreAsked : Schema → List DeleteTask → Type 0
AreAsked s [] = Unit {0}
AreAsked s (task ∷ tasks) = CanAsk s task.query × AreAsked s tasks

-- THE DROP SET: these places name the documents that tasks drop, each once, and no others
pub record IsDropSet (s : Schema) (spans : List Span) (tasks : List DeleteTask) (upto : ℕ) (documents : List Placed) (places : List ℕ) : Type 0 where
  pub left : kept places documents ≡ filter (λ x. not (is_dropped s spans tasks upto x)) documents
  pub count : length (kept places documents) + length places ≡ length documents

-- the set has the documents that tasks drop
pub record HasDropped (s : Schema) (spans : List Span) (tasks : List DeleteTask) (upto : ℕ) (documents : List Placed) (bits : DocBits) : Type 0 where
  pub size : bits.size ≡ length documents
  pub each : (k : ℕ) → k < length documents → has bits k ≡ holds (is_dropped s spans tasks upto) documents k

-- Of a file, whatever its bytes are: places that rise, and of a split of documents of which all tasks can be asked, its drop set.
pub record DropsOf (s : Schema) (spans : List Span) (tasks : List DeleteTask) (upto : ℕ) (bytes : List ℕ) (places : List ℕ) : Type 0 where
  pub rise : RiseFrom 0 places
  pub of : (documents : List Placed) → IsSplit s bytes documents → AreAsked s tasks → IsDropSet s spans tasks upto documents places

-- the bytes are no split of documents of which all tasks can be asked
abbrev pub IsUnasked : Schema → List DeleteTask → List ℕ → Type 0
IsUnasked s tasks bytes = (documents : List Placed) → IsSplit s bytes documents → AreAsked s tasks → ⊥
