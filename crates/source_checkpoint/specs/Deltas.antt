-- Ranges of records, spans, and which delta is one.
use Rattle.std.specs.Prelude.{ℕ, ◌≡◌, ◌<◌, ◌≤◌, ◌==◌, ◌&&◌, Bool, false, List, [], ◌∷◌, ◌++◌, map, max, if◌then◌else◌, ⊤, Result, Ok, Err, nat_le, bytes_eq}
use Rattle.std.specs.List.{list_any, AllByRecursion}
pub use Rattle.source_checkpoint.specs.declared.delta.Part.{Part}
pub use Rattle.source_checkpoint.specs.declared.span.Span.{Span}
use Rattle.source_checkpoint.specs.declared.delta.StaleDelta.{StaleDelta}
use Rattle.source_checkpoint.specs.declared.delta.StaleDelta.TheVariants.{Stale, BackwardDelta, DoubledPartition}

-- the name of a partition, in bytes
abbrev pub Partition : Type 0
Partition = List ℕ

-- the range of a span
abbrev pub range_of : Span → Part
range_of s = record { partition = s.partition; from = s.from; to = s.to }

abbrev pub same_range : Part → Part → Bool
same_range a b = bytes_eq a.partition b.partition && (a.from == b.from) && (a.to == b.to)

-- a part as it is taken in behind the task k
abbrev pub span_of : ℕ → Part → Span
span_of k part = record { partition = part.partition; from = part.from; to = part.to; admitted = k; applied = k }

abbrev pub spans_of : ℕ → List Part → List Span
spans_of k delta = map (span_of k) delta

-- a span that is applied up to the task at least
abbrev pub raised : ℕ → Span → Span
raised upto s = record s { applied = max s.applied upto }

-- some records, taken in no later than they were applied, and applied up to the last task at most
pub record IsSpan (last : ℕ) (s : Span) : Type 0 where
  pub forward : s.from < s.to
  pub marks : s.admitted ≤ s.applied
  pub applied : s.applied ≤ last

-- whether one of these parts is of the partition
abbrev pub Names : List Part → Partition → Bool
Names parts p = list_any (λ part. bytes_eq part.partition p) parts

-- no part is backward, and no partition is doubled
abbrev pub IsDelta : List Part → Type 0
IsDelta [] = ⊤
IsDelta (part ∷ parts) = (part.from < part.to) × (Names parts part.partition ≡ false) × IsDelta parts

-- where a delta is allowed over checkpoints: each part begins at its partition's
abbrev pub MayAdmit : List Part → (Partition → ℕ) → Type 0
MayAdmit delta checkpoints = IsDelta delta × AllByRecursion (λ part. part.from ≡ checkpoints part.partition) delta

-- each named checkpoint moves to its part's end, and each other one stays
abbrev pub moved : List Part → (Partition → ℕ) → Partition → ℕ
moved [] checkpoints p = checkpoints p
moved (part ∷ parts) checkpoints p = if bytes_eq part.partition p then part.to else moved parts checkpoints p

-- the first answer, or the second one where the first is Ok
abbrev pub then_answer : {E : Type 0} → Result (Unit {0}) E → Result (Unit {0}) E → Result (Unit {0}) E
then_answer (Ok u) next = next
then_answer (Err e) next = Err e

-- the answer to a part behind others: doubled, then backward
abbrev pub answer_to_part : List Part → Part → Result (Unit {0}) StaleDelta
answer_to_part before part =
    if Names before part.partition then Err (DoubledPartition part.partition)
    else if nat_le part.to part.from then Err (BackwardDelta part.partition)
    else Ok tt

-- the answer to a delta: that to its first part with a fault
abbrev pub answer_to_delta : List Part → List Part → Result (Unit {0}) StaleDelta
answer_to_delta before [] = Ok tt
answer_to_delta before (part ∷ parts) = then_answer (answer_to_part before part) (answer_to_delta (before ++ part ∷ []) parts)

-- the same over checkpoints, where a part is stale that begins elsewhere
abbrev pub answer_at : ℕ → Part → Result (Unit {0}) StaleDelta
answer_at current part = if part.from == current then Ok tt else Err (Stale part.partition current part.from)

abbrev pub answer_to_admit : (Partition → ℕ) → List Part → List Part → Result (Unit {0}) StaleDelta
answer_to_admit checkpoints before [] = Ok tt
answer_to_admit checkpoints before (part ∷ parts) =
    then_answer (answer_to_part before part)
    (then_answer (answer_at (checkpoints part.partition) part) (answer_to_admit checkpoints (before ++ part ∷ []) parts))
