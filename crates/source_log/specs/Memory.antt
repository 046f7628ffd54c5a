-- A log in memory, to which records are added.
use Rattle.std.specs.Prelude.{ℕ, ◌+◌, List, [], ◌∷◌, ◌++◌, Result, Ok, Err}
use Rattle.std.specs.Ordering.{nat_cmp}
use Rattle.std.specs.Cmp.Lexicographic.{slice_cmp}
use Rattle.std.specs.FinMap.Entries.{by_order}
use Rattle.source_log.specs.declared.memory.PartitionLog.{PartitionLog}
use Rattle.source_log.specs.Log.{Log}

abbrev pub part_of : List ℕ → List (List ℕ) → PartitionLog
part_of name records = record { partition = name; records = records }

abbrev pub with_last : PartitionLog → List ℕ → PartitionLog
with_last part bytes = part_of part.partition (part.records ++ bytes ∷ [])

-- with a record behind those of its partition; a new partition stands in its place among the others
abbrev pub with_record : Log → List ℕ → List ℕ → Log
with_record [] name bytes = part_of name (bytes ∷ []) ∷ []
with_record (part ∷ parts) name bytes = by_order (slice_cmp nat_cmp name part.partition)
    (part_of name (bytes ∷ []) ∷ part ∷ parts)
    (with_last part bytes ∷ parts)
    (part ∷ with_record parts name bytes)

abbrev pub one_further : Result ℕ ℕ → Result ℕ ℕ
one_further (Ok place) = Ok (place + 1)
one_further (Err place) = Err (place + 1)

-- where a partition stands, or else the place where it would
abbrev pub place_of : List ℕ → Log → Result ℕ ℕ
place_of name [] = Err 0
place_of name (part ∷ parts) = by_order (slice_cmp nat_cmp name part.partition) (Err 0) (Ok 0) (one_further (place_of name parts))

-- a log in memory whose calls may fail: what it has, and how many calls it had, which of them fail, and how many did
pub record Faulty : Type 0 where
  pub log : Log
  pub made : ℕ
  pub failing : List ℕ
  pub faults : ℕ
