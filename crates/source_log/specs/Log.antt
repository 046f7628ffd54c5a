-- A log: partitions in the order of their names, each with its records. A record is a list of bytes.
use Rattle.std.specs.Prelude.{◌≡◌, ◌↔◌, ℕ, ◌+◌, ◌≤◌, ◌<◌, ◌^◌, List, [], ◌∷◌, ◌++◌, length, map, take, drop, Option, Some, None, Result, Ok, Err, IsTrue, ⊤, bytes_eq, if◌then◌else◌}
use Rattle.std.specs.List.{AllByRecursion}
use Rattle.std.specs.List.Sorted.{IsStrictlySortedBy}
use Rattle.std.specs.Ordering.{nat_cmp}
use Rattle.std.specs.Cmp.Lexicographic.{slice_cmp}
use Rattle.source_checkpoint.specs.Names.{IsPartition}
use Rattle.source_log.specs.declared.memory.PartitionLog.{PartitionLog}
use Rattle.source_log.specs.declared.lists.Records.{Records}
use Rattle.source_log.specs.declared.log.ReadError.{ReadError}

abbrev pub Log : Type 0
Log = List PartitionLog

-- the records of a partition; one that the log does not have has none
abbrev pub records_of : Log → List ℕ → List (List ℕ)
records_of [] name = []
records_of (part ∷ parts) name = if bytes_eq part.partition name then part.records else records_of parts name

abbrev pub names_of : Log → List (List ℕ)
names_of log = map (λ part. part.partition) log

abbrev pub IsGoodPart : PartitionLog → Type 0
IsGoodPart part = IsPartition part.partition × (length part.records < 2 ^ 64)

-- the names rise by their bytes, each is a name of a partition, and no partition has 2^64 records
pub record IsLog (log : Log) : Type 0 where
  pub in_order : IsStrictlySortedBy (slice_cmp nat_cmp) (names_of log)
  pub good : AllByRecursion IsGoodPart log

abbrev pub IsFront : List (List ℕ) → List (List ℕ) → Type 0
IsFront records all = (more : List (List ℕ)) × (all ≡ records ++ more)

-- each partition's records are the first ones of its records in the new log
abbrev pub Extends : Log → Log → Type 0
Extends old new = (name : List ℕ) → IsFront (records_of old name) (records_of new name)

-- what is said of a log before and after a call, where it tells: a log that tells goes on to tell
abbrev pub WhereLogTold : Option Log → Option Log → (Log → Log → Type 0) → Type 0
WhereLogTold None new Says = ⊤
WhereLogTold (Some old) None Says = ⊥
WhereLogTold (Some old) (Some new) Says = Says old new

-- what is told is a log
abbrev pub IsToldLog : Option Log → Type 0
IsToldLog None = ⊤
IsToldLog (Some log) = IsLog log

-- the names were asked for
abbrev pub GivesNames : Result (List (List ℕ)) ReadError → Log → Log → Type 0
GivesNames (Ok names) old new = (new ≡ old) × (names ≡ names_of old)
GivesNames (Err refused) old new = new ≡ old

-- the records from a place on, as many as there are up to a number, and whether none stands behind them
pub record IsSliceOf (all : List (List ℕ)) (from max : ℕ) (records : Records) : Type 0 where
  pub list_is : records.list ≡ take max (drop from all)
  pub end_is : IsTrue records.end ↔ (length all ≤ from + length records.list)

-- the records of a partition were asked for
abbrev pub ReadsSlice : List ℕ → ℕ → ℕ → Result Records ReadError → Log → Log → Type 0
ReadsSlice name from max (Ok records) old new = (new ≡ old) × IsSliceOf (records_of old name) from max records
ReadsSlice name from max (Err refused) old new = new ≡ old
