-- Files that only grow, each under the name of a partition, and the log that they are.
use Rattle.std.specs.Prelude.{◌≡◌, ℕ, ◌<◌, ◌≤◌, ◌^◌, List, [], ◌∷◌, ◌++◌, length, map, take, drop, Option, None, Some, bytes_eq, if◌then◌else◌}
use Rattle.std.specs.List.{AllByRecursion}
use Rattle.std.specs.List.Sorted.{IsStrictlySortedBy}
use Rattle.std.specs.Ordering.{nat_cmp}
use Rattle.std.specs.Cmp.Lexicographic.{slice_cmp}
use Rattle.source_checkpoint.specs.Names.{IsPartition}
use Rattle.source_log.specs.declared.memory.PartitionLog.{PartitionLog}
use Rattle.source_log.specs.Log.{Log}
use Rattle.real_edge.specs.Lines.{records_in}

-- a file: the name of its partition, and its bytes
pub record Grown : Type 0 where
  pub name : List ℕ
  pub bytes : List ℕ

-- the bytes of a partition's file; where there is none, none
abbrev pub bytes_of : List Grown → List ℕ → List ℕ
bytes_of [] name = []
bytes_of (file ∷ files) name = if bytes_eq file.name name then file.bytes else bytes_of files name

abbrev pub names_of : List Grown → List (List ℕ)
names_of files = map (λ file. file.name) files

abbrev pub IsGoodFile : Grown → Type 0
IsGoodFile file = IsPartition file.name × (length file.bytes < 2 ^ 63)

-- the names rise by their bytes, each is a name of a partition, and no file has 2^63 bytes
pub record AreGrown (files : List Grown) : Type 0 where
  pub in_order : IsStrictlySortedBy (slice_cmp nat_cmp) (names_of files)
  pub good : AllByRecursion IsGoodFile files

-- each file has what it had, and maybe more behind it
abbrev pub Grow : List Grown → List Grown → Type 0
Grow old new = (name : List ℕ) → (more : List ℕ) × (bytes_of new name ≡ bytes_of old name ++ more)

-- each file is a partition, and its lines are the records
abbrev pub part_of : Grown → PartitionLog
part_of file = record { partition = file.name; records = records_in file.bytes }

abbrev pub log_of : List Grown → Log
log_of files = map part_of files

abbrev pub log_in : Option (List Grown) → Option Log
log_in None = None
log_in (Some files) = Some (log_of files)

-- one file of a partition
pub one_is_grown : (name bytes : List ℕ) → IsPartition name → length bytes < 2 ^ 63 → AreGrown (record { name = name; bytes = bytes } ∷ [])
unfolding IsStrictlySortedBy
one_is_grown name bytes named small = record { in_order = (tt, tt); good = ((named, small), tt) }
