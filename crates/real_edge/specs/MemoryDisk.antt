-- What a disk in memory may leave.
use Rattle.std.specs.Prelude.{◌≡◌, ℕ, ◌⊎◌, List}
use Rattle.std.specs.FinMap as finmap
use Rattle.real_edge.specs.Disk.{Files}

-- under each name what is seen, or what was at the last sync
abbrev pub IsLeft : Files → Files → Files → Type 0
IsLeft seen synced c = (q : List ℕ) → (finmap.get c q ≡ finmap.get seen q) ⊎ (finmap.get c q ≡ finmap.get synced q)
