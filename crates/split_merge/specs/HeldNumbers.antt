-- How the numbers of a split's documents are held.
use Rattle.std.specs.Prelude.{ℕ, zero, suc, ◌+◌, ◌≤◌, List, [], ◌∷◌, ⊤}
use Rattle.split_merge.specs.declared.numbers.HeldNumbers.{HeldNumbers}
use Rattle.split_merge.specs.declared.numbers.HeldNumbers.TheVariants.{Rising, Table}
use Rattle.split_merge.specs.Numbering.{no_number}

-- so many numbers that rise by one from the first
abbrev pub rising : ℕ → ℕ → List ℕ
rising first zero = []
rising first (suc left) = first ∷ rising (suc first) left

-- the numbers that are held
abbrev pub numbers_in : HeldNumbers → List ℕ
numbers_in (Rising first docs) = rising first docs
numbers_in (Table table) = table.items

-- those that rise are below what stands for a dropped document
abbrev pub AreBelow : HeldNumbers → Type 0
AreBelow (Rising first docs) = first + docs ≤ no_number
AreBelow (Table table) = ⊤
