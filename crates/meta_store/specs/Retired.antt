-- Retired ranges as they are kept: by the names of their partitions and then by their places, joined where they touch.
use Rattle.std.specs.Prelude.{◌≡◌, ◌<◌, ◌==◌, List, [], ◌∷◌, if◌then◌else◌, nat_lt, ⊤, ◌⊎◌}
use Rattle.std.specs.List.{AllByRecursion}
use Rattle.std.specs.Ordering.{nat_cmp}
use Rattle.std.specs.declared.cmp.Ordering.TheVariants.{Less}
use Rattle.std.specs.Cmp.Lexicographic.{slice_cmp}
use Rattle.std.specs.FinMap.Entries.{by_order}
use Rattle.source_checkpoint.specs.declared.delta.Part.{Part}

-- a range comes in at its place, and is joined with those that it touches
abbrev pub with_range : Part → List Part → List Part
with_range r [] = r ∷ []
with_range r (s ∷ ranges) =
    by_order (slice_cmp nat_cmp s.partition r.partition)
    (s ∷ with_range r ranges)
    (if nat_lt s.to r.from
    then s ∷ with_range r ranges
    else (if s.to == r.from
    then with_range (record r { from = s.from }) ranges
    else (if r.to == s.from then record s { from = r.from } ∷ ranges else r ∷ s ∷ ranges)))
    (r ∷ s ∷ ranges)

abbrev pub with_ranges : List Part → List Part → List Part
with_ranges [] ranges = ranges
with_ranges (r ∷ more) ranges = with_ranges more (with_range r ranges)

-- a range lies before another and doesn't touch it
abbrev pub IsBefore : Part → Part → Type 0
IsBefore r s = (slice_cmp nat_cmp r.partition s.partition ≡ Less) ⊎ ((r.partition ≡ s.partition) × (r.to < s.from))

-- some records each, in order, apart, and none touches another
abbrev pub AreJoined : List Part → Type 0
AreJoined [] = ⊤
AreJoined (r ∷ ranges) = (r.from < r.to) × AllByRecursion (IsBefore r) ranges × AreJoined ranges
