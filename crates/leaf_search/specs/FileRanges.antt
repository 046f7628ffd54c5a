-- Ranges of a file, and the parts that they are of.
use Rattle.std.specs.Prelude.{◌≡◌, ℕ, ◌+◌, ◌<◌, ◌≤◌, ◌⊎◌, List, [], ◌∷◌, sum_by}
use Rattle.std.specs.List.{AllByRecursion}
use Rattle.leaf_search.specs.declared.file_ranges.FileRange.{FileRange}

-- some range is so
abbrev pub SomeRange : (FileRange → Type 0) → List FileRange → Type 0
SomeRange P [] = ⊥
SomeRange P (r ∷ rs) = P r ⊎ SomeRange P rs

-- a range is this part
abbrev pub IsPart : ℕ → ℕ → FileRange → Type 0
IsPart at len r = (r.start ≡ at) × (r.len ≡ len)

-- a range has all of a part
abbrev pub HasPart : ℕ → ℕ → FileRange → Type 0
HasPart at len r = (r.start ≤ at) × (at + len ≤ r.start + r.len)

-- a range has the byte at a place
abbrev pub HasByte : ℕ → FileRange → Type 0
HasByte place r = (r.start ≤ place) × (place < r.start + r.len)

-- each range ends before the next one starts
abbrev pub AreApart : List FileRange → Type 0
AreApart [] = Unit {0}
AreApart (r ∷ rs) = AllByRecursion (λ next. r.start + r.len < next.start) rs × AreApart rs

-- no range starts behind a place
abbrev pub StartUpTo : ℕ → List FileRange → Type 0
StartUpTo place rs = AllByRecursion (λ r. r.start ≤ place) rs

-- how many bytes some ranges have together
abbrev pub total : List FileRange → ℕ
total rs = sum_by (λ r. r.len) rs

-- a range was put in behind others or joined to the last of them
pub record Puts (range : FileRange) (old new : List FileRange) : Type 0 where
  pub apart : AreApart old → AreApart new
  pub starts : StartUpTo range.start new
  pub kept : (at len : ℕ) → SomeRange (HasPart at len) old → SomeRange (HasPart at len) new
  pub put : (at len : ℕ) → HasPart at len range → SomeRange (HasPart at len) new
  pub only : (place : ℕ) → SomeRange (HasByte place) new → SomeRange (HasByte place) old ⊎ HasByte place range

-- a range was put to others for each part that is asked for
pub record AddsParts (asked : ℕ → ℕ → Type 0) (old new : List FileRange) : Type 0 where
  pub kept : (at len : ℕ) → SomeRange (IsPart at len) old → SomeRange (IsPart at len) new
  pub all : (at len : ℕ) → asked at len → SomeRange (IsPart at len) new
  pub only : (at len : ℕ) → SomeRange (IsPart at len) new → SomeRange (IsPart at len) old ⊎ asked at len

-- the ranges of these parts: they rise, one has all of each part, and each byte of them is one of a part's
pub record AreRangesOf (asked : ℕ → ℕ → Type 0) (rs : List FileRange) : Type 0 where
  pub apart : AreApart rs
  pub cover : (at len : ℕ) → asked at len → SomeRange (HasPart at len) rs
  pub only : (place : ℕ) → SomeRange (HasByte place) rs → (at : ℕ) × (len : ℕ) × asked at len × (at ≤ place) × (place < at + len)
