-- The limits of a split, and what is answered beyond them.
use Rattle.std.specs.Prelude.{◌≡◌, ℕ, ◌-◌, ◌^◌, ◌<◌, ◌≤◌, List, length, min, ⊤}
use Rattle.split_bundle.specs.declared.placed.Placed.{Placed}
use Rattle.split_bundle.specs.Documents.{total_weight}
use Rattle.split_bundle.specs.Splits.{max_weight}
use Rattle.split_build.specs.declared.build_error.BuildError.{BuildError}
use Rattle.split_build.specs.declared.build_error.BuildError.TheVariants.{Memory, TooManyDocs, TooLarge}

-- a split has at most so many documents
abbrev pub max_documents : ℕ
max_documents = 16777216

-- documents within both limits
pub record AreWithin (documents : List Placed) : Type 0 where
  pub few : length documents ≤ max_documents
  pub light : total_weight documents ≤ max_weight

-- the greatest number of 64 bits
abbrev pub most : ℕ
most = 2 ^ 64 - 1

-- why documents make no split: want of memory, or that they are too many, or, where they are not, that they weigh too much
abbrev pub MakeNone : List Placed → BuildError → Type 0
MakeNone documents (Memory a) = ⊤
MakeNone documents (TooManyDocs count) = (max_documents < length documents) × (count ≡ length documents)
MakeNone documents (TooLarge weight) = (length documents ≤ max_documents) × (max_weight < total_weight documents) × (weight ≡ min (total_weight documents) most)
