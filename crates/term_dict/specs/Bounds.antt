-- Which blocks an index gives for a key or for keys in a row, and what the blocks of a dictionary have.
use Rattle.std.specs.Prelude.{◌≡◌, ◌≢◌, ℕ, zero, suc, ◌+◌, ◌-◌, ◌*◌, ◌≤◌, Bool, true, false, not, ◌||◌, List, [], ◌++◌, length, take, drop, Option, Some, None, Result, slice_get, nat_eq}
use Rattle.std.specs.List.{starts_with}
use Rattle.byte_fields.specs.declared.corrupt.Corrupt.{Corrupt}
use Rattle.term_dict.specs.Keys.{is_below}
use Rattle.term_dict.specs.Terms.{AreTerms, area, lookup}
use Rattle.term_dict.specs.Chosen.{AreUpTo, start_at, block_between}
use Rattle.term_dict.specs.declared.term.Term.{Term}
use Rattle.term_dict.specs.declared.term.TermInfo.{TermInfo}
use Rattle.term_dict.specs.declared.index.BlockStart.{BlockStart}
use Rattle.term_dict.specs.declared.index.Edge.{Edge}
use Rattle.term_dict.specs.declared.index.Edge.TheVariants.{UpTo, Prefix}

-- ---- by the index alone

-- which first keys stand in front of an edge
abbrev pub is_in_front : Edge → List ℕ → Bool
is_in_front (UpTo key) first = not (is_below key.now first)
is_in_front (Prefix prefix) first = is_below first prefix.now || starts_with nat_eq first prefix.now

-- so many blocks stand in front: a test holds of the first key of the last of them, and not of that of the block behind them
pub record AreInFront (index : List BlockStart) (test : List ℕ → Bool) (count : ℕ) : Type 0 where
  pub within : count ≤ length index
  pub front : (block : BlockStart) (number : ℕ) → number + 1 ≡ count → slice_get index number ≡ Some block → test block.first ≡ true
  pub behind : (block : BlockStart) → slice_get index count ≡ Some block → test block.first ≡ false

-- the number of the last of so many blocks
abbrev pub last_number : ℕ → Option ℕ
last_number zero = None
last_number (suc n) = Some n

-- the block that the index gives for a key: the last one of those up to the key
pub record IsBlockOf (index : List BlockStart) (key : List ℕ) (number : Option ℕ) : Type 0 where
  pub count : ℕ
  pub up_to : AreUpTo index key count
  pub last : number ≡ last_number count

-- the blocks from the one for a low key on, up to the last one in front of an edge
pub record AreBlocks (index : List BlockStart) (low : List ℕ) (test : List ℕ → Bool) (start end : ℕ) : Type 0 where
  pub count : ℕ
  pub up_to : AreUpTo index low count
  pub start_is : start ≡ count - 1
  pub front : AreInFront index test end

-- from where to where a block stands in an area of so many bytes
abbrev pub place_in : ℕ → List BlockStart → ℕ → Result (ℕ × ℕ) Corrupt
place_in size index number = block_between size (start_at size index number) (start_at size index (number + 1))

-- ---- of a dictionary

-- the terms of the block with a number
abbrev pub block_terms : List Term → ℕ → List Term
block_terms terms number = take 64 (drop (64 * number) terms)

-- what a block has at a key, where there is a block
abbrev pub lookup_in : List ℕ → List Term → Option ℕ → Option TermInfo
lookup_in key terms None = None
lookup_in key terms (Some number) = lookup key (block_terms terms number)

-- what is wanted of so many blocks, from one on, joined
abbrev pub joined : (List Term → List Term) → List Term → ℕ → ℕ → List Term
joined wanted terms number zero = []
joined wanted terms number (suc n) = wanted (block_terms terms number) ++ joined wanted terms (number + 1) n

-- a block with terms stands from the start to the end, behind those before it
pub record IsBlockAt (bytes : List ℕ) (terms : List Term) (number start end : ℕ) : Type 0 where
  pub some : block_terms terms number ≢ []
  pub are_terms : AreTerms (block_terms terms number)
  pub start_is : start ≡ length (area (take (64 * number) terms))
  pub end_is : end ≡ length (area (take (64 * (number + 1)) terms))
  pub within : end ≤ length bytes
  pub bytes_are : drop start (take end bytes) ≡ area (block_terms terms number)
