-- A dictionary over any bytes and any index: the block that the index gives for a key, and what is read in it.
use Rattle.std.specs.Prelude.{◌≡◌, ℕ, ◌+◌, ◌-◌, ◌≤◌, min, Bool, true, false, ◌&&◌, List, [], ◌∷◌, length, take, Option, Some, None, Result, Ok, Err, IfOk, nat_lt, nat_le, ◌==◌, slice_get, if◌then◌else◌}
use Rattle.byte_fields.specs.declared.corrupt.Corrupt.{Corrupt}
use Rattle.term_dict.specs.Keys.{is_below}
use Rattle.term_dict.specs.Readers.{is_before_end}
use Rattle.byte_fields.specs.Steps.{corrupt}
use Rattle.term_dict.specs.Reading.{Walks, place_there}
use Rattle.term_dict.specs.declared.index.BlockStart.{BlockStart}
use Rattle.term_dict.specs.declared.dict.Dict.{Dict}
use Rattle.term_dict.specs.declared.range.TermRange.{TermRange}

-- where there are blocks there are bytes, and the other way round
abbrev pub dict_of : List ℕ → List BlockStart → Result (List ℕ × List BlockStart) Corrupt
dict_of [] [] = Ok ([], [])
dict_of [] (block ∷ blocks) = Err (corrupt 0)
dict_of (byte ∷ bytes) [] = Err (corrupt 0)
dict_of (byte ∷ bytes) (block ∷ blocks) = Ok (byte ∷ bytes, block ∷ blocks)

-- so many blocks stand up to a key: the last of them does not begin above it, and the one behind them does
pub record AreUpTo (index : List BlockStart) (key : List ℕ) (count : ℕ) : Type 0 where
  pub within : count ≤ length index
  pub up_to : (block : BlockStart) (number : ℕ) → number + 1 ≡ count → slice_get index number ≡ Some block → is_below key block.first ≡ false
  pub behind : (block : BlockStart) → slice_get index count ≡ Some block → is_below key block.first ≡ true

abbrev pub start_or : ℕ → Option BlockStart → ℕ
start_or end (Some block) = block.start
start_or end None = end

-- where the index has the block with a number start; behind the last block the area ends, which has so many bytes
abbrev pub start_at : ℕ → List BlockStart → ℕ → ℕ
start_at size index number = start_or size (slice_get index number)

-- a block has bytes, and they are within the area of so many bytes
abbrev pub block_between : ℕ → ℕ → ℕ → Result (ℕ × ℕ) Corrupt
block_between size start end = if nat_lt start end && nat_le end size then Ok (start, end) else Err (corrupt (min start size))

-- from where to where the last of so many blocks stands; where there is none, no bytes
abbrev pub last_block : List ℕ → List BlockStart → ℕ → Result (ℕ × ℕ) Corrupt
last_block bytes index count =
    if count == 0 then Ok (0, 0) else block_between (length bytes) (start_at (length bytes) index (count - 1)) (start_at (length bytes) index count)

-- the block that the index gives for a key
pub record IsChosen (bytes : List ℕ) (index : List BlockStart) (key : List ℕ) (block : Result (ℕ × ℕ) Corrupt) : Type 0 where
  pub count : ℕ
  pub up_to : AreUpTo index key count
  pub last : block ≡ last_block bytes index count

-- a walk to a key in a block, unless the block is at fault
abbrev pub WalksIn : {A : Type 0} → List ℕ → List ℕ → (List ℕ → ℕ → Result A Corrupt) → Result (ℕ × ℕ) Corrupt → Result A Corrupt → Type 0
WalksIn bytes key answer (Ok block) result = Walks (take block.1 bytes) block.0 key answer result
WalksIn bytes key answer (Err c) result = result ≡ Err c

-- a walk to a key in the block that the index gives for it
pub record WalksDict {A : Type 0} (d : Dict) (key : List ℕ) (answer : List ℕ → ℕ → Result A Corrupt) (result : Result A Corrupt) : Type 0 where
  pub block : Result (ℕ × ℕ) Corrupt
  pub chosen : IsChosen d.area.now d.index.now key block
  pub walks : WalksIn d.area.now key answer block result

-- where a range stands
abbrev pub place_of_range : Result TermRange Corrupt → Result ℕ Corrupt
place_of_range (Ok r) = Ok r.at
place_of_range (Err c) = Err c

-- a range over these bytes, up to the first key that fails a test
pub record IsRangeOver (bytes : List ℕ) (before_end : List ℕ → Bool) (r : TermRange) : Type 0 where
  pub area : r.area.now ≡ bytes
  pub end : (key : List ℕ) → is_before_end r.end key ≡ before_end key

-- a range from the end of a walk on
pub record StartsRange (d : Dict) (low : List ℕ) (before_end : List ℕ → Bool) (result : Result TermRange Corrupt) : Type 0 where
  pub place : WalksDict d low place_there (place_of_range result)
  pub range : IfOk result (IsRangeOver d.area.now before_end)

-- the same in a block
pub record StartsInBlock (bytes low : List ℕ) (before_end : List ℕ → Bool) (result : Result TermRange Corrupt) : Type 0 where
  pub place : Walks bytes 0 low place_there (place_of_range result)
  pub range : IfOk result (IsRangeOver bytes before_end)
