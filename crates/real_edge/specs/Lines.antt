-- The lines of a log's file.
use Rattle.std.specs.Prelude.{◌≡◌, ℕ, ◌<◌, ◌≤◌, ◌+◌, ◌^◌, ◌==◌, List, [], ◌∷◌, ◌++◌, length, map, take, drop, fold, cond}
use Rattle.real_edge.specs.declared.log_lines.Mark.{Mark}
use Rattle.real_edge.specs.declared.log_lines.Reading.{Reading}

-- what was read byte by byte: the lines that ended, without their line feeds, and what stands behind the last of them
pub record Lines : Type 0 where
  pub ended : List (List ℕ)
  pub line : List ℕ

-- a line feed ends the line, and each other byte goes to it
abbrev pub feed : Lines → ℕ → Lines
feed l b = cond (b == 10) (record { ended = l.ended ++ l.line ∷ []; line = [] }) (record { ended = l.ended; line = l.line ++ b ∷ [] })

abbrev pub lines_of : List ℕ → Lines
lines_of bytes = fold feed (record { ended = []; line = [] }) bytes

-- so much of a line is its record: the longest record, and a byte that tells that it is longer
unfoldable pub longest : ℕ
longest = 1048577

-- each line that ended is a record
abbrev pub records_in : List ℕ → List (List ℕ)
records_in bytes = map (take longest) (lines_of bytes).ended

-- a record begins at this byte of a file, behind so many others
pub record IsMark (bytes : List ℕ) (mark : Mark) : Type 0 where
  pub within : mark.byte ≤ length bytes
  pub count : length (lines_of (take mark.byte bytes)).ended ≡ mark.record
  pub at_front : (lines_of (take mark.byte bytes)).line ≡ []

-- Of a file these bytes were read: what is kept are the records from one on, and what is kept of the line that has not ended.
pub record IsReadTo (from most : ℕ) (bytes : List ℕ) (reading : Reading) : Type 0 where
  pub list : reading.list ≡ drop from (records_in bytes)
  pub few : length reading.list ≤ most
  pub count : reading.behind.record ≡ length (lines_of bytes).ended
  pub behind : IsMark bytes reading.behind
  pub line : reading.line.items ≡ take longest (lines_of bytes).line
  pub next : reading.next ≡ length bytes

-- as many records were read as there may be, and one more stands behind them
pub record HasFilled (from most : ℕ) (bytes : List ℕ) (reading : Reading) : Type 0 where
  pub list : reading.list ≡ take most (drop from (records_in bytes))
  pub full : length reading.list ≡ most
  pub more : from + most < length (lines_of bytes).ended
  pub behind : IsMark bytes reading.behind
