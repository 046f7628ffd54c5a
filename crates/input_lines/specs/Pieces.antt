-- What a piece of an input does to the line that is under way, and what comes next of an input.
use Rattle.std.specs.Prelude.{◌≡◌, ◌≢◌, ℕ, suc, ◌+◌, ◌<◌, ◌≤◌, Bool, true, false, List, [], ◌∷◌, ◌++◌, length, take, drop, All}
use Rattle.input_lines.specs.declared.lines.Taken.{Taken}
use Rattle.input_lines.specs.declared.lines.Taken.TheVariants as taken
use Rattle.input_lines.specs.declared.lines.Next.{Next}
use Rattle.input_lines.specs.declared.lines.Next.TheVariants as next
use Rattle.input_lines.specs.Reading.{raw_lines, max_line, max_input, end_of, Within, PassesLine, PassesInput}

-- bytes were taken
abbrev pub GoesOn : Taken → Type 0
GoesOn taken.More = Unit {0}
GoesOn taken.Whole = Unit {0}
GoesOn taken.LineOver = ⊥
GoesOn taken.InputOver = ⊥

abbrev pub IsLine : Next → Type 0
IsLine next.Line = Unit {0}
IsLine next.Last = Unit {0}
IsLine next.End = ⊥
IsLine next.LineOver = ⊥
IsLine next.InputOver = ⊥
IsLine next.Fault = ⊥

-- a line with its line feed
abbrev pub IsFed : Next → Type 0
IsFed next.Line = Unit {0}
IsFed next.Last = ⊥
IsFed next.End = ⊥
IsFed next.LineOver = ⊥
IsFed next.InputOver = ⊥
IsFed next.Fault = ⊥

abbrev pub IsFault : Next → Type 0
IsFault next.Line = ⊥
IsFault next.Last = ⊥
IsFault next.End = ⊥
IsFault next.LineOver = ⊥
IsFault next.InputOver = ⊥
IsFault next.Fault = Unit {0}

-- what comes at the end of the input, of which so many bytes were taken before the line and so many are now
abbrev pub EndsWith : Next → ℕ → ℕ → Type 0
EndsWith next.Line before taken = ⊥
EndsWith next.Last before taken = before < taken
EndsWith next.End before taken = taken ≤ before
EndsWith next.LineOver before taken = ⊥
EndsWith next.InputOver before taken = ⊥
EndsWith next.Fault before taken = ⊥

-- ---- a piece

-- no line feed is among these bytes
abbrev pub IsUnbroken : List ℕ → Type 0
IsUnbroken bytes = All (λ c. c ≢ 10) bytes

-- so many bytes of a piece stand before its first line feed, where it has one
abbrev pub Splits : List ℕ → ℕ → Bool → Type 0
Splits piece len true = (suc len ≤ length piece) × IsUnbroken (take len piece) × (drop len piece ≡ 10 ∷ drop (suc len) piece)
Splits piece len false = (len ≡ length piece) × IsUnbroken piece

-- they and that line feed
abbrev pub with_feed : ℕ → Bool → ℕ
with_feed len true = suc len
with_feed len false = len

-- Behind so many bytes of the input, so many bytes of a piece were taken onto a line.
abbrev pub Takes : Taken → ℕ → ℕ → List ℕ → List ℕ → List ℕ → Type 0
Takes taken.More before count piece line line' =
    Splits piece count false × (line' ≡ line ++ piece) × (length line' ≤ max_line)
Takes taken.Whole before count piece line line' =
    (len : ℕ) × (count ≡ suc len) × Splits piece len true × (line' ≡ line ++ take len piece) × (length line' ≤ max_line)
Takes taken.LineOver before count piece line line' =
    (len : ℕ) × (fed : Bool) × Splits piece len fed × (max_line < length line + len) × (before + max_line ≤ max_input + length line)
Takes taken.InputOver before count piece line line' =
    (len : ℕ) × (fed : Bool) × Splits piece len fed × (max_input < before + with_feed len fed)
    × (before + max_line ≤ max_input + length line → length line + len ≤ max_line)

-- ---- an input

-- the next line of a text behind so many bytes, with which so many bytes were taken and this rest is left
abbrev pub ComesLine : ℕ → List ℕ → List ℕ → ℕ → List ℕ → Type 0
ComesLine at text line at' rest =
    (raw_lines text ≡ line ∷ raw_lines rest) × Within (at + length text) at line × (at' ≡ end_of (at + length text) at line)
    × (at' + length rest ≡ at + length text)

-- What comes next of a text behind so many bytes: a line, which is the last one where nothing is left; or the text has no
-- more, or its next line passes a limit; or the input failed behind a piece of that line.
abbrev pub Comes : Next → ℕ → List ℕ → List ℕ → ℕ → List ℕ → Type 0
Comes next.Line at text line at' rest = ComesLine at text line at' rest
Comes next.Last at text line at' rest = ComesLine at text line at' rest × (rest ≡ [])
Comes next.End at text line at' rest = text ≡ []
Comes next.LineOver at text line at' rest =
    (raw : List ℕ) × (raws : List (List ℕ)) × (raw_lines text ≡ raw ∷ raws) × PassesLine at raw
Comes next.InputOver at text line at' rest =
    (raw : List ℕ) × (raws : List (List ℕ)) × (raw_lines text ≡ raw ∷ raws) × PassesInput (at + length text) at raw
Comes next.Fault at text line at' rest = (text ≡ line ++ rest) × IsUnbroken line
