-- What the parts of the reader say of the machine.
use Rattle.std.specs.Prelude.{◌≡◌, Option, Ok, Err, slice_range, ◌<◌, ◌≤◌, ℕ, true, false, List, drop, length, suc, Some, None, slice_index, Result, ◌⊎◌, ◌+◌, map}
use Rattle.query_reader.specs.Kinds.{kind_of, said, names_set, ends_word}
use Rattle.query_reader.specs.Tree.{Tree, view, no_trees, trees_after}
use Rattle.query_reader.specs.Machine.{Frame, go_on, begin_special, run, state, After, InQuote, Behind, word, Role, First, Fielded, Spaced, LetterI, InSet, InRange, BehindIn, with_or, with_operand, from_operand, Want, fresh}
use Rattle.query_reader.specs.declared.kind.Kind.TheVariants.{Blank, Open, Close, SquareOpen}
use Rattle.query_reader.specs.declared.special.Member.{Member}
use Rattle.query_reader.specs.declared.special.RangeMode.{RangeMode}
use Rattle.query_reader.specs.declared.kind.Said.{Said}
use Rattle.query_reader.specs.declared.scan.Scan.{Scan}
use Rattle.query_reader.specs.declared.tree.Span.{Span}
use Rattle.query_reader.specs.declared.reader.Operand.{Operand}
use Rattle.query_reader.specs.declared.fault.QuerySyntaxError.{QuerySyntaxError}
use Rattle.query_reader.specs.declared.fault.QuerySyntaxError.TheVariants as errors
use Rattle.query_reader.specs.declared.tree.Raw.{Raw}
use Rattle.query_reader.specs.declared.fault.Fault.{Fault}
use Rattle.query_reader.specs.declared.reader.Next.{Next}
use Rattle.query_reader.specs.declared.reader.Next.TheVariants.{End, And, Or}

-- what is left of the text behind an operand
abbrev pub next_run : List ℕ → Next → Frame → List Frame → Result Tree Fault
next_run text (End n) f fs = run n (state (After true) f fs) (drop n text)
next_run text (And n) f fs = from_operand n f fs (drop n text)
next_run text (Or n) f fs = from_operand n (with_or f) fs (drop n text)

-- the next place is not before `at`, and the end is the text's or a closing bracket
abbrev pub IsNext : List ℕ → ℕ → Next → Type 0
IsNext text at (End n) = (at ≤ n) × (n ≤ length text) × (n < length text → kind_of (slice_index text n) ≡ Close)
IsNext text at (And n) = (at ≤ n) × (n ≤ length text)
IsNext text at (Or n) = (at ≤ n) × (n ≤ length text)

abbrev pub IsOperatorEnd : List ℕ → ℕ → Type 0
IsOperatorEnd text at = (at < length text) × ((kind_of (slice_index text at) ≡ Blank) ⊎ (kind_of (slice_index text at) ≡ Open))

-- what is left of the text from a place, whatever stands before it and outside
abbrev pub Rest : Type 0
Rest = Frame → List Frame → Result Tree Fault

abbrev pub quote_rest : List ℕ → Role → ℕ → Rest
quote_rest text role from f fs = run from (state (InQuote role from false) f fs) (drop from text)

abbrev pub behind_rest : List ℕ → Span → ℕ → Rest
behind_rest text field at f fs = run at (state (Behind field) f fs) (drop at text)

abbrev pub spaced_rest : List ℕ → Span → ℕ → Rest
spaced_rest text field at f fs = run at (state (Spaced field) f fs) (drop at text)

abbrev pub letter_rest : List ℕ → Span → ℕ → ℕ → Rest
letter_rest text field n at f fs = run at (state (LetterI field n) f fs) (drop at text)

abbrev pub in_rest : List ℕ → Span → ℕ → ℕ → Rest
in_rest text field n at f fs = run at (state (BehindIn field n) f fs) (drop at text)

abbrev pub set_rest : List ℕ → Span → ℕ → List Member → ℕ → Rest
set_rest text field n ms at f fs = run at (state (InSet field n ms) f fs) (drop at text)

abbrev pub range_rest : List ℕ → Span → ℕ → RangeMode → ℕ → Rest
range_rest text field n m at f fs = run at (state (InRange field n m) f fs) (drop at text)

-- where a word ends
abbrev pub word_rest : List ℕ → Role → ℕ → Scan → Rest
word_rest text role from s f fs = run s.to (state (word role from (slice_range text from s.to) s.plain s.escaped) f fs) (drop s.to text)

-- where what is asked of this field stands, or of the default fields
abbrev pub role_for : Option Span → Role
role_for None = First
role_for (Some s) = Fielded s

-- white space or an opening square bracket stands at the place
abbrev pub IsSetOpening : List ℕ → ℕ → Type 0
IsSetOpening text at = (at < length text) × ((kind_of (slice_index text at) ≡ Blank) ⊎ (kind_of (slice_index text at) ≡ SquareOpen))

-- the word is no `IN` that begins a set
abbrev pub BeginsNoSet : List ℕ → Option Span → ℕ → Scan → Type 0
BeginsNoSet text None from s = Unit {0}
BeginsNoSet text (Some field) from s = (names_set (slice_range text from s.to) ≡ false) ⊎ (IsSetOpening text s.to → ⊥)

-- behind a field and its colon, at a byte that begins no word, no quote and no white space
abbrev pub special_rest : List ℕ → Span → ℕ → Rest
special_rest text field at f fs =
    go_on at (begin_special field at (slice_index text at) (kind_of (slice_index text at)) f fs) (λ next. run (at + 1) next (drop (at + 1) text))

abbrev pub word_said : List ℕ → ℕ → Scan → Said
word_said text from s = said s.plain (slice_range text from s.to)

-- where an operand is to begin, so deep
abbrev pub sunk : ℕ → Frame → Frame
sunk depth f = record { ors = f.ors; ands = f.ands; negations = f.negations; base = f.base; deep = depth }

abbrev pub operand_rest : List ℕ → ℕ → ℕ → Rest
operand_rest text depth at f fs = from_operand at (sunk depth f) fs (drop at text)

-- behind an operand
abbrev pub behind_operand : List ℕ → Operand → Rest
behind_operand text o f fs = run o.end (state (After o.free) (with_operand f (view o.raw)) fs) (drop o.end text)

-- what a call read, seen from where it began: the operand is behind it, or the text has this fault
abbrev pub Arrives : List ℕ → Rest → Operand → Type 0
Arrives text rest o = (f : Frame) (fs : List Frame) → rest f fs ≡ behind_operand text o f fs

abbrev pub Fails : Rest → QuerySyntaxError → Type 0
Fails rest errors.Memory = Unit {0}
Fails rest (errors.Refused fault) = (f : Frame) (fs : List Frame) → rest f fs ≡ Err fault

abbrev pub Reads : List ℕ → Rest → Result Operand QuerySyntaxError → Type 0
Reads text rest (Ok o) = Arrives text rest o
Reads text rest (Err e) = Fails rest e

-- a word was scanned to its end
pub record IsScanned (text : List ℕ) (from : ℕ) (s : Scan) : Type 0 where
  pub behind : from < s.to
  pub within : s.to ≤ length text
  pub stop : s.to < length text → ends_word (kind_of (slice_index text s.to)) ≡ true
  pub done : s.escaped ≡ false

-- the same under one more negation, and behind a `NOT`
abbrev pub negated_rest : List ℕ → ℕ → ℕ → Rest
negated_rest text depth at f fs = from_operand at (record { ors = f.ors; ands = f.ands; negations = suc f.negations; base = f.base; deep = depth }) fs (drop at text)

abbrev pub sunk_word_rest : List ℕ → ℕ → ℕ → Scan → Rest
sunk_word_rest text depth from s f fs = word_rest text First from s (sunk depth f) fs

-- what is left of the text from the beginning of a bracket, or of the whole
abbrev pub group_rest : List ℕ → ℕ → ℕ → List Frame → Result Tree Fault
group_rest text depth from fs = run from (state (Want true) (fresh depth) fs) (drop from text)

abbrev pub group_end : List ℕ → ℕ → Operand → List Frame → Result Tree Fault
group_end text depth o fs = run o.end (state (After true) (with_operand (fresh depth) (view o.raw)) fs) (drop o.end text)

abbrev pub ReadsGroup : List ℕ → ℕ → (List Frame → Result Tree Fault) → Result Operand QuerySyntaxError → Type 0
ReadsGroup text depth rest (Ok o) = (fs : List Frame) → rest fs ≡ group_end text depth o fs
ReadsGroup text depth rest (Err errors.Memory) = Unit {0}
ReadsGroup text depth rest (Err (errors.Refused fault)) = (fs : List Frame) → rest fs ≡ Err fault

-- a fact of the fault, where the call did not fail for memory
abbrev pub OnFault : QuerySyntaxError → (Fault → Type 0) → Type 0
OnFault errors.Memory P = Unit {0}
OnFault (errors.Refused fault) P = P fault

-- the frame behind some members of a bracket
abbrev pub members : ℕ → List Raw → List Raw → Frame
members depth ors ands = record { ors = trees_after no_trees (map view ors); ands = trees_after no_trees (map view ands); negations = 0; base = depth; deep = depth }
