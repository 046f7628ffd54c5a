-- How a run over the lines of an input ends, and what one line of it does.
use Rattle.std.specs.Prelude.{◌≡◌, ◌⊎◌, ◌≢◌, ℕ, ◌+◌, ◌≤◌, min, List, [], ◌∷◌, ◌++◌, length, Option, Some, None, Result, Ok, Err, bytes_eq}
use Rattle.std.specs.List.{AllByRecursion, list_any}
use Rattle.root_search.specs.Steps.{Client}
use Rattle.std.specs.declared.alloc.AllocError.{AllocError}
use Rattle.byte_fields.specs.Causes.{Rose}
use Rattle.node_run.specs.declared.drive.Accepts.{Accepts}
use Rattle.node_run.specs.declared.drive.Accepts.TheVariants as accepts
use Rattle.node_run.specs.Lines.{Spells, printed}
use Rattle.node_run.specs.Node.{Node, Line, Outcome}
use Rattle.node_run.specs.Standing.{accepts_of, is_known}
use Rattle.node_run.specs.Telling.{MayTell, LineMayTell}
use Rattle.node_run.specs.Turns.{Turn, Turns}
use Rattle.quick_node.specs.declared.error_line.End.{End as Ended}
use Rattle.quick_node.specs.declared.error_line.End.TheVariants as ended
use Rattle.quick_node.specs.Collects.{LineCollects}
use Rattle.input_lines.specs.Reading.{raw_lines, max_clients, Within}
use Rattle.quick_node.specs.Reading.{fits, fit_of, names_in, last_moment, all_read, bad_line, clients_over, line_over, input_over, stopped, Reads, FailsBehind}
use Rattle.quick_node.specs.Once.{Reaches}
use Rattle.quick_node.specs.Serve.{CutShort, WroteMost, TurnsAlong, RunAlong, End, by_reading, no_index, opening_failed, read_failed, write_failed, out_of_memory}

-- ---- one line

-- the text is a line that the node takes; it said this, and these calls of the node stand for what is behind it
pub record Does (Stands : Node → Type 0) (text : List ℕ) (node : Node) (said : Option Outcome) : Type 0 where
  pub line : Line
  pub spells : Spells text line
  pub taken : accepts_of node line ≡ accepts.Yes
  pub last : Node
  pub turn : Turn node line said last
  pub reaches : Reaches node.core last.core node.log
  pub collects : LineCollects node.core.history last.core.history said
  pub tells : LineMayTell said
  pub stands : Stands last

-- the text is a line that the node doesn't take, for this reason
abbrev pub IsNotTaken : List ℕ → Node → Accepts → Type 0
IsNotTaken text node why = (line : Line) × Spells text line × (accepts_of node line ≡ why)

-- a front of the printed outcome was written behind what was held
abbrev pub WroteFront : List ℕ → Option (List ℕ) → Outcome → Type 0
WroteFront held content outcome = (front : List ℕ) × (rest : List ℕ) × (content ≡ Some (held ++ front)) × (printed (outcome ∷ []) ≡ front ++ rest)

-- how a line with this number ended the run; before it the sink held this, and its count was so high
abbrev pub EndsLine : (Node → Type 0) → List ℕ → ℕ → Node → List ℕ → Option (List ℕ) → ℕ → ℕ → Ended → Type 0
EndsLine Stands text number node held content before after ended.Done = ⊥
EndsLine Stands text number node held content before after ended.BadWords = ⊥
EndsLine Stands text number node held content before after (ended.BadLine n) =
    (n ≡ number) × Stands node × (content ≡ Some held) × (((line : Line) → Spells text line → ⊥) ⊎ IsNotTaken text node accepts.BadLine)
EndsLine Stands text number node held content before after ended.ClientsOver =
    Stands node × (content ≡ Some held) × IsNotTaken text node accepts.TooManyClients
EndsLine Stands text number node held content before after ended.LineOver = ⊥
EndsLine Stands text number node held content before after ended.InputOver = ⊥
EndsLine Stands text number node held content before after ended.RequestsOver = ⊥
EndsLine Stands text number node held content before after ended.ConfigOver = ⊥
EndsLine Stands text number node held content before after (ended.NotOpened error) = ⊥
EndsLine Stands text number node held content before after (ended.NotMade error) = ⊥
EndsLine Stands text number node held content before after ended.ReadFault = ⊥
EndsLine Stands text number node held content before after ended.WriteFault =
    (outcome : Outcome) × Does Stands text node (Some outcome) × WroteFront held content outcome × Rose before after
EndsLine Stands text number node held content before after ended.Memory = ⊥

-- what a line of the input did: it was answered, it ended the run, or there was no memory for it
abbrev pub TakesLine : (Node → Type 0) → List ℕ → ℕ → Node → List ℕ → Option (List ℕ) → ℕ → ℕ → Result (Option Ended) AllocError → Type 0
TakesLine Stands text number node held content before after (Ok None) =
    (outcome : Outcome) × Does Stands text node (Some outcome) × (content ≡ Some (held ++ printed (outcome ∷ [])))
TakesLine Stands text number node held content before after (Ok (Some e)) = EndsLine Stands text number node held content before after e
TakesLine Stands text number node held content before after (Err refused) =
    (content ≡ Some held) × (Stands node ⊎ ((said : Option Outcome) × Does Stands text node said))

-- behind the last line the run is done
abbrev pub done_behind : Result (Option Ended) AllocError → Result (Option Ended) AllocError
done_behind (Ok None) = Ok (Some ended.Done)
done_behind (Ok (Some e)) = Ok (Some e)
done_behind (Err refused) = Err refused

-- ---- all lines

-- the end of a run over lines
abbrev pub IsRunEnd : Ended → End → Type 0
IsRunEnd ended.Done end = end ≡ by_reading all_read
IsRunEnd ended.BadWords end = ⊥
IsRunEnd (ended.BadLine number) end = end ≡ by_reading (bad_line number)
IsRunEnd ended.ClientsOver end = end ≡ by_reading clients_over
IsRunEnd ended.LineOver end = end ≡ by_reading line_over
IsRunEnd ended.InputOver end = end ≡ by_reading input_over
IsRunEnd ended.RequestsOver end = ⊥
IsRunEnd ended.ConfigOver end = ⊥
IsRunEnd (ended.NotOpened error) end = ⊥
IsRunEnd (ended.NotMade error) end = ⊥
IsRunEnd ended.ReadFault end = end ≡ read_failed
IsRunEnd ended.WriteFault end = end ≡ write_failed
IsRunEnd ended.Memory end = end ≡ out_of_memory

-- the counts of the input and of the output as a run begins and behind it
pub record Counts : Type 0 where
  pub read_before : ℕ
  pub read_after : ℕ
  pub write_before : ℕ
  pub write_after : ℕ

-- which lines were read, and why no more were answered, where this is left of the input
abbrev pub HasRunEnd : ℕ → List ℕ → Option (List ℕ) → Counts → List Line → End → Type 0
HasRunEnd readers input left counts lines (by_reading ending) = (ending ≢ stopped) × Reads readers input lines ending
HasRunEnd readers input left counts lines no_index = ⊥
HasRunEnd readers input left counts lines (opening_failed low high) = ⊥
HasRunEnd readers input left counts lines read_failed = Reads readers input lines stopped × Rose counts.read_before counts.read_after × FailsBehind input left lines
HasRunEnd readers input left counts lines write_failed = Reads readers input lines stopped × Rose counts.write_before counts.write_after
HasRunEnd readers input left counts lines out_of_memory = Reads readers input lines stopped

-- memory ran out in a line that was read
pub record StopsShort (readers : ℕ) (input : List ℕ) (node : Node) (lines : List Line) (outcomes : List Outcome) (last : Node) : Type 0 where
  pub mid : Node
  pub turns : Turns node lines outcomes mid
  pub line : Line
  pub read : Reads readers input (lines ++ line ∷ []) stopped
  pub turn : Turn mid line None last

-- what the node did
abbrev pub HasRun : ℕ → List ℕ → End → Node → List Line → List Outcome → Node → Type 0
HasRun readers input (by_reading ending) node lines outcomes last = Turns node lines outcomes last
HasRun readers input no_index node lines outcomes last = ⊥
HasRun readers input (opening_failed low high) node lines outcomes last = ⊥
HasRun readers input read_failed node lines outcomes last = Turns node lines outcomes last
HasRun readers input write_failed node lines outcomes last = Turns node lines outcomes last
HasRun readers input out_of_memory node lines outcomes last = Turns node lines outcomes last ⊎ StopsShort readers input node lines outcomes last

-- A line was written for each outcome. Where writing failed the last outcome is that of the line whose writing failed; where
-- memory ran out the last one's line may not be written.
abbrev pub HasWritten : End → List ℕ → List Outcome → Type 0
HasWritten (by_reading ending) text outcomes = text ≡ printed outcomes
HasWritten no_index text outcomes = ⊥
HasWritten (opening_failed low high) text outcomes = ⊥
HasWritten read_failed text outcomes = text ≡ printed outcomes
HasWritten write_failed text outcomes = CutShort outcomes text
HasWritten out_of_memory text outcomes = WroteMost outcomes text

-- A run over the lines of an input, with so many readers, from this node.
pub record Runs (Stands : Node → Type 0) (readers : ℕ) (input : List ℕ) (node : Node) (held : List ℕ) (content left : Option (List ℕ)) (counts : Counts) (e : Ended) : Type 0 where
  pub end : End
  pub is : IsRunEnd e end
  pub lines : List Line
  pub outcomes : List Outcome
  pub ends : HasRunEnd readers input left counts lines end
  pub last : Node
  pub did : HasRun readers input end node lines outcomes last
  pub along : RunAlong node lines outcomes last
  pub tell : AllByRecursion MayTell outcomes
  pub stands : Stands last
  pub text : List ℕ
  pub written : content ≡ Some (held ++ text)
  pub wrote : HasWritten end text outcomes
  -- the lines of all outcomes were written, or no line was begun behind the last of them
  pub printed_all : (text ≡ printed outcomes) ⊎ Turns node lines outcomes last

-- ---- a run that goes on

-- the clients are those of these names, so many and the same ones
pub record AreNamed (names : List (List ℕ)) (clients : List Client) : Type 0 where
  pub same : (name : List ℕ) → list_any (bytes_eq name) names ≡ is_known name clients
  pub long : length names ≡ length clients

-- what the node of these lines tells and knows
pub record HasAnswered (readers : ℕ) (lines : List Line) (node : Node) : Type 0 where
  pub readers_are : length node.indexers ≡ readers
  pub clock : node.core.clock ≡ last_moment 0 lines
  pub clients : AreNamed (names_in [] lines) node.clients
  pub few : length (names_in [] lines) ≤ max_clients

-- From these raw lines, behind these lines and so many bytes, these further lines are read, and those raw lines are left
-- behind so many bytes.
abbrev pub ReadsTo : ℕ → ℕ → ℕ → List Line → List (List ℕ) → List Line → ℕ → List (List ℕ) → Type 0
ReadsTo readers total at before raws [] at' raws' = (at' ≡ at) × (raws' ≡ raws)
ReadsTo readers total at before [] (line ∷ lines) at' raws' = ⊥
ReadsTo readers total at before (raw ∷ raws) (line ∷ lines) at' raws' =
    Within total at raw × Spells raw line × (fit_of readers before line ≡ fits)
    × ReadsTo readers total (at + length raw + 1) (before ++ line ∷ []) raws lines at' raws'

-- These lines of an input were read, so many bytes were taken, and this is left.
pub record HasRead (readers : ℕ) (input : List ℕ) (lines : List Line) (taken : ℕ) (rest : List ℕ) : Type 0 where
  pub at : ℕ
  pub reads : ReadsTo readers (length input) 0 [] (raw_lines input) lines at (raw_lines rest)
  pub place : taken ≡ min at (length input)
  pub whole : taken + length rest ≡ length input
  pub few : length lines ≤ taken

-- These lines were answered, and what they said was written; this is left of the input.
pub record IsGoing (Stands : Node → Type 0) (readers : ℕ) (input : List ℕ) (begun : Node) (held : List ℕ) (content left : Option (List ℕ)) (hand : List ℕ)
    (taken number : ℕ) : Type 0 where
  pub lines : List Line
  pub outcomes : List Outcome
  pub mid : Node
  pub turns : Turns begun lines outcomes mid
  pub along : TurnsAlong begun lines outcomes mid
  pub tell : AllByRecursion MayTell outcomes
  pub has : HasAnswered readers lines mid
  pub stands : Stands mid
  pub count : number ≡ length lines
  pub behind : List ℕ
  pub left_is : left ≡ Some behind
  pub read : HasRead readers input lines taken (hand ++ behind)
  pub written : content ≡ Some (held ++ printed outcomes)

-- the run goes on behind a line, or it ended
abbrev pub GoesOrEnds : (Node → Type 0) → ℕ → List ℕ → Node → List ℕ → Option (List ℕ) → Option (List ℕ) → List ℕ → ℕ → ℕ → Counts → Result (Option Ended) AllocError → Type 0
GoesOrEnds Stands readers input begun held content left hand taken number counts (Ok None) = IsGoing Stands readers input begun held content left hand taken number
GoesOrEnds Stands readers input begun held content left hand taken number counts (Ok (Some e)) = Runs Stands readers input begun held content left counts e
GoesOrEnds Stands readers input begun held content left hand taken number counts (Err refused) = Runs Stands readers input begun held content left counts ended.Memory

abbrev pub counts_of : ℕ → ℕ → ℕ → ℕ → Counts
counts_of read_before read_after write_before write_after =
    record { read_before = read_before; read_after = read_after; write_before = write_before; write_after = write_after }

-- a run that ended, or for which there was no memory
abbrev pub RunsOrShort : (Node → Type 0) → ℕ → List ℕ → Node → List ℕ → Option (List ℕ) → Option (List ℕ) → Counts → Result Ended AllocError → Type 0
RunsOrShort Stands readers input begun held content left counts (Ok e) = Runs Stands readers input begun held content left counts e
RunsOrShort Stands readers input begun held content left counts (Err refused) = Runs Stands readers input begun held content left counts ended.Memory
