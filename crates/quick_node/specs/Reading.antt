-- How the input of a schedule is read: line by line, up to its end or to the first line that isn't answered.
use Rattle.std.specs.Prelude.{◌≡◌, ◌⊎◌, ℕ, zero, suc, ◌+◌, ◌<◌, ◌≤◌, ◌==◌, Bool, true, false, List, [], ◌∷◌, ◌++◌, length, Option, Some, min, nat_le, nat_lt, if◌then◌else◌, bytes_eq}
use Rattle.std.specs.List.{list_any}
use Rattle.node_run.specs.Lines.{Spells}
use Rattle.node_run.specs.Node.{Line, At, Assign, StepIndexer, RestartIndexer, RestartClient, StepMerger, RestartMerger, StepDeleter, RestartDeleter, StepCollector, RestartCollector, RestartNode, Open, StepClient}

abbrev pub onto_line : ℕ → List (List ℕ) → List (List ℕ)
onto_line c [] = (c ∷ []) ∷ []
onto_line c (line ∷ lines) = (c ∷ line) ∷ lines

-- the lines of a text; each ends with a line feed, which the last may lack
abbrev pub raw_lines : List ℕ → List (List ℕ)
raw_lines [] = []
raw_lines (c ∷ text) = if c == 10 then [] ∷ raw_lines text else onto_line c (raw_lines text)

abbrev pub max_input : ℕ
max_input = 1073741824

abbrev pub max_line : ℕ
max_line = 2097152

abbrev pub max_clients : ℕ
max_clients = 10000

-- the greatest length of a configuration
abbrev pub max_config : ℕ
max_config = 1048576

-- ---- whether a line may stand behind those before it

pub data Fit : Type 0 where
  fits : Fit
  falls_or_unknown : Fit
  too_many_clients : Fit

abbrev pub last_moment : ℕ → List Line → ℕ
last_moment moment [] = moment
last_moment moment (At m ∷ lines) = last_moment m lines
last_moment moment (Assign i names ∷ lines) = last_moment moment lines
last_moment moment (StepIndexer i ∷ lines) = last_moment moment lines
last_moment moment (RestartIndexer i ∷ lines) = last_moment moment lines
last_moment moment (RestartClient name ∷ lines) = last_moment moment lines
last_moment moment (StepMerger ∷ lines) = last_moment moment lines
last_moment moment (RestartMerger ∷ lines) = last_moment moment lines
last_moment moment (StepDeleter ∷ lines) = last_moment moment lines
last_moment moment (RestartDeleter ∷ lines) = last_moment moment lines
last_moment moment (StepCollector ∷ lines) = last_moment moment lines
last_moment moment (RestartCollector ∷ lines) = last_moment moment lines
last_moment moment (RestartNode ∷ lines) = last_moment moment lines
last_moment moment (Open name text ∷ lines) = last_moment moment lines
last_moment moment (StepClient name ∷ lines) = last_moment moment lines

abbrev pub with_client_name : List ℕ → List (List ℕ) → List (List ℕ)
with_client_name name names = if list_any (bytes_eq name) names then names else name ∷ names

-- the names of clients, each once
abbrev pub names_in : List (List ℕ) → List Line → List (List ℕ)
names_in names [] = names
names_in names (At m ∷ lines) = names_in names lines
names_in names (Assign i parts ∷ lines) = names_in names lines
names_in names (StepIndexer i ∷ lines) = names_in names lines
names_in names (RestartIndexer i ∷ lines) = names_in names lines
names_in names (RestartClient name ∷ lines) = names_in (with_client_name name names) lines
names_in names (StepMerger ∷ lines) = names_in names lines
names_in names (RestartMerger ∷ lines) = names_in names lines
names_in names (StepDeleter ∷ lines) = names_in names lines
names_in names (RestartDeleter ∷ lines) = names_in names lines
names_in names (StepCollector ∷ lines) = names_in names lines
names_in names (RestartCollector ∷ lines) = names_in names lines
names_in names (RestartNode ∷ lines) = names_in names lines
names_in names (Open name text ∷ lines) = names_in (with_client_name name names) lines
names_in names (StepClient name ∷ lines) = names_in (with_client_name name names) lines

abbrev pub fit_if : Bool → Fit → Fit
fit_if true other = fits
fit_if false other = other

abbrev pub client_fit : List Line → List ℕ → Fit
client_fit before name = fit_if (nat_le (length (with_client_name name (names_in [] before))) max_clients) too_many_clients

abbrev pub fit_of : ℕ → List Line → Line → Fit
fit_of readers before (At moment) = fit_if (nat_le (last_moment 0 before) moment) falls_or_unknown
fit_of readers before (Assign i names) = fit_if (nat_lt i readers) falls_or_unknown
fit_of readers before (StepIndexer i) = fit_if (nat_lt i readers) falls_or_unknown
fit_of readers before (RestartIndexer i) = fit_if (nat_lt i readers) falls_or_unknown
fit_of readers before (RestartClient name) = client_fit before name
fit_of readers before StepMerger = fits
fit_of readers before RestartMerger = fits
fit_of readers before StepDeleter = fits
fit_of readers before RestartDeleter = fits
fit_of readers before StepCollector = fits
fit_of readers before RestartCollector = fits
fit_of readers before RestartNode = fits
fit_of readers before (Open name text) = client_fit before name
fit_of readers before (StepClient name) = client_fit before name

-- ---- the reading

-- how a reading ends: at the input's end; at a line that is none, counted from 1; at a limit; or earlier, by some fault
pub data Ending : Type 0 where
  all_read : Ending
  bad_line : (number : ℕ) → Ending
  clients_over : Ending
  line_over : Ending
  input_over : Ending
  stopped : Ending

-- how many bytes stand up to and with the line feed of this line, which the last line of an input may lack
abbrev pub end_of : ℕ → ℕ → List ℕ → ℕ
end_of total at raw = min (at + length raw + 1) total

-- a line within the two limits on bytes, where so many bytes stand before it
abbrev pub Within : ℕ → ℕ → List ℕ → Type 0
Within total at raw = (length raw ≤ max_line) × (end_of total at raw ≤ max_input)

-- the limit on a line is passed, and at no later byte than the one on the input
abbrev pub PassesLine : ℕ → List ℕ → Type 0
PassesLine at raw = (max_line < length raw) × (at + max_line ≤ max_input)

-- the limit on the input is passed, and the one on a line at no byte up to there
abbrev pub PassesInput : ℕ → ℕ → List ℕ → Type 0
PassesInput total at raw = (max_input < end_of total at raw) × (PassesLine at raw → ⊥)

abbrev pub IsBad : ℕ → List Line → List ℕ → Type 0
IsBad readers before raw =
    ((line : Line) → Spells raw line → ⊥) ⊎ ((line : Line) × Spells raw line × (fit_of readers before line ≡ falls_or_unknown))

-- why the reading ends at this line; of two limits it is the one that is passed at the earlier byte, and at one byte the line's
abbrev pub EndsAt : ℕ → ℕ → ℕ → List Line → List ℕ → Ending → Type 0
EndsAt readers total at before raw all_read = ⊥
EndsAt readers total at before raw (bad_line number) = Within total at raw × (number ≡ suc (length before)) × IsBad readers before raw
EndsAt readers total at before raw clients_over =
    Within total at raw × ((line : Line) × Spells raw line × (fit_of readers before line ≡ too_many_clients))
EndsAt readers total at before raw line_over = PassesLine at raw
EndsAt readers total at before raw input_over = PassesInput total at raw
EndsAt readers total at before raw stopped = Unit {0}

-- From these raw lines, behind these lines and so many bytes, these further lines are read, and the reading ends so.
abbrev pub ReadsFrom : ℕ → ℕ → ℕ → List Line → List (List ℕ) → List Line → Ending → Type 0
ReadsFrom readers total at before [] [] ending = (ending ≡ all_read) ⊎ (ending ≡ stopped)
ReadsFrom readers total at before [] (line ∷ lines) ending = ⊥
ReadsFrom readers total at before (raw ∷ raws) [] ending = EndsAt readers total at before raw ending
ReadsFrom readers total at before (raw ∷ raws) (line ∷ lines) ending =
    Within total at raw × Spells raw line × (fit_of readers before line ≡ fits)
    × ReadsFrom readers total (at + length raw + 1) (before ++ line ∷ []) raws lines ending

-- how many bytes stand before the line feed of the line behind so many lines, or all where there is none
abbrev pub feed_behind : ℕ → List (List ℕ) → (lines : ℕ) → ℕ
feed_behind at [] lines = at
feed_behind at (raw ∷ raws) zero = at + length raw
feed_behind at (raw ∷ raws) (suc lines) = feed_behind (at + length raw + 1) raws lines

-- The input failed in the line behind so many lines: this is left of it, and the line feed of that line was not read.
abbrev pub FailsAfter : List ℕ → Option (List ℕ) → (lines : ℕ) → Type 0
FailsAfter input left lines = (rest : List ℕ) × (left ≡ Some rest) × (length input ≤ feed_behind 0 (raw_lines input) lines + length rest)

abbrev pub next_feed : ℕ → List (List ℕ) → List Line → ℕ
next_feed at raws lines = feed_behind at raws (length lines)

abbrev pub FailsBehind : List ℕ → Option (List ℕ) → List Line → Type 0
FailsBehind input left lines = FailsAfter input left (length lines)

-- the input is read as these lines by so many readers of logs, and the reading ends so
abbrev pub Reads : ℕ → List ℕ → List Line → Ending → Type 0
Reads readers input lines ending = ReadsFrom readers (length input) 0 [] (raw_lines input) lines ending
