-- What the two reports on an index say: words in lines.
use Rattle.std.specs.Prelude.{ℕ, Bool, true, false, List, [], ◌∷◌, ◌++◌, map, filter, flat_map, sum_by, count_by, Option, Some, None, decimal, codes}
use Rattle.std.specs.Fmt.{signed_decimal}
use Rattle.source_checkpoint.specs.declared.span.Span.{Span}
use Rattle.source_checkpoint.specs.declared.ledger.Checkpoint.{Checkpoint}
use Rattle.split_states.specs.declared.facts.Times.{Times}
use Rattle.split_states.specs.declared.rows.RowState.TheVariants.{Staged, Published, Marked}
use Rattle.split_states.specs.declared.rows.RowState.{RowState}
use Rattle.split_states.specs.declared.rows.Row.{Row}
use Rattle.split_states.specs.Rows.{is_published}
use Rattle.meta_store.specs.State.{State}

-- a blank before each word, and the line feed at the end
abbrev pub line_on : List (List ℕ) → List ℕ
line_on [] = 10 ∷ []
line_on (word ∷ more) = 32 ∷ (word ++ line_on more)

-- a line: its words with one blank between, and a line feed
abbrev pub line : List (List ℕ) → List ℕ
line [] = 10 ∷ []
line (word ∷ more) = word ++ line_on more

abbrev pub state_word : RowState → List ℕ
state_word Staged = codes "staged"
state_word Published = codes "published"
state_word Marked = codes "marked"

abbrev pub times_word : Option Times → List ℕ
times_word None = codes "none"
times_word (Some times) = signed_decimal times.least ++ (codes ".." ++ signed_decimal times.greatest)

-- partition:from-to:admitted:applied
abbrev pub span_word : Span → List ℕ
span_word s = s.partition ++ (58 ∷ (decimal s.from ++ (45 ∷ (decimal s.to ++ (58 ∷ (decimal s.admitted ++ (58 ∷ decimal s.applied)))))))

abbrev pub span_words : List Span → List (List ℕ)
span_words [] = codes "none" ∷ []
span_words (s ∷ spans) = map span_word (s ∷ spans)

abbrev pub row_line : Row → List ℕ
row_line row =
    line (decimal row.number ∷ state_word row.state ∷ codes "docs" ∷ decimal row.facts.docs ∷ codes "rejected" ∷ decimal row.facts.rejected
    ∷ codes "merges" ∷ decimal row.merge_ops ∷ codes "times" ∷ times_word row.facts.times ∷ codes "spans" ∷ span_words row.spans)

-- `splits`: a line for each row
unfoldable pub splits_text : List Row → List ℕ
splits_text rows = flat_map row_line rows

-- ---- the index as a whole

abbrev pub is_staged : RowState → Bool
is_staged Staged = true
is_staged Published = false
is_staged Marked = false

abbrev pub is_marked : RowState → Bool
is_marked Staged = false
is_marked Published = false
is_marked Marked = true

-- how many rows stand so
abbrev pub count_of : (RowState → Bool) → List Row → ℕ
count_of stands rows = count_by (λ row. stands row.state) rows

abbrev pub published : List Row → List Row
published rows = filter (λ row. is_published row.state) rows

-- the documents of the Published rows, and the records of their ranges that were refused
abbrev pub docs_of : List Row → ℕ
docs_of rows = sum_by (λ row. row.facts.docs) (published rows)

abbrev pub rejected_of : List Row → ℕ
rejected_of rows = sum_by (λ row. row.facts.rejected) (published rows)

abbrev pub states_line : List Row → List ℕ
states_line rows =
    line (codes "staged" ∷ decimal (count_of is_staged rows) ∷ codes "published" ∷ decimal (count_of is_published rows)
    ∷ codes "marked" ∷ decimal (count_of is_marked rows) ∷ [])

abbrev pub records_line : List Row → List ℕ
records_line rows = line (codes "docs" ∷ decimal (docs_of rows) ∷ codes "rejected" ∷ decimal (rejected_of rows) ∷ [])

abbrev pub checkpoint_line : Checkpoint → List ℕ
checkpoint_line c = line (codes "checkpoint" ∷ c.partition ∷ decimal c.at ∷ [])

-- `describe`: the revision, the last task, the rows, and a line for each partition
unfoldable pub describe_text : State → List ℕ
describe_text s =
    line (codes "revision" ∷ decimal s.revision ∷ []) ++ line (codes "opstamp" ∷ decimal s.last_opstamp ∷ [])
    ++ states_line s.rows ++ records_line s.rows ++ flat_map checkpoint_line s.checkpoints
