-- The answer to an entry, with the order of its refusals.
use Rattle.std.specs.Prelude.{ℕ, ◌≢◌, ◌+◌, ◌==◌, List, [], ◌∷◌, length, map, if◌then◌else◌, ⊤, Option, Some, None, Result, Ok, Err, nat_lt, nat_le}
use Rattle.meta_journal.specs.declared.entry.Act.{Act}
use Rattle.meta_journal.specs.declared.entry.Entry.{Entry}
use Rattle.meta_journal.specs.declared.entry.Act.TheVariants.{Fence, Create, Stage, Publish, Replace, Raise, MarkStaged, Remove, Retire}
use Rattle.meta_journal.specs.declared.entry.Act.TheVariants.{Task as AddTask}
use Rattle.source_checkpoint.specs.declared.delta.StaleDelta.{StaleDelta}
use Rattle.source_checkpoint.specs.Deltas.{range_of, then_answer, answer_to_delta, answer_to_admit}
use Rattle.source_checkpoint.specs.Checkpoints.{checkpoint_at}
use Rattle.split_states.specs.declared.rows.Row.{Row}
use Rattle.split_states.specs.declared.refusal.StateRefusal.{StateRefusal}
use Rattle.split_states.specs.declared.refusal.StateRefusal.TheVariants.{NoRow}
use Rattle.split_states.specs.Rows.{row_at}
use Rattle.split_states.specs.Answers.{answer_to_publish, answer_to_replace, answer_to_raise, answer_to_mark, answer_to_remove, answer_to_retire}
use Rattle.meta_store.specs.declared.config.Settings.{Settings}
use Rattle.meta_store.specs.declared.config.Config.{Config}
use Rattle.meta_store.specs.Said.{Said}
use Rattle.index_config.specs.declared.config_error.ConfigError.{ConfigError}
use Rattle.query_ast.specs.Sought.{Sought}
use Rattle.index_config.specs.declared.config_error.ConfigError.TheVariants.{NotToml}
use Rattle.query_reader.specs.declared.refusal.QueryError.{QueryError}
use Rattle.query_reader.specs.declared.refusal.QueryError.TheVariants.{Syntax}
use Rattle.meta_store.specs.declared.refusal.Refusal.{Refusal}
use Rattle.meta_store.specs.declared.refusal.Refusal.TheVariants.{MomentBack, NotCreated, AlreadyCreated, BadConfig, NotNext, BadTask, UptoAhead, TooManyTasks, TooManyRows, TooManySpans}
use Rattle.meta_store.specs.declared.refusal.Refusal.TheVariants.{Delta as BadDelta, State as BadState}
use Rattle.meta_store.specs.State.{State, Rises}

abbrev pub Answer : Type 0
Answer = Result (Unit {0}) Refusal

abbrev pub in_delta : Result (Unit {0}) StaleDelta → Answer
in_delta (Ok u) = Ok tt
in_delta (Err e) = Err (BadDelta e)

abbrev pub in_state : Result (Unit {0}) StateRefusal → Answer
in_state (Ok u) = Ok tt
in_state (Err e) = Err (BadState e)

abbrev pub answer_to_moment : (given greatest : ℕ) → Answer
answer_to_moment given greatest = if nat_lt given greatest then Err (MomentBack given greatest) else Ok tt

abbrev pub answer_to_next : (given next : ℕ) → Answer
answer_to_next given next = if given == next then Ok tt else Err (NotNext given next)

abbrev pub answer_to_upto : (upto last : ℕ) → Answer
answer_to_upto upto last = if nat_lt last upto then Err (UptoAhead upto last) else Ok tt

-- a text that doesn't read is refused with the reader's own error
abbrev pub answer_to_task : Result Sought QueryError → Answer
answer_to_task (Ok query) = Ok tt
answer_to_task (Err error) = Err (BadTask error)

abbrev pub answer_to_config : Result Settings ConfigError → Answer
answer_to_config (Ok settings) = Ok tt
answer_to_config (Err error) = Err (BadConfig error)

abbrev pub answer_to_tasks : (count : ℕ) → Answer
answer_to_tasks count = if nat_lt count 10000 then Ok tt else Err (TooManyTasks count)

abbrev pub answer_to_rows : (count : ℕ) → Answer
answer_to_rows count = if nat_lt count 100000 then Ok tt else Err (TooManyRows count)

abbrev pub answer_to_spans : (count : ℕ) → Answer
answer_to_spans count = if nat_le count 1000000 then Ok tt else Err (TooManySpans count)

-- the answer to the first number that has a refusal
abbrev pub answer_to_each : (ℕ → Result (Unit {0}) StateRefusal) → List ℕ → Result (Unit {0}) StateRefusal
answer_to_each answer [] = Ok tt
answer_to_each answer (n ∷ numbers) = then_answer (answer n) (answer_to_each answer numbers)

-- a row that is to be published: its ranges, its state, and the count of live spans
abbrev pub answer_to_found : State → ℕ → Option Row → Answer
answer_to_found s n None = Err (BadState (NoRow n))
answer_to_found s n (Some row) =
    then_answer (in_delta (answer_to_admit (checkpoint_at s.checkpoints) [] (map range_of row.spans)))
    (then_answer (in_state (answer_to_publish s.rows n)) (answer_to_spans (s.span_count + length row.spans)))

-- the first act
abbrev pub answer_at_start : Said → Act → Answer
answer_at_start reading Fence = Err NotCreated
answer_at_start reading (Create config) = answer_to_config reading.config
answer_at_start reading (Stage number delta facts) = Err NotCreated
answer_at_start reading (Publish number) = Err NotCreated
answer_at_start reading (Replace new old upto) = Err NotCreated
answer_at_start reading (Raise number upto) = Err NotCreated
answer_at_start reading (AddTask opstamp text fields times) = Err NotCreated
answer_at_start reading (MarkStaged numbers) = Err NotCreated
answer_at_start reading (Remove numbers) = Err NotCreated
answer_at_start reading (Retire numbers) = Err NotCreated

-- an act behind a configuration
abbrev pub answer_behind : Said → Settings → State → (moment : ℕ) → Act → Answer
answer_behind reading settings s moment Fence = Ok tt
answer_behind reading settings s moment (Create config) = Err AlreadyCreated
answer_behind reading settings s moment (Stage number delta facts) =
    then_answer (answer_to_next number (s.last_number + 1)) (then_answer (in_delta (answer_to_delta [] delta)) (answer_to_rows (length s.rows)))
answer_behind reading settings s moment (Publish number) = answer_to_found s number (row_at s.rows number)
answer_behind reading settings s moment (Replace new old upto) = then_answer (in_state (answer_to_replace s.rows new old)) (answer_to_upto upto (s.last_opstamp))
answer_behind reading settings s moment (Raise number upto) = then_answer (in_state (answer_to_raise s.rows number)) (answer_to_upto upto (s.last_opstamp))
answer_behind reading settings s moment (AddTask opstamp text fields times) =
    then_answer (answer_to_next opstamp (s.last_opstamp + 1)) (then_answer (answer_to_task reading.query) (answer_to_tasks (length s.tasks)))
answer_behind reading settings s moment (MarkStaged numbers) = in_state (answer_to_each (λ n. answer_to_mark s.rows n moment settings.index.staged_grace) numbers)
answer_behind reading settings s moment (Remove numbers) = in_state (answer_to_each (λ n. answer_to_remove s.rows n moment settings.index.deletion_grace) numbers)
answer_behind reading settings s moment (Retire numbers) = in_state (answer_to_each (λ n. answer_to_retire s.rows n moment settings.period) numbers)

abbrev pub answer_by : Said → Option Config → State → (moment : ℕ) → Act → Answer
answer_by reading None s moment act = answer_at_start reading act
answer_by reading (Some config) s moment act = answer_behind reading config.settings s moment act

-- the answer to an entry
abbrev pub answer_to : Said → State → Entry → Answer
answer_to reading s e = then_answer (answer_to_moment e.moment s.moment) (answer_by reading s.config s e.moment e.act)

-- an act for which no text is read, and a reading that stands for it
abbrev pub IsUnread : Act → Type 0
IsUnread Fence = ⊤
IsUnread (Create config) = ⊥
IsUnread (Stage number delta facts) = ⊤
IsUnread (Publish number) = ⊤
IsUnread (Replace new old upto) = ⊤
IsUnread (Raise number upto) = ⊤
IsUnread (AddTask opstamp text fields times) = ⊥
IsUnread (MarkStaged numbers) = ⊤
IsUnread (Remove numbers) = ⊤
IsUnread (Retire numbers) = ⊤

abbrev pub unread : Said
unread = record { config = Err NotToml; query = Err (Syntax 0) }

-- where the entry may come the readings are handed back, for the state to take in
abbrev pub handed : Said → Answer → Result Said Refusal
handed reading (Ok u) = Ok reading
handed reading (Err refusal) = Err refusal

-- the numbers of a Retire as the journal can spell them: some, and rising
abbrev pub HasNumbers : Act → Type 0
HasNumbers Fence = ⊤
HasNumbers (Create config) = ⊤
HasNumbers (Stage number delta facts) = ⊤
HasNumbers (Publish number) = ⊤
HasNumbers (Replace new old upto) = ⊤
HasNumbers (Raise number upto) = ⊤
HasNumbers (AddTask opstamp text fields times) = ⊤
HasNumbers (MarkStaged numbers) = ⊤
HasNumbers (Remove numbers) = ⊤
HasNumbers (Retire numbers) = (numbers ≢ []) × Rises numbers
