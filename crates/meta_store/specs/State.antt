-- What the conditions look at, and which entry may come next.
use Rattle.std.specs.Prelude.{ℕ, ◌≡◌, ◌≢◌, ◌+◌, ◌-◌, ◌<◌, ◌≤◌, List, [], ◌∷◌, length, map, max, ⊤, Option, Some, None, IsOk}
use Rattle.std.specs.List.{AllByRecursion}
use Rattle.meta_journal.specs.declared.entry.Act.{Act}
use Rattle.meta_journal.specs.declared.entry.Entry.{Entry}
use Rattle.meta_journal.specs.declared.entry.Act.TheVariants.{Fence, Create, Stage, Publish, Replace, Raise, MarkStaged, Remove, Retire}
use Rattle.meta_journal.specs.declared.entry.Act.TheVariants.{Task as AddTask}
use Rattle.source_checkpoint.specs.declared.delta.Part.{Part}
use Rattle.source_checkpoint.specs.declared.ledger.Checkpoint.{Checkpoint}
use Rattle.source_checkpoint.specs.Deltas.{range_of, IsDelta, MayAdmit}
use Rattle.source_checkpoint.specs.Checkpoints.{checkpoint_at, move_all}
use Rattle.split_states.specs.declared.rows.Row.{Row}
use Rattle.split_states.specs.Rows.{row_ranges, joined_spans}
use Rattle.split_states.specs.Answers.{MayPublish, MayReplace, MayRaise, MayMark, MayRemove, MayRetire}
use Rattle.delete_tasks.specs.Removes.{DeleteTask}
use Rattle.meta_store.specs.declared.config.Settings.{Settings}
use Rattle.meta_store.specs.declared.config.Config.{Config}
use Rattle.meta_store.specs.declared.config.TaskAsk.{TaskAsk}
use Rattle.meta_store.specs.Said.{Said}
use Rattle.meta_store.specs.Readings.{Reads, reading_of, config_after, config_of}
use Rattle.meta_store.specs.Tasks.{tasks_after, tasks_of, asks_after, asks_of}
use Rattle.meta_store.specs.History.{History, revision_of, moment_of, opstamp_after, last_opstamp, number_after, last_number}
use Rattle.meta_store.specs.History.History.{Start, ◌▸◌}
use Rattle.meta_store.specs.Retired.{with_ranges}
use Rattle.meta_store.specs.Rows.{rows_after, rows}

-- all that is kept of the entries
pub record State : Type 0 where
  pub revision : ℕ
  pub moment : ℕ
  pub config : Option Config
  pub last_number : ℕ
  -- the opstamp of the last task, 0 for none
  pub last_opstamp : ℕ
  pub tasks : List DeleteTask
  -- the same as they were asked for
  pub asks : List TaskAsk
  pub span_count : ℕ
  pub checkpoints : List Checkpoint
  pub rows : List Row
  pub retired : List Part

abbrev pub span_count_after : Act → List Row → ℕ → ℕ
span_count_after Fence rows so_far = so_far
span_count_after (Create config) rows so_far = so_far
span_count_after (Stage number delta facts) rows so_far = so_far
span_count_after (Publish number) rows so_far = so_far + length (row_ranges rows number)
span_count_after (Replace new old upto) rows so_far = so_far
span_count_after (Raise number upto) rows so_far = so_far
span_count_after (AddTask opstamp text fields times) rows so_far = so_far
span_count_after (MarkStaged numbers) rows so_far = so_far
span_count_after (Remove numbers) rows so_far = so_far
span_count_after (Retire numbers) rows so_far = so_far - length (joined_spans rows numbers)

abbrev pub checkpoints_after : Act → List Row → List Checkpoint → List Checkpoint
checkpoints_after Fence rows so_far = so_far
checkpoints_after (Create config) rows so_far = so_far
checkpoints_after (Stage number delta facts) rows so_far = so_far
checkpoints_after (Publish number) rows so_far = move_all (row_ranges rows number) so_far
checkpoints_after (Replace new old upto) rows so_far = so_far
checkpoints_after (Raise number upto) rows so_far = so_far
checkpoints_after (AddTask opstamp text fields times) rows so_far = so_far
checkpoints_after (MarkStaged numbers) rows so_far = so_far
checkpoints_after (Remove numbers) rows so_far = so_far
checkpoints_after (Retire numbers) rows so_far = so_far

abbrev pub retired_after : Act → List Row → List Part → List Part
retired_after Fence rows so_far = so_far
retired_after (Create config) rows so_far = so_far
retired_after (Stage number delta facts) rows so_far = so_far
retired_after (Publish number) rows so_far = so_far
retired_after (Replace new old upto) rows so_far = so_far
retired_after (Raise number upto) rows so_far = so_far
retired_after (AddTask opstamp text fields times) rows so_far = so_far
retired_after (MarkStaged numbers) rows so_far = so_far
retired_after (Remove numbers) rows so_far = so_far
retired_after (Retire numbers) rows so_far = with_ranges (map range_of (joined_spans rows numbers)) so_far

-- the state behind an entry
abbrev pub after : Said → Entry → State → State
after reading e s = record {
  revision = s.revision + 1;
  moment = max s.moment e.moment;
  config = config_after reading e.act s.config;
  last_number = number_after e.act s.last_number;
  last_opstamp = opstamp_after e.act s.last_opstamp;
  tasks = tasks_after reading e.act s.tasks;
  asks = asks_after e.act s.asks;
  span_count = span_count_after e.act s.rows s.span_count;
  checkpoints = checkpoints_after e.act s.rows s.checkpoints;
  rows = rows_after s.last_opstamp e.moment e.act s.rows;
  retired = retired_after e.act s.rows s.retired;
}

-- the parts of a history's state
abbrev pub span_count_of : History → ℕ
span_count_of Start = 0
span_count_of (h ▸ e) = span_count_after e.act (rows h) (span_count_of h)

abbrev pub checkpoints_of : History → List Checkpoint
checkpoints_of Start = []
checkpoints_of (h ▸ e) = checkpoints_after e.act (rows h) (checkpoints_of h)

abbrev pub retired_of : History → List Part
retired_of Start = []
retired_of (h ▸ e) = retired_after e.act (rows h) (retired_of h)

abbrev pub state_of : Reads → History → State
state_of reads h = record {
  revision = revision_of h;
  moment = moment_of h;
  config = config_of reads h;
  last_number = last_number h;
  last_opstamp = last_opstamp h;
  tasks = tasks_of reads h;
  asks = asks_of h;
  span_count = span_count_of h;
  checkpoints = checkpoints_of h;
  rows = rows h;
  retired = retired_of h;
}

-- each number is below the next
abbrev pub Rises : List ℕ → Type 0
Rises [] = ⊤
Rises (n ∷ []) = ⊤
Rises (n ∷ m ∷ numbers) = (n < m) × Rises (m ∷ numbers)

-- which act may come first
abbrev pub Begins : Said → Act → Type 0
Begins reading Fence = ⊥
Begins reading (Create config) = IsOk reading.config
Begins reading (Stage number delta facts) = ⊥
Begins reading (Publish number) = ⊥
Begins reading (Replace new old upto) = ⊥
Begins reading (Raise number upto) = ⊥
Begins reading (AddTask opstamp text fields times) = ⊥
Begins reading (MarkStaged numbers) = ⊥
Begins reading (Remove numbers) = ⊥
Begins reading (Retire numbers) = ⊥

-- which act may come behind a configuration
abbrev pub Follows : Said → Settings → State → (moment : ℕ) → Act → Type 0
Follows reading settings s moment Fence = ⊤
Follows reading settings s moment (Create config) = ⊥
Follows reading settings s moment (Stage number delta facts) = (number ≡ s.last_number + 1) × IsDelta delta × (length s.rows < 100000)
Follows reading settings s moment (Publish number) =
    MayPublish s.rows number × MayAdmit (row_ranges s.rows number) (checkpoint_at s.checkpoints) × (s.span_count + length (row_ranges s.rows number) ≤ 1000000)
Follows reading settings s moment (Replace new old upto) = MayReplace s.rows new old × (upto ≤ s.last_opstamp)
Follows reading settings s moment (Raise number upto) = MayRaise s.rows number × (upto ≤ s.last_opstamp)
Follows reading settings s moment (AddTask opstamp text fields times) = (opstamp ≡ s.last_opstamp + 1) × IsOk reading.query × (length s.tasks < 10000)
Follows reading settings s moment (MarkStaged numbers) = AllByRecursion (MayMark moment settings.index.staged_grace s.rows) numbers
Follows reading settings s moment (Remove numbers) = AllByRecursion (MayRemove moment settings.index.deletion_grace s.rows) numbers
Follows reading settings s moment (Retire numbers) = (numbers ≢ []) × Rises numbers × AllByRecursion (MayRetire moment settings.period s.rows) numbers

abbrev pub MayCome : Said → Option Config → State → (moment : ℕ) → Act → Type 0
MayCome reading None s moment act = Begins reading act
MayCome reading (Some config) s moment act = Follows reading config.settings s moment act

-- which entry may come next, by what the readers say of it
abbrev pub MayFollow : Said → State → Entry → Type 0
MayFollow reading s e = (s.moment ≤ e.moment) × MayCome reading s.config s e.moment e.act

-- each entry meets its condition at its place
abbrev pub Legal : Reads → History → Type 0
Legal reads Start = ⊤
Legal reads (h ▸ e) = Legal reads h × MayFollow (reading_of reads (config_of reads h) e.act) (state_of reads h) e
