-- The conditions of an entry in the words of the ledger and the rows of the history before it, by what the readers say.
use Rattle.std.specs.Prelude.{ℕ, ◌≡◌, ◌≢◌, ◌+◌, ◌<◌, ◌≤◌, [], length, ⊤, IsOk}
use Rattle.std.specs.List.{AllByRecursion}
use Rattle.meta_journal.specs.declared.entry.Act.{Act}
use Rattle.meta_journal.specs.declared.entry.Act.TheVariants.{Fence, Create, Stage, Publish, Replace, Raise, MarkStaged, Remove, Retire, Task as AddTask}
use Rattle.meta_store.specs.History.{History, last_number, delta_of}
use Rattle.meta_store.specs.History.History.{Start, ◌▸◌}
use Rattle.meta_store.specs.Ledgers.{ledger}
use Rattle.meta_store.specs.Rows.{rows}
use Rattle.meta_store.specs.State.{Rises}
use Rattle.meta_store.specs.Said.{Said}
use Rattle.meta_store.specs.Readings.{Reads}
use Rattle.meta_store.specs.Tasks.{task_of}
use Rattle.meta_store.specs.declared.config.Settings.{Settings}
use Rattle.source_checkpoint.specs.Deltas.{IsDelta, MayAdmit}
use Rattle.split_states.specs.Answers.{MayPublish, MayReplace, MayMark, MayRemove, MayRetire}
use Rattle.split_states.specs.Answers.{MayRaise as MayRaiseRow}
use Rattle.delete_tasks.specs.Ledger.{MayAdd, MayRaise}

abbrev pub IsFirst : History → Type 0
IsFirst Start = ⊤
IsFirst (h ▸ e) = ⊥

abbrev pub FollowsLedger : Said → Settings → Reads → History → (moment : ℕ) → Act → Type 0
FollowsLedger reading settings reads h moment Fence = ⊤
FollowsLedger reading settings reads h moment (Create config) = ⊥
FollowsLedger reading settings reads h moment (Stage number delta facts) = (number ≡ last_number h + 1) × IsDelta delta × (length (rows h) < 100000)
FollowsLedger reading settings reads h moment (Publish number) =
    MayPublish (rows h) number × MayAdmit (delta_of h number) (ledger reads h).checkpoints × (length (ledger reads h).spans + length (delta_of h number) ≤ 1000000)
FollowsLedger reading settings reads h moment (Replace new old upto) = MayReplace (rows h) new old × MayRaise upto (ledger reads h).tasks
FollowsLedger reading settings reads h moment (Raise number upto) = MayRaiseRow (rows h) number × MayRaise upto (ledger reads h).tasks
FollowsLedger reading settings reads h moment (AddTask opstamp text fields times) =
    MayAdd (task_of opstamp reading.query times) (ledger reads h).tasks × IsOk reading.query × (length (ledger reads h).tasks < 10000)
FollowsLedger reading settings reads h moment (MarkStaged numbers) = AllByRecursion (MayMark moment settings.index.staged_grace (rows h)) numbers
FollowsLedger reading settings reads h moment (Remove numbers) = AllByRecursion (MayRemove moment settings.index.deletion_grace (rows h)) numbers
FollowsLedger reading settings reads h moment (Retire numbers) =
    (numbers ≢ []) × Rises numbers × AllByRecursion (MayRetire moment settings.period (rows h)) numbers
