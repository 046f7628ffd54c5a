-- The ledger of a history: what was taken in and removed, told by ranges of records and by tasks as their queries were
-- read. It never looks at a row.
use Rattle.std.specs.Prelude.{flat_map}
use Rattle.meta_journal.specs.declared.entry.Act.{Act}
use Rattle.meta_journal.specs.declared.entry.Act.TheVariants.{Fence, Create, Stage, Publish, Replace, Raise, MarkStaged, Remove, Retire}
use Rattle.meta_journal.specs.declared.entry.Act.TheVariants.{Task as AddTask}
use Rattle.delete_tasks.specs.Ledger.{Ledger, vacant, admit, add_task, raise, retire}
use Rattle.meta_store.specs.Said.{Said}
use Rattle.meta_store.specs.Readings.{Reads, reading_of, config_of}
use Rattle.meta_store.specs.Tasks.{task_of}
use Rattle.meta_store.specs.History.{History, delta_of, stamp_of, reach}
use Rattle.meta_store.specs.History.History.{Start, ◌▸◌}

-- the move of an entry behind a history, by what the readers say of it
abbrev pub ledger_after : Said → History → Act → Ledger → Ledger
ledger_after said h Fence l = l
ledger_after said h (Create config) l = l
ledger_after said h (Stage number delta facts) l = l
ledger_after said h (Publish number) l = admit (delta_of h number) (stamp_of h number) l
ledger_after said h (Replace new old upto) l = raise (flat_map (reach h) old) upto l
ledger_after said h (Raise number upto) l = raise (reach h number) upto l
ledger_after said h (AddTask opstamp text fields times) l = add_task (task_of opstamp said.query times) l
ledger_after said h (MarkStaged numbers) l = l
ledger_after said h (Remove numbers) l = l
ledger_after said h (Retire numbers) l = retire (flat_map (reach h) numbers) l

abbrev pub ledger : Reads → History → Ledger
ledger reads Start = vacant
ledger reads (h ▸ e) = ledger_after (reading_of reads (config_of reads h) e.act) h e.act (ledger reads h)
