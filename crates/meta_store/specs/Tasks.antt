-- The tasks of a history, with the queries that were read, and as they were asked for.
use Rattle.std.specs.Prelude.{ℕ, List, [], ◌∷◌, ◌++◌, Result, Ok, Err}
use Rattle.doc_value.specs.declared.facts.TimeRange.{TimeRange}
use Rattle.meta_journal.specs.declared.entry.Act.{Act}
use Rattle.meta_journal.specs.declared.entry.Entry.{Entry}
use Rattle.meta_journal.specs.declared.entry.Act.TheVariants.{Fence, Create, Stage, Publish, Replace, Raise, MarkStaged, Remove, Retire}
use Rattle.meta_journal.specs.declared.entry.Act.TheVariants.{Task as AddTask}
use Rattle.query_ast.specs.Sought.{Sought}
use Rattle.query_ast.specs.Sought.Sought.{Nothing}
use Rattle.query_reader.specs.declared.refusal.QueryError.{QueryError}
use Rattle.delete_tasks.specs.Removes.{DeleteTask}
use Rattle.meta_store.specs.declared.config.TaskAsk.{TaskAsk}
use Rattle.meta_store.specs.Said.{Said}
use Rattle.meta_store.specs.Readings.{Reads, reading_of, config_of}
use Rattle.meta_store.specs.History.{History}
use Rattle.meta_store.specs.History.History.{Start, ◌▸◌}

-- the query that was read; a text that doesn't read, which stands in no legal history, asks for nothing
abbrev pub query_in : Result Sought QueryError → Sought
query_in (Ok query) = query
query_in (Err error) = Nothing

abbrev pub task_of : (opstamp : ℕ) → Result Sought QueryError → TimeRange → DeleteTask
task_of opstamp query times = record { opstamp = opstamp; query = query_in query; times = times }

-- the tasks, in the order of their entries
abbrev pub tasks_after : Said → Act → List DeleteTask → List DeleteTask
tasks_after said Fence so_far = so_far
tasks_after said (Create config) so_far = so_far
tasks_after said (Stage number delta facts) so_far = so_far
tasks_after said (Publish number) so_far = so_far
tasks_after said (Replace new old upto) so_far = so_far
tasks_after said (Raise number upto) so_far = so_far
tasks_after said (AddTask opstamp text fields times) so_far = so_far ++ task_of opstamp said.query times ∷ []
tasks_after said (MarkStaged numbers) so_far = so_far
tasks_after said (Remove numbers) so_far = so_far
tasks_after said (Retire numbers) so_far = so_far

abbrev pub tasks_of : Reads → History → List DeleteTask
tasks_of reads Start = []
tasks_of reads (h ▸ e) = tasks_after (reading_of reads (config_of reads h) e.act) e.act (tasks_of reads h)

-- the same as they were asked for
abbrev pub asks_after : Act → List TaskAsk → List TaskAsk
asks_after Fence so_far = so_far
asks_after (Create config) so_far = so_far
asks_after (Stage number delta facts) so_far = so_far
asks_after (Publish number) so_far = so_far
asks_after (Replace new old upto) so_far = so_far
asks_after (Raise number upto) so_far = so_far
asks_after (AddTask opstamp text fields times) so_far = so_far ++ record { text = text; fields = fields } ∷ []
asks_after (MarkStaged numbers) so_far = so_far
asks_after (Remove numbers) so_far = so_far
asks_after (Retire numbers) so_far = so_far

abbrev pub asks_of : History → List TaskAsk
asks_of Start = []
asks_of (h ▸ e) = asks_after e.act (asks_of h)
