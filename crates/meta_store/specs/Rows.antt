-- The rows of a history.
use Rattle.std.specs.Prelude.{ℕ, List, [], ◌∷◌, ◌++◌, map}
use Rattle.meta_journal.specs.declared.entry.Act.{Act}
use Rattle.meta_journal.specs.declared.entry.Act.TheVariants.{Fence, Create, Stage, Publish, Replace, Raise, MarkStaged, Remove, Retire}
use Rattle.meta_journal.specs.declared.entry.Act.TheVariants.{Task as AddTask}
use Rattle.source_checkpoint.specs.Deltas.{spans_of, raised}
use Rattle.split_states.specs.declared.rows.Row.{Row}
use Rattle.split_states.specs.Rows.{staged, published, marked, raised_row, replacing, change, change_each, without_each, joined_spans, merged_ops}
use Rattle.meta_store.specs.History.{History, last_opstamp}
use Rattle.meta_store.specs.History.History.{Start, ◌▸◌}

-- the change of an entry, behind the task `last` and at its moment
abbrev pub rows_after : (last moment : ℕ) → Act → List Row → List Row
rows_after last moment Fence rows = rows
rows_after last moment (Create config) rows = rows
rows_after last moment (Stage number delta facts) rows = rows ++ staged number (spans_of last delta) facts moment ∷ []
rows_after last moment (Publish number) rows = change number published rows
rows_after last moment (Replace new old upto) rows =
    change new (replacing (map (raised upto) (joined_spans rows old)) (merged_ops rows old)) (change_each old (marked moment) rows)
rows_after last moment (Raise number upto) rows = change number (raised_row upto) rows
rows_after last moment (AddTask opstamp text fields times) rows = rows
rows_after last moment (MarkStaged numbers) rows = change_each numbers (marked moment) rows
rows_after last moment (Remove numbers) rows = without_each numbers rows
rows_after last moment (Retire numbers) rows = change_each numbers (marked moment) rows

abbrev pub rows : History → List Row
rows Start = []
rows (h ▸ e) = rows_after (last_opstamp h) e.moment e.act (rows h)
