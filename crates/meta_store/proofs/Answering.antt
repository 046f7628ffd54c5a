-- The answers over a list of numbers, and where nothing is read.
use Rattle.std.proofs.Common.{◌≡◌, ℕ, List, Option, Some, None, Result, Ok, Err, IsOk, refl, ap, ap₂, ◌∙◌}
use Rattle.split_states.specs.declared.rows.Row.{Row}
use Rattle.split_states.specs.declared.refusal.StateRefusal.{StateRefusal}
use Rattle.meta_store.specs.declared.refusal.Refusal.{Refusal}
use Rattle.source_checkpoint.specs.Deltas.{then_answer}
use Rattle.meta_journal.specs.declared.entry.Act.{Act}
use Rattle.meta_journal.specs.declared.entry.Act.TheVariants.{Fence, Create, Stage, Publish, Replace, Raise, MarkStaged, Remove, Retire, Task as AddTask}
use Rattle.meta_store.specs.History.{at}
use Rattle.meta_store.specs.Said.{Said}
use Rattle.meta_store.specs.State.{State}
use Rattle.meta_store.specs.declared.config.Config.{Config}
use Rattle.meta_store.specs.Answers.{Answer, handed, answer_to_each, answer_to_moment, answer_by, answer_to, in_state, IsUnread, unread}

-- what a reading that is handed back, and one that isn't, say of the answer
pub handed_ok : (reading back : Said) (answer : Answer) → Ok back ≡ handed reading answer → (back ≡ reading) × IsOk answer
handed_ok reading back (Ok u) e = ((cc), refl)
handed_ok reading back (Err refusal) e = cc e

pub handed_err : (reading : Said) (refusal : Refusal) (answer : Answer) → Err refusal ≡ handed reading answer → answer ≡ Err refusal
handed_err reading refusal (Ok u) e = cc e
handed_err reading refusal (Err other) e = cc
