-- What becomes of a delete: its task is an entry of the journal, or as many tasks as there may be stand already.
use Rattle.std.specs.Prelude.{◌≡◌, ℕ, ◌+◌, ◌≤◌, List, [], ◌∷◌, ◌++◌, length}
use Rattle.meta_journal.specs.declared.entry.Act.TheVariants.{Task}
use Rattle.meta_journal.specs.declared.entry.Entry.{Entry}
use Rattle.meta_store.specs.History.{at, history, last_opstamp}
use Rattle.meta_store.specs.Tasks.{tasks_of}
use Rattle.meta_store.specs.declared.refusal.Refusal.{Refusal as StateRefusal}
use Rattle.meta_store.specs.declared.refusal.Refusal.TheVariants.{TooManyTasks}
use Rattle.index_world.specs.Config.{reads}
use Rattle.index_world.specs.declared.tokens.DeleteAsk.{DeleteAsk}

-- the task that is asked for, behind these entries: its opstamp is the one behind the last of theirs
abbrev pub task_behind : DeleteAsk → List Entry → (moment : ℕ) → Entry
task_behind ask entries moment = at moment (Task (last_opstamp (history entries) + 1) ask.text ask.fields ask.times)

-- The last entry is that task, behind those that were there before and others that were taken in since.
pub record EndsInTask (ask : DeleteAsk) (before after : List Entry) : Type 0 where
  pub others : List Entry
  pub moment : ℕ
  pub is : after ≡ (before ++ others) ++ task_behind ask (before ++ others) moment ∷ []

-- it is refused, since 10,000 tasks stand
pub record AreTooMany (refusal : StateRefusal) (entries : List Entry) : Type 0 where
  pub count : refusal ≡ TooManyTasks (length (tasks_of reads (history entries)))
  pub many : 10000 ≤ length (tasks_of reads (history entries))
