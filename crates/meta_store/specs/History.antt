-- A history of the journal, and what its entries say of numbers. The last entry stands at the end.
use Rattle.std.specs.Prelude.{ℕ, ◌+◌, ◌==◌, List, [], ◌∷◌, ◌++◌, fold, max, if◌then◌else◌, flat_map}
use Rattle.source_checkpoint.specs.declared.delta.Part.{Part}
use Rattle.meta_journal.specs.declared.entry.Act.{Act}
use Rattle.meta_journal.specs.declared.entry.Entry.{Entry}
use Rattle.meta_journal.specs.declared.entry.Act.TheVariants.{Fence, Create, Stage, Publish, Replace, Raise, MarkStaged, Remove, Retire}
use Rattle.meta_journal.specs.declared.entry.Act.TheVariants.{Task as AddTask}

pub data History : Type 0 where
  Start : History
  ◌▸◌ : History → Entry → History

infixl 20 ◌▸◌
-- the history that these entries make, the first one first
abbrev pub history : List Entry → History
history es = fold ◌▸◌ Start es

-- the entry of an act at a moment
abbrev pub at : ℕ → Act → Entry
at moment act = record { moment = moment; act = act }

-- the number of entries
abbrev pub revision_of : History → ℕ
revision_of Start = 0
revision_of (h ▸ e) = revision_of h + 1

-- the greatest moment
abbrev pub moment_of : History → ℕ
moment_of Start = 0
moment_of (h ▸ e) = max (moment_of h) e.moment

-- the opstamp of the last task, 0 for none
abbrev pub opstamp_after : Act → ℕ → ℕ
opstamp_after Fence so_far = so_far
opstamp_after (Create config) so_far = so_far
opstamp_after (Stage number delta facts) so_far = so_far
opstamp_after (Publish number) so_far = so_far
opstamp_after (Replace new old upto) so_far = so_far
opstamp_after (Raise number upto) so_far = so_far
opstamp_after (AddTask opstamp text fields times) so_far = opstamp
opstamp_after (MarkStaged numbers) so_far = so_far
opstamp_after (Remove numbers) so_far = so_far
opstamp_after (Retire numbers) so_far = so_far

abbrev pub last_opstamp : History → ℕ
last_opstamp Start = 0
last_opstamp (h ▸ e) = opstamp_after e.act (last_opstamp h)

-- the greatest number that was staged
abbrev pub number_after : Act → ℕ → ℕ
number_after Fence so_far = so_far
number_after (Create config) so_far = so_far
number_after (Stage number delta facts) so_far = max so_far number
number_after (Publish number) so_far = so_far
number_after (Replace new old upto) so_far = so_far
number_after (Raise number upto) so_far = so_far
number_after (AddTask opstamp text fields times) so_far = so_far
number_after (MarkStaged numbers) so_far = so_far
number_after (Remove numbers) so_far = so_far
number_after (Retire numbers) so_far = so_far

abbrev pub last_number : History → ℕ
last_number Start = 0
last_number (h ▸ e) = number_after e.act (last_number h)

-- what the Stage of a number said
abbrev pub delta_after : Act → (ℕ → List Part) → ℕ → List Part
delta_after Fence so_far n = so_far n
delta_after (Create config) so_far n = so_far n
delta_after (Stage number delta facts) so_far n = if n == number then delta else so_far n
delta_after (Publish number) so_far n = so_far n
delta_after (Replace new old upto) so_far n = so_far n
delta_after (Raise number upto) so_far n = so_far n
delta_after (AddTask opstamp text fields times) so_far n = so_far n
delta_after (MarkStaged numbers) so_far n = so_far n
delta_after (Remove numbers) so_far n = so_far n
delta_after (Retire numbers) so_far n = so_far n

abbrev pub delta_of : History → ℕ → List Part
delta_of Start = λ n. []
delta_of (h ▸ e) = delta_after e.act (delta_of h)

-- the last task before the Stage of a number
abbrev pub stamp_after : ℕ → Act → (ℕ → ℕ) → ℕ → ℕ
stamp_after last Fence so_far n = so_far n
stamp_after last (Create config) so_far n = so_far n
stamp_after last (Stage number delta facts) so_far n = if n == number then last else so_far n
stamp_after last (Publish number) so_far n = so_far n
stamp_after last (Replace new old upto) so_far n = so_far n
stamp_after last (Raise number upto) so_far n = so_far n
stamp_after last (AddTask opstamp text fields times) so_far n = so_far n
stamp_after last (MarkStaged numbers) so_far n = so_far n
stamp_after last (Remove numbers) so_far n = so_far n
stamp_after last (Retire numbers) so_far n = so_far n

abbrev pub stamp_of : History → ℕ → ℕ
stamp_of Start = λ n. 0
stamp_of (h ▸ e) = stamp_after (last_opstamp h) e.act (stamp_of h)

-- the ranges that a number stands for: those of its Stage's delta, or of what it replaces
abbrev pub reach_after : Act → (ℕ → List Part) → ℕ → List Part
reach_after Fence so_far n = so_far n
reach_after (Create config) so_far n = so_far n
reach_after (Stage number delta facts) so_far n = if n == number then delta else so_far n
reach_after (Publish number) so_far n = so_far n
reach_after (Replace new old upto) so_far n = if n == new then flat_map so_far old else so_far n
reach_after (Raise number upto) so_far n = so_far n
reach_after (AddTask opstamp text fields times) so_far n = so_far n
reach_after (MarkStaged numbers) so_far n = so_far n
reach_after (Remove numbers) so_far n = so_far n
reach_after (Retire numbers) so_far n = so_far n

abbrev pub reach : History → ℕ → List Part
reach Start = λ n. []
reach (h ▸ e) = reach_after e.act (reach h)

-- the numbers that were staged, and those that were published by a Publish, in the order of their entries
abbrev pub staged_after : Act → List ℕ → List ℕ
staged_after Fence so_far = so_far
staged_after (Create config) so_far = so_far
staged_after (Stage number delta facts) so_far = so_far ++ number ∷ []
staged_after (Publish number) so_far = so_far
staged_after (Replace new old upto) so_far = so_far
staged_after (Raise number upto) so_far = so_far
staged_after (AddTask opstamp text fields times) so_far = so_far
staged_after (MarkStaged numbers) so_far = so_far
staged_after (Remove numbers) so_far = so_far
staged_after (Retire numbers) so_far = so_far

abbrev pub staged_numbers : History → List ℕ
staged_numbers Start = []
staged_numbers (h ▸ e) = staged_after e.act (staged_numbers h)

abbrev pub published_after : Act → List ℕ → List ℕ
published_after Fence so_far = so_far
published_after (Create config) so_far = so_far
published_after (Stage number delta facts) so_far = so_far
published_after (Publish number) so_far = so_far ++ number ∷ []
published_after (Replace new old upto) so_far = so_far
published_after (Raise number upto) so_far = so_far
published_after (AddTask opstamp text fields times) so_far = so_far
published_after (MarkStaged numbers) so_far = so_far
published_after (Remove numbers) so_far = so_far
published_after (Retire numbers) so_far = so_far

abbrev pub published_numbers : History → List ℕ
published_numbers Start = []
published_numbers (h ▸ e) = published_after e.act (published_numbers h)

-- the numbers that were ever shown, in the order of their entries: by a Publish, or as the new row of a Replace
abbrev pub shown_after : Act → List ℕ → List ℕ
shown_after Fence so_far = so_far
shown_after (Create config) so_far = so_far
shown_after (Stage number delta facts) so_far = so_far
shown_after (Publish number) so_far = so_far ++ number ∷ []
shown_after (Replace new old upto) so_far = so_far ++ new ∷ []
shown_after (Raise number upto) so_far = so_far
shown_after (AddTask opstamp text fields times) so_far = so_far
shown_after (MarkStaged numbers) so_far = so_far
shown_after (Remove numbers) so_far = so_far
shown_after (Retire numbers) so_far = so_far

abbrev pub shown_numbers : History → List ℕ
shown_numbers Start = []
shown_numbers (h ▸ e) = shown_after e.act (shown_numbers h)
