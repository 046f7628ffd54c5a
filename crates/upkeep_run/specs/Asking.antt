-- What a step asks of its gate.
use Rattle.std.specs.Prelude.{ℕ, ◌-◌, ◌^◌, List, [], ◌∷◌, if◌then◌else◌}
use Rattle.split_states.specs.declared.rows.Row.{Row}
use Rattle.index_world.specs.CallsMade.{Ask, of_fetch, of_plan, of_raise, of_replace, of_stage, of_upload}
use Rattle.index_world.specs.Core.{Core}
use Rattle.upkeep_run.specs.Places.{WorkerPlace, Work, fetching, held_facts, held_file, idle, staged, uploaded}
use Rattle.upkeep_run.specs.Steps.{choice_of, drops_none, first_number, held_of}
use Rattle.upkeep_run.specs.declared.work.Aim.{Aim}
use Rattle.upkeep_run.specs.declared.work.Aim.TheVariants.{Deleting, Merging}

-- a file is fetched as a whole
abbrev pub whole : ℕ
whole = 2 ^ 64 - 1

abbrev pub ask_to_close : Aim → Work → Core → Ask
ask_to_close Merging work core = of_stage [] (held_facts (held_of Merging work core 0))
ask_to_close Deleting work core = if drops_none work core then of_raise (first_number work.rows) work.upto else of_stage [] (held_facts (held_of Deleting work core 0))

abbrev pub ask_at_work : Aim → Work → List Row → Core → Ask
ask_at_work aim work [] core = ask_to_close aim work core
ask_at_work aim work (row ∷ more) core = of_fetch row.number 0 whole

-- the one call that a step at this place makes over a core
abbrev pub ask_of : Aim → WorkerPlace → Core → Ask
ask_of aim idle core = of_plan (choice_of aim)
ask_of aim (fetching work) core = ask_at_work aim work work.unfetched core
ask_of aim (staged held) core = of_upload held.number (held_file held)
ask_of aim (uploaded held) core = of_replace held.number held.old held.upto
