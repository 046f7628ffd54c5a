-- What came of the jobs of a run, by their kinds.
use Rattle.std.specs.Prelude.{◌≡◌, ◌+◌, ◌≤◌, ℕ, List, [], ◌∷◌, ◌++◌, vec_capacity, vec_len}
use Rattle.thread_run.specs.declared.job.Done.{Done}
use Rattle.thread_run.specs.declared.job.Done.TheVariants as done
use Rattle.thread_run.specs.Gathering.{gathered}
use Rattle.thread_run.specs.declared.outcome.Indexed.{Indexed}
use Rattle.thread_run.specs.declared.outcome.Outcome.{Outcome}
use Rattle.thread_run.specs.declared.outcome.Served.{Served}
use Rattle.thread_run.specs.declared.end_lines.ActorEnd.{ActorEnd}
use Rattle.thread_run.specs.declared.end_lines.ActorEnd.TheVariants as ends

module _ {L : Type 0} where
  -- an indexer that ended
  abbrev pub indexed_of : Done L → List (Indexed L)
  indexed_of (done.Indexed reader end) = record { indexer = reader; end = end } ∷ []
  indexed_of (done.Answered answered short) = []
  indexed_of (done.Merged end) = []
  indexed_of (done.Deleted end) = []
  indexed_of (done.Collected end) = []

  -- what a searcher answered
  abbrev pub served_of : Done L → List Served
  served_of (done.Indexed reader end) = []
  served_of (done.Answered answered short) = record { answered = answered; short = short } ∷ []
  served_of (done.Merged end) = []
  served_of (done.Deleted end) = []
  served_of (done.Collected end) = []

  -- the end of a merger, a delete worker or a collector
  abbrev pub end_of : Done L → List ActorEnd
  end_of (done.Indexed reader end) = []
  end_of (done.Answered answered short) = []
  end_of (done.Merged end) = ends.Merger end ∷ []
  end_of (done.Deleted end) = ends.Deleter end ∷ []
  end_of (done.Collected end) = ends.Collector end ∷ []

  abbrev pub Vacant : Outcome L → Type 0
  Vacant outcome = (outcome.indexed.items ≡ []) × (outcome.served.items ≡ []) × (outcome.ends.items ≡ [])

  -- for so many more
  abbrev pub HasRoom : ℕ → Outcome L → Type 0
  HasRoom more outcome =
      (vec_len outcome.indexed + more ≤ vec_capacity outcome.indexed) × (vec_len outcome.served + more ≤ vec_capacity outcome.served) × (vec_len outcome.ends + more ≤ vec_capacity outcome.ends)

  -- it went to its kind, behind the others
  abbrev pub Adds : Outcome L → Done L → Outcome L → Type 0
  Adds old one new =
      (new.indexed.items ≡ old.indexed.items ++ indexed_of one) × (new.served.items ≡ old.served.items ++ served_of one) × (new.ends.items ≡ old.ends.items ++ end_of one)

-- all that ended, each under its kind, in their order
abbrev pub IsOutcome : {L : Type 0} → List (Done L) → Outcome L → Type 0
IsOutcome all outcome = (outcome.indexed.items ≡ gathered indexed_of all) × (outcome.served.items ≡ gathered served_of all) × (outcome.ends.items ≡ gathered end_of all)
