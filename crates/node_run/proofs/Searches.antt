-- What a searcher's step tells.
use Rattle.std.specs.Prelude.{Result, Ok, Err, IfOk}
use Rattle.std.specs.declared.alloc.AllocError.{AllocError}
use Rattle.clock_time.specs.declared.clock.ScriptClock.{ScriptClock}
use Rattle.index_world.specs.DirectLaws.{AnyNumber, Anything, config_kept}
use Rattle.index_world.specs.Gate.{NoneBetween}
use Rattle.index_world.specs.declared.direct.Direct.{Direct}
use Rattle.root_search.specs.Leaving.{StepLeaves}
use Rattle.root_search.specs.StepPlans.{StepPlans}
use Rattle.root_search.specs.StepReads.{StepAnswers, StepReads}
use Rattle.root_search.specs.declared.outcome.SearchStep.{SearchStep}
use Rattle.root_search.specs.declared.searcher.Searcher.{Searcher}
use Rattle.node_run.specs.Printing.{AnswersAlone, StandsAlone, TellsSearch, drawn, told_alone}

pub tells_search : {S : Type 0} (before after : Searcher) (result : Result SearchStep AllocError) (old new : Direct S ScriptClock) →
    StepPlans StandsAlone NoneBetween AnyNumber Anything drawn AnswersAlone (config_kept old.world) before after result old new →
    StepReads StandsAlone NoneBetween AnyNumber Anything drawn told_alone AnswersAlone before after result old new →
    StepAnswers (config_kept old.world) before result → StepLeaves before result after → IfOk result (λ outcome. TellsSearch before after outcome old new)
tells_search before after (Ok outcome) old new plans reads answers leaves = record { plans = plans; reads = reads; answers = answers; leaves = leaves }
tells_search before after (Err refused) old new plans reads answers leaves = tt
