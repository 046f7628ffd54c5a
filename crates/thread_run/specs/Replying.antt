-- The replies of a run in the order of its requests.
use Rattle.std.specs.Prelude.{ℕ, List, map}
use Rattle.search_api.specs.declared.reply.Reply.{Reply}
use Rattle.thread_run.specs.declared.serving.Answered.{Answered}
use Rattle.run_plan.specs.Dealing.{dealt}
use Rattle.thread_run.specs.Sharing.{turns_of}
use Rattle.thread_run.specs.declared.outcome.Served.{Served}

-- what each of so many clients was answered, in their order: what the searchers answered is dealt back in turn
abbrev pub by_client : (searchers clients : ℕ) → List Served → List Answered
by_client searchers clients served = dealt (turns_of searchers 0 clients) (map (λ (one : Served). one.answered.items) served)

-- the replies to all, in the order of the requests, of each of which it is told which client asks it
abbrev pub replies_by : (by : List ℕ) → List Answered → List Reply
replies_by by answered = dealt by (map (λ (one : Answered). one.replies.items) answered)
