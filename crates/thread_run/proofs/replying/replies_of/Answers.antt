use Rattle.std.proofs.Common.{◌≡◌, ◌∙◌, List, ap, false, map, subst, sym, ℕ}
use Rattle.std.specs.List.{AllByRecursion}
use Rattle.std.specs.declared.alloc.Global.{Global}
use Rattle.std.specs.declared.vec.Vec.{Vec}
use Rattle.search_api.specs.declared.reply.Reply.{Reply}
use Rattle.thread_run.specs.declared.serving.Answered.{Answered}
use Rattle.run_plan.specs.Dealing.{dealt}
use Rattle.thread_run.specs.Replying.{by_client, replies_by}
use Rattle.thread_run.specs.Sharing.{turns_of}
use Rattle.thread_run.specs.declared.outcome.Served.{Served}
use Rattle.thread_run.proofs.Loops.{mapped_twice}
use Rattle.thread_run.proofs.replying.replies_of.Goals as goal

-- what is dealt of these lists, which hold what was served
by_turn : (turns : List ℕ) (lists : List (Vec Answered Global)) (served : List Served) (searchers clients : ℕ) → turns ≡ turns_of searchers 0 clients → lists ≡ map (λ (one : Served). one.answered) served →
    dealt turns (map (λ (list : Vec Answered Global). list.items) lists) ≡ by_client searchers clients served
by_turn turns lists served searchers clients turns_are lists_are =
    ap (λ (t : List ℕ). dealt t (map (λ (list : Vec Answered Global). list.items) lists)) turns_are
    ∙ ap (λ (l : List (List Answered)). dealt (turns_of searchers 0 clients) l) (ap (λ (l : List (Vec Answered Global)). map (λ (list : Vec Answered Global). list.items) l) lists_are ∙ mapped_twice (λ (one : Served). one.answered) (λ (list : Vec Answered Global). list.items) served)

by_requests : (by : List ℕ) (lists : List (Vec Reply Global)) (answered all : List Answered) → answered ≡ all → lists ≡ map (λ (one : Answered). one.replies) answered → dealt by (map (λ (list : Vec Reply Global). list.items) lists) ≡ replies_by by all
by_requests by lists answered all same lists_are =
    ap (λ (l : List (List Reply)). dealt by l) (ap (λ (l : List (Vec Reply Global)). map (λ (list : Vec Reply Global). list.items) l) lists_are ∙ mapped_twice (λ (one : Answered). one.replies) (λ (list : Vec Reply Global). list.items) answered)
    ∙ ap (λ (l : List Answered). replies_by by l) same

pub returns-clause-replies : goal.returns-clause-replies
returns-clause-replies c =
    let answered = c.in_ok-answered.ensures ∙ by_turn c.as_slice.result.now c.in_ok-lists.lists.all.items c.args.served.items c.args.searchers c.args.clients (c.as_slice.ensures.value ∙ c.in_ok-turns.ensures) c.in_ok-lists.ensures.lists in
    c.in_ok-all.ensures ∙ by_requests c.args.by.now c.in_ok-replies.replies.all.items c.in_ok-answered.answered.items _ answered c.in_ok-replies.ensures.lists

pub returns-clause-answered : goal.returns-clause-answered
returns-clause-answered c e =
    let answered = c.in_ok-answered.ensures ∙ by_turn c.as_slice.result.now c.in_ok-lists.lists.all.items c.args.served.items c.args.searchers c.args.clients (c.as_slice.ensures.value ∙ c.in_ok-turns.ensures) c.in_ok-lists.ensures.lists in
    subst (λ (l : List Answered). AllByRecursion (λ (one : Answered). one.short ≡ false) l) answered (c.in_ok-replies.ensures.whole (c.either-short.ensures e).1)
