-- The replies to all requests, from what the searchers answered.
use Rattle.std.proofs.Common.{◌≡◌, ℕ, zero, suc, ◌<◌, Bool, false, List, [], ◌∷◌, ◌++◌, length, map, take, refl, sym, ap, ◌∙◌, subst, arith}
use Rattle.std.specs.List.{AllByRecursion, AllZip}
use Rattle.std.specs.declared.alloc.Global.{Global}
use Rattle.std.specs.declared.vec.Vec.{Vec}
use Rattle.index_config.specs.declared.config.IndexConfig.{IndexConfig}
use Rattle.meta_journal.specs.declared.entry.Entry.{Entry}
use Rattle.source_log.specs.Log.{Log}
use Rattle.search_api.specs.declared.reply.Reply.{Reply}
use Rattle.index_world.specs.Core.{Core}
use Rattle.run_plan.specs.Asked.{AreAsked}
use Rattle.run_plan.specs.Dealing.{dealt}
use Rattle.run_plan.specs.declared.clients.Asking.{Asking}
use Rattle.run_plan.specs.declared.clients.Request.{Request}
use Rattle.thread_run.specs.declared.serving.Answered.{Answered}
use Rattle.thread_run.specs.ClientReplies.{ClientReplies, IsReplyTo}
use Rattle.thread_run.specs.SearcherReplies.{ClientAnswered, SearcherAnswered}
use Rattle.thread_run.specs.Planning.{IsPlanned}
use Rattle.thread_run.specs.Replies.{RepliesFrom, RepliesOf}
use Rattle.thread_run.specs.Replying.{by_client, replies_by}
use Rattle.thread_run.specs.Sharing.{turns_of}
use Rattle.thread_run.specs.declared.outcome.Served.{Served}
use Rattle.thread_run.specs.declared.planning.Plan.{Plan}
use Rattle.thread_run.proofs.Dealings.{shared_back}
use Rattle.thread_run.proofs.Fronts.{replies_all}

-- as many of a list as it has
whole_take : {A : Type 0} (xs : List A) (n : ℕ) → n ≡ length xs → take n xs ≡ xs
whole_take {A} xs n e = subst (λ k. take k xs ≡ xs) (sym e) (by xs)
  where
    by : (ys : List A) → take (length ys) ys ≡ ys
    by [] = refl
    by (y ∷ ys) = ap (λ l. y ∷ l) (by ys)

module _ (config : IndexConfig) (log : Log) (entries : List Entry) (least : ℕ) (core exit : Core) where
  abbrev IsReply : (client : List ℕ) → (front : ℕ) → (text : List ℕ) → Reply → Type 0
  IsReply client front text reply = IsReplyTo config log entries least core exit client front text reply

  abbrev IsAnswered : Asking → Answered → Type 0
  IsAnswered asking answered = ClientAnswered config log entries least core exit asking answered

  replies_of : (client : List ℕ) (front : ℕ) (texts : List (List ℕ)) (replies : List Reply) → ClientReplies config log entries least core exit client front texts replies → RepliesOf IsReply client front texts replies
  replies_of client front [] [] r = tt
  replies_of client front [] (reply ∷ replies) r = r
  replies_of client front (text ∷ texts) [] r = r
  replies_of client front (text ∷ texts) (reply ∷ replies) r = (r.0, replies_of client reply.revision texts replies r.1)

  -- where there was memory, all clients of a searcher were answered
  all_served : (shares : List (Vec Asking Global)) (served : List Served) → AllByRecursion (λ (one : Served). one.short ≡ false) served →
      AllZip (λ (share : Vec Asking Global) (one : Served). SearcherAnswered config log entries least core exit share.items one.answered.items one.short) shares served →
      AllZip (λ (share : Vec Asking Global) list. AllZip IsAnswered share.items list) shares (map (λ (one : Served). one.answered.items) served)
  all_served [] [] whole zip = tt
  all_served [] (one ∷ served) whole zip = absurd zip
  all_served (share ∷ shares) [] whole zip = absurd zip
  all_served (share ∷ shares) (one ∷ served) whole zip =
      let many = zip.0.all whole.0 in (
        subst (λ (askings : List Asking). AllZip IsAnswered askings one.answered.items) (whole_take share.items (length one.answered.items) many) zip.0.each,
        all_served shares served whole.1 zip.1,
      )

  -- where there was memory, each text of a client has its reply
  all_replied : (askings : List Asking) (answered : List Answered) → AllByRecursion (λ (one : Answered). one.short ≡ false) answered → AllZip IsAnswered askings answered →
      AllZip (λ (asking : Asking) list. RepliesOf IsReply asking.client 0 asking.texts.items list) askings (map (λ (one : Answered). one.replies.items) answered)
  all_replied [] [] whole zip = tt
  all_replied [] (one ∷ answered) whole zip = absurd zip
  all_replied (asking ∷ askings) [] whole zip = absurd zip
  all_replied (asking ∷ askings) (one ∷ answered) whole zip =
      let many = zip.0.all whole.0 in
      let texts_are : take (length one.replies.items) asking.texts.items ≡ asking.texts.items = whole_take asking.texts.items (length one.replies.items) many in (
        replies_of asking.client 0 asking.texts.items one.replies.items (subst (λ (texts : List (List ℕ)). ClientReplies config log entries least core exit asking.client 0 texts one.replies.items) texts_are zip.0.replies),
        all_replied askings answered whole.1 zip.1,
      )

  pub requests_replied : (requests : List Request) (searchers : ℕ) (plan : Plan) (served : List Served) → 0 < searchers → IsPlanned requests searchers plan → AllByRecursion (λ (one : Served). one.short ≡ false) served →
      AllByRecursion (λ (one : Answered). one.short ≡ false) (by_client searchers plan.clients served) →
      AllZip (λ (share : Vec Asking Global) (one : Served). SearcherAnswered config log entries least core exit share.items one.answered.items one.short) plan.shares.items served →
      RepliesFrom IsReply [] requests (replies_by plan.by.items (by_client searchers plan.clients served))
  requests_replied requests searchers plan served some planned whole all zip =
      let askings = planned.askings in
      let lists = map (λ (one : Served). one.answered.items) served in
      let back : AllZip IsAnswered askings (dealt (turns_of searchers 0 (length askings)) lists) = shared_back IsAnswered searchers askings plan.shares.items lists some planned.as_many planned.are_shares (all_served plan.shares.items served whole zip) in
      let answered : AllZip IsAnswered askings (by_client searchers plan.clients served) = subst (λ n. AllZip IsAnswered askings (dealt (turns_of searchers 0 n) lists)) (sym planned.clients) back in
      replies_all IsReply requests askings plan.by.items (map (λ (one : Answered). one.replies.items) (by_client searchers plan.clients served)) planned.asked (all_replied askings (by_client searchers plan.clients served) all answered)
