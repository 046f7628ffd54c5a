-- What a client was replied by its own calls says this of the journal at the end.
use Rattle.std.proofs.Common.{◌≡◌, ◌⊎◌, inl, inr, ℕ, ◌≤◌, List, [], ◌∷◌, length, take, sym, ap, ◌∙◌, arith}
use Rattle.std.proofs.lemmas.List.{take-append-le}
use Rattle.std.specs.Prelude.{Result, Ok, Err}
use Rattle.index_config.specs.declared.config.IndexConfig.{IndexConfig}
use Rattle.meta_journal.specs.declared.entry.Entry.{Entry}
use Rattle.meta_store.specs.History.{history}
use Rattle.meta_store.specs.Ledgers.{ledger}
use Rattle.meta_store.specs.Tasks.{tasks_of}
use Rattle.source_log.specs.Log.{Log}
use Rattle.index_world.specs.CallsMade.{CallMade}
use Rattle.index_world.specs.Config.{reads}
use Rattle.index_world.specs.Configuration.{config_or, configuration}
use Rattle.index_world.specs.Core.{Core, Nobody}
use Rattle.index_world.specs.Ran.{IsCause}
use Rattle.index_world.specs.Seen.{visible}
use Rattle.index_world.specs.World.{GoesFor}
use Rattle.index_world.proofs.Ran.{goes_then}
use Rattle.search_api.specs.Resolved.{Asked, IsDelete, IsSearch, Search}
use Rattle.search_api.specs.declared.reply.Refusal.{Refusal}
use Rattle.search_api.specs.declared.reply.Refusal.TheVariants as refusals
use Rattle.search_api.specs.declared.reply.Reply.{Reply}
use Rattle.search_api.specs.declared.reply.Said.{Said}
use Rattle.search_api.specs.declared.reply.Said.TheVariants.{Found, Deleted, Refused}
use Rattle.search_api.specs.declared.resolved.Deletion.{Deletion}
use Rattle.search_api.specs.declared.unanswered.Unanswered.{Unanswered}
use Rattle.search_api.specs.declared.unanswered.Unanswered.TheVariants as reasons
use Rattle.root_search.specs.Answer.{answer}
use Rattle.root_search.specs.Replied.{AreReplied, IsReplied, IsWithin}
use Rattle.root_search.specs.Replied as replied
use Rattle.root_search.specs.Requests.{asked_of}
use Rattle.root_search.proofs.NextReplies.{begins_on}
use Rattle.root_search.proofs.Stretches.{longer}
use Rattle.thread_run.specs.Meanwhile.{IsBefore}
use Rattle.thread_run.specs.ClientReplies.{ClientReplies, IsAnswered, IsDeleted, IsLate, IsReached, IsReplyTo, RefusesDelete, RefusesSearch, RepliesAsked, RepliesDelete, RepliesSearch}

pub goes_before : (core after : Core) → GoesFor Nobody core after → IsBefore core after
goes_before core after on = record { grown = on.grown; faults = on.faults; moment = on.moment }

pub before_then : (a b c : Core) → IsBefore a b → IsBefore b c → IsBefore a c
before_then a b c f g =
    let n = f.faults in
    let o = g.faults in
    let m = f.moment in
    let p = g.moment in
    record { grown = begins_on a.history b.history c.history f.grown g.grown; faults = omega (arith, n, o); moment = omega (arith, m, p) }

pub before_longer : (core after : Core) → IsBefore core after → length core.history ≤ length after.history
before_longer core after on = longer core.history after.history on.grown

-- what stood behind so many entries stands there still
pub same_front : (core after : Core) → IsBefore core after → (revision : ℕ) → revision ≤ length core.history → take revision after.history ≡ take revision core.history
same_front core after on revision short = ap (take revision) on.grown.1 ∙ take-append-le revision core.history on.grown.0 short

-- a cause on the way is one of the whole way
pub cause_wider : (before now : ℕ) (first core next exit : Core) → GoesFor Nobody first core → IsBefore next exit → IsCause before now core next → IsCause before now first exit
cause_wider before now first core next exit to_core to_exit c =
    let low = c.0 in
    let high = c.2 in
    let up = to_core.faults in
    let on = to_exit.faults in
    (omega (arith, low, up), c.1, omega (arith, high, on))

-- From the first core to the last, behind which the journal went on up to the exit.
module _ (config : IndexConfig) (log : Log) (first last exit : Core) (on : IsBefore last exit) where
  module _ (core next : Core) (to_core : GoesFor Nobody first core) (to_last : GoesFor Nobody next last) where
    to_exit : IsBefore next exit
    to_exit = before_then next last exit (goes_before next last to_last) on

    -- what a call of the request left
    module _ (call : CallMade) (within : IsWithin last.history core next call) where
      reached : IsReached exit.history (length first.history) (length call.history)
      reached =
          let from = longer first.history core.history to_core.grown in
          let to = before_longer next exit to_exit in
          let begins = within.begins in
          let ends = within.ends in
          (omega (arith, from, begins), omega (arith, ends, to))

      -- it stands within the last core's history
      short : length call.history ≤ length last.history
      short = let ends = within.ends in let to = longer next.history last.history to_last.grown in omega (arith, ends, to)

      front : take (length call.history) exit.history ≡ call.history
      front = same_front last exit on (length call.history) short ∙ sym within.front

      answered : (search : Search) (reply : Reply) → replied.IsAnswered config log last.history search call reply → IsAnswered config log exit.history (length first.history) first exit search reply
      answered search reply a =
          let is = a.revision in
          let within_last = short in
          let same = same_front last exit on reply.revision (omega (arith, is, within_last)) in
          record {
            begins = (let low = reached.0 in omega (arith, low, is));
            said = a.said ∙ ap (λ (es : List Entry). answer config.schema search (visible (config_or (configuration es)) (ledger reads (history es)) log)) (sym same);
          }

      late : (planned_at now : ℕ) → replied.IsOver config call next planned_at now → IsLate config first exit planned_at now
      late planned_at now o =
          let is = o.planned_at_is in
          let over = o.over in
          let until = o.until in
          let since = within.since in
          let from = to_core.moment in
          let on = to_exit.moment in
          record { since = omega (arith, is, since, from); over = omega (arith, is, over); until = omega (arith, until, on) }

      refuses_search : (search : Search) (reply : Reply) (refusal : Refusal) → replied.RefusesSearch config log last.history search call core next reply refusal →
          RefusesSearch config log exit.history (length first.history) first exit search reply refusal
      refuses_search search reply (refusals.TooManyBuckets count) h = answered search reply h
      refuses_search search reply (refusals.StoreFault before now) h = cause_wider before now first core next exit to_core to_exit h
      refuses_search search reply (refusals.Expired planned_at now) h = late planned_at now h
      refuses_search search reply refusal h = h

      replies_search : (search : Search) (reply : Reply) (said : Said) → replied.RepliesSearch config log last.history search call core next reply said →
          RepliesSearch config log exit.history (length first.history) first exit search reply said
      replies_search search reply (Found count hits aggregations) h = answered search reply h
      replies_search search reply (Deleted opstamp) h = h
      replies_search search reply (Refused refusal) h = refuses_search search reply refusal h

      refuses_delete : (refusal : Refusal) → replied.RefusesDelete call core next refusal → RefusesDelete config log exit.history (length first.history) first exit refusal
      refuses_delete (refusals.StoreFault before now) h = cause_wider before now first core next exit to_core to_exit h
      refuses_delete (refusals.TooManyTasks count) h =
          (length call.history, reached, h.0 ∙ ap (λ (es : List Entry). length (tasks_of reads (history es))) (sym front), h.1)
      refuses_delete refusals.Full h = (length call.history, reached, h)
      refuses_delete (refusals.Foreign key) h = (length call.history, reached, h)
      refuses_delete refusal h = h

      added : (seen : ℕ) (deletion : Deletion) (reply : Reply) (opstamp : ℕ) → replied.IsAdded last.history core seen deletion call reply opstamp →
          IsDeleted config log exit.history (length first.history) first exit seen deletion reply opstamp
      added seen deletion reply opstamp a =
          let is = a.revision in
          let within_last = short in
          record {
            earlier = a.earlier;
            moment = a.moment;
            is = same_front last exit on reply.revision (omega (arith, is, within_last)) ∙ a.is;
            stamp = a.stamp;
            above = a.above;
            begins = (let from = longer first.history core.history to_core.grown in let begins = a.begins in omega (arith, from, begins));
          }

      replies_delete : (seen : ℕ) (deletion : Deletion) (reply : Reply) (said : Said) → replied.RepliesDelete last.history core next seen deletion call reply said →
          RepliesDelete config log exit.history (length first.history) first exit seen deletion reply said
      replies_delete seen deletion reply (Found count hits aggregations) h = h
      replies_delete seen deletion reply (Deleted opstamp) h = added seen deletion reply opstamp h
      replies_delete seen deletion reply (Refused refusal) h = (h.0, refuses_delete refusal h.1)

      replies_asked : (seen : ℕ) (rest : List CallMade) (reply : Reply) (asked : Result Asked Unanswered) → replied.RepliesAsked config log last.history core next seen call rest reply asked →
          RepliesAsked config log exit.history (length first.history) first exit seen reply asked
      replies_asked seen rest reply (Ok (IsSearch search)) h = replies_search search reply reply.said h.2
      replies_asked seen rest reply (Ok (IsDelete deletion)) h = replies_delete seen deletion reply reply.said h.2
      replies_asked seen rest reply (Err (reasons.Refused own)) h = h.2
      replies_asked seen rest reply (Err (reasons.Memory e)) h = h

    -- ONE REQUEST
    reply_to : (name : List ℕ) (seen : ℕ) (text : List ℕ) (own : List CallMade) (reply : Reply) → IsReplied config log last.history (record { name = name; text = text; front = seen }) core own reply next →
        IsReplyTo config log exit.history (length first.history) first exit name seen text reply
    reply_to name seen text own reply r =
        record {
          client = r.client;
          seen = r.front;
          ends = (let ends = r.ends in let to = before_longer next exit to_exit in omega (arith, ends, to));
          revision = by r.revision;
          says = replies_asked r.first r.within seen r.rest reply (asked_of config text) r.says;
        }
      where
        by : (reply.revision ≡ seen) ⊎ (reply.revision ≡ length r.first.history) → (reply.revision ≡ seen) ⊎ (length first.history ≤ reply.revision)
        by (inl same) = inl same
        by (inr left) = inr (let low = (reached r.first r.within).0 in omega (arith, low, left))

  -- while it was replied the index went on
  replied_go : (name : List ℕ) (seen : ℕ) (core : Core) (texts : List (List ℕ)) (replies : List Reply) (made : List CallMade) (after : Core) →
      AreReplied config log last.history name seen core texts replies made after → GoesFor Nobody core after
  replied_go name seen core [] [] made after are = are
  replied_go name seen core (text ∷ texts) [] made after are = are
  replied_go name seen core [] (reply ∷ replies) made after are = absurd are
  replied_go name seen core (text ∷ texts) (reply ∷ replies) made after (next, own, more, same, one, others) =
      goes_then core next after one.goes_on (replied_go name reply.revision next texts replies more after others)

  -- EACH REQUEST that has a reply
  pub client_replies : (name : List ℕ) (seen : ℕ) (core : Core) (texts : List (List ℕ)) (replies : List Reply) (made : List CallMade) (after : Core) → GoesFor Nobody first core → GoesFor Nobody after last →
      AreReplied config log last.history name seen core texts replies made after → ClientReplies config log exit.history (length first.history) first exit name seen (take (length replies) texts) replies
  client_replies name seen core [] [] made after to_core to_last are = tt
  client_replies name seen core (text ∷ texts) [] made after to_core to_last are = tt
  client_replies name seen core [] (reply ∷ replies) made after to_core to_last are = absurd are
  client_replies name seen core (text ∷ texts) (reply ∷ replies) made after to_core to_last (next, own, more, same, one, others) =
      let going = replied_go name reply.revision next texts replies more after others in (
        reply_to core next to_core (goes_then next after last going to_last) name seen text own reply one,
        client_replies name reply.revision next texts replies more after (goes_then first core next to_core one.goes_on) to_last others,
      )
