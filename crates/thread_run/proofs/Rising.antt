-- The revisions of the replies that a delete was done rise, along the requests of a client and along the clients of a searcher.
use Rattle.std.proofs.Common.{◌≡◌, ℕ, ◌≤◌, ◌<◌, List, [], ◌∷◌, ◌++◌, length, refl, sym, ◌∙◌, subst, arith}
use Rattle.std.specs.Prelude.{Result, Ok, Err}
use Rattle.index_config.specs.declared.config.IndexConfig.{IndexConfig}
use Rattle.meta_journal.specs.declared.entry.Entry.{Entry}
use Rattle.source_log.specs.Log.{Log}
use Rattle.index_world.specs.CallsMade.{CallMade}
use Rattle.index_world.specs.Core.{Core}
use Rattle.root_search.specs.Replied.{AreReplied, IsReplied, Known}
use Rattle.root_search.specs.Replied as replied
use Rattle.root_search.specs.Requests.{asked_of}
use Rattle.root_search.proofs.Stretches.{longer}
use Rattle.search_api.specs.Resolved.{Asked, IsDelete, IsSearch}
use Rattle.search_api.specs.declared.reply.Refusal.{Refusal}
use Rattle.search_api.specs.declared.reply.Reply.{Reply}
use Rattle.search_api.specs.declared.reply.Said.{Said}
use Rattle.search_api.specs.declared.reply.Said.TheVariants.{Found, Deleted, Refused}
use Rattle.search_api.specs.declared.unanswered.Unanswered.{Unanswered}
use Rattle.search_api.specs.declared.unanswered.Unanswered.TheVariants as reasons
use Rattle.thread_run.specs.SearcherReplies.{RiseBetween, deleted_at, with_deleted}

-- ---- numbers

pub rise_from : (low least high : ℕ) (numbers : List ℕ) → low ≤ least → RiseBetween least numbers high → RiseBetween low numbers high
rise_from low least high [] le r = omega (arith, le, r)
rise_from low least high (n ∷ numbers) le r = (let less = r.0 in omega (arith, le, less), r.1)

pub rise_to : (low high most : ℕ) (numbers : List ℕ) → high ≤ most → RiseBetween low numbers high → RiseBetween low numbers most
rise_to low high most [] le r = omega (arith, le, r)
rise_to low high most (n ∷ numbers) le r = (r.0, rise_to n high most numbers le r.1)

pub rise_on : (low mid high : ℕ) (first more : List ℕ) → RiseBetween low first mid → RiseBetween mid more high → RiseBetween low (first ++ more) high
rise_on low mid high [] more r q = rise_from low mid high more r q
rise_on low mid high (n ∷ first) more r q = (r.0, rise_on n mid high first more r.1 q)

-- ---- a client

refused_apart : (opstamp : ℕ) (refusal : Refusal) → Deleted opstamp ≡ Refused refusal → ⊥
refused_apart opstamp refusal e = cc

module _ (config : IndexConfig) (log : Log) (entries : List Entry) where
  -- a delete that was done added an entry
  added_by : (core next : Core) (front : ℕ) (first : CallMade) (rest : List CallMade) (reply : Reply) (opstamp : ℕ) (asked : Result Asked Unanswered) → replied.RepliesAsked config log entries core next front first rest reply asked →
      reply.said ≡ Deleted opstamp → length core.history < reply.revision
  added_by core next front first rest reply opstamp (Ok (IsSearch search)) h e = absurd (subst (λ (said : Said). replied.RepliesSearch config log entries search first core next reply said) e h.2)
  added_by core next front first rest reply opstamp (Ok (IsDelete deletion)) h e =
      let added = subst (λ (said : Said). replied.RepliesDelete entries core next front deletion first reply said) e h.2 in
      added.begins
  added_by core next front first rest reply opstamp (Err (reasons.Refused own)) h e = absurd (refused_apart opstamp own (sym e ∙ h.2))
  added_by core next front first rest reply opstamp (Err (reasons.Memory x)) h e = absurd h

  one_rises : (known : Known) (core next : Core) (own : List CallMade) (reply : Reply) (high : ℕ) (more : List ℕ) → IsReplied config log entries known core own reply next → RiseBetween (length next.history) more high →
      (said : Said) → reply.said ≡ said → RiseBetween (length core.history) (with_deleted said reply.revision more) high
  one_rises known core next own reply high more r rises (Found count hits aggregations) e = rise_from (length core.history) (length next.history) high more (longer core.history next.history r.goes_on.grown) rises
  one_rises known core next own reply high more r rises (Deleted opstamp) e =
      (added_by core next known.front r.first r.rest reply opstamp (asked_of config known.text) r.says e, rise_from reply.revision (length next.history) high more r.ends rises)
  one_rises known core next own reply high more r rises (Refused refusal) e = rise_from (length core.history) (length next.history) high more (longer core.history next.history r.goes_on.grown) rises

  -- A CLIENT
  pub replies_rise : (name : List ℕ) (front : ℕ) (core : Core) (texts : List (List ℕ)) (replies : List Reply) (made : List CallMade) (after : Core) → AreReplied config log entries name front core texts replies made after →
      RiseBetween (length core.history) (deleted_at replies) (length after.history)
  replies_rise name front core [] [] made after are = longer core.history after.history are.grown
  replies_rise name front core (text ∷ texts) [] made after are = longer core.history after.history are.grown
  replies_rise name front core [] (reply ∷ replies) made after are = absurd are
  replies_rise name front core (text ∷ texts) (reply ∷ replies) made after (next, own, more, same, one, others) =
      one_rises (record { name = name; text = text; front = front }) core next own reply (length after.history) (deleted_at replies) one (replies_rise name reply.revision next texts replies more after others) reply.said refl
