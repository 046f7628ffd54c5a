-- What the requests of a client were replied, by the journal at the end alone.
use Rattle.std.specs.Prelude.{◌≡◌, ◌⊎◌, ◌+◌, ◌<◌, ◌≤◌, ℕ, List, [], ◌∷◌, ◌++◌, length, take, Result, Ok, Err, ⊤}
use Rattle.index_config.specs.declared.config.IndexConfig.{IndexConfig}
use Rattle.meta_journal.specs.Places.{meta_key}
use Rattle.meta_journal.specs.declared.entry.Entry.{Entry}
use Rattle.meta_store.specs.History.{history, last_opstamp}
use Rattle.meta_store.specs.Tasks.{tasks_of}
use Rattle.source_log.specs.Log.{Log}
use Rattle.index_world.specs.Config.{reads}
use Rattle.index_world.specs.Core.{Core}
use Rattle.index_world.specs.Index.{max_entries}
use Rattle.index_world.specs.Ran.{IsCause}
use Rattle.index_world.specs.Seen.{visible_at}
use Rattle.root_search.specs.Answer.{answer}
use Rattle.root_search.specs.Deletes.{task_behind}
use Rattle.root_search.specs.Requests.{ask_of, asked_of}
use Rattle.search_api.specs.Resolved.{Asked, IsDelete, IsSearch, Search}
use Rattle.search_api.specs.declared.reply.Refusal.{Refusal}
use Rattle.search_api.specs.declared.reply.Refusal.TheVariants.{Expired, Foreign, Full, StoreFault, TooManyBuckets, TooManyTasks}
use Rattle.search_api.specs.declared.reply.Reply.{Reply}
use Rattle.search_api.specs.declared.reply.Said.{Said}
use Rattle.search_api.specs.declared.reply.Said.TheVariants.{Found, Deleted, Refused}
use Rattle.search_api.specs.declared.resolved.Deletion.{Deletion}
use Rattle.search_api.specs.declared.unanswered.Unanswered.{Unanswered}
use Rattle.search_api.specs.declared.unanswered.Unanswered.TheVariants as reasons

-- a revision that a journal of these entries had since it had so many
abbrev pub IsReached : List Entry → (least : ℕ) → ℕ → Type 0
IsReached entries least revision = (least ≤ revision) × (revision ≤ length entries)

-- It came too late: it planned at this moment, which is none of before, and the grace behind that had passed.
pub record IsLate (config : IndexConfig) (core exit : Core) (planned_at now : ℕ) : Type 0 where
  pub since : core.moment ≤ planned_at
  pub over : planned_at + config.deletion_grace ≤ now
  pub until : now ≤ exit.moment

-- Over these entries of the journal at exit, of which there were so many at entry. From the one core to the other all worked.
module _ (config : IndexConfig) (log : Log) (entries : List Entry) (least : ℕ) (core exit : Core) where
  -- ---- a search

  -- It was answered over what is visible at the revision that its reply names.
  pub record IsAnswered (search : Search) (reply : Reply) : Type 0 where
    pub begins : least ≤ reply.revision
    pub said : reply.said ≡ answer config.schema search (visible_at reply.revision entries log)

  -- It is refused only where it counts too many buckets, the store failed, or it came too late.
  abbrev pub RefusesSearch : Search → Reply → Refusal → Type 0
  RefusesSearch search reply (TooManyBuckets count) = IsAnswered search reply
  RefusesSearch search reply (StoreFault before now) = IsCause before now core exit
  RefusesSearch search reply (Expired planned_at now) = IsLate config core exit planned_at now
  RefusesSearch search reply refusal = ⊥

  abbrev pub RepliesSearch : Search → Reply → Said → Type 0
  RepliesSearch search reply (Found count hits aggregations) = IsAnswered search reply
  RepliesSearch search reply (Deleted opstamp) = ⊥
  RepliesSearch search reply (Refused refusal) = RefusesSearch search reply refusal

  -- ---- a delete

  -- It was done: the entry that its reply names is the task of this delete, with an opstamp one more than the last one before it. It came meanwhile,
  -- and behind all that its client had seen.
  pub record IsDeleted (front : ℕ) (deletion : Deletion) (reply : Reply) (opstamp : ℕ) : Type 0 where
    pub earlier : List Entry
    pub moment : ℕ
    pub is : take reply.revision entries ≡ earlier ++ task_behind (ask_of deletion) earlier moment ∷ []
    pub stamp : opstamp ≡ last_opstamp (history earlier) + 1
    pub above : front < reply.revision
    pub begins : least < reply.revision

  -- It is refused only where the store failed, or where at some revision of meanwhile there is no room: so many tasks stand, 10,000 at least, or as many
  -- entries as a journal may have. Or an object stands behind the entries that the index did not make.
  abbrev pub RefusesDelete : Refusal → Type 0
  RefusesDelete (StoreFault before now) = IsCause before now core exit
  RefusesDelete (TooManyTasks count) = (revision : ℕ) × IsReached entries least revision × (count ≡ length (tasks_of reads (history (take revision entries)))) × (10000 ≤ count)
  RefusesDelete Full = (revision : ℕ) × IsReached entries least revision × (max_entries ≤ revision)
  RefusesDelete (Foreign key) = (revision : ℕ) × IsReached entries least revision × (key ≡ meta_key revision)
  RefusesDelete refusal = ⊥

  -- a refusal leaves the client's front
  abbrev pub RepliesDelete : (front : ℕ) → Deletion → Reply → Said → Type 0
  RepliesDelete front deletion reply (Found count hits aggregations) = ⊥
  RepliesDelete front deletion reply (Deleted opstamp) = IsDeleted front deletion reply opstamp
  RepliesDelete front deletion reply (Refused refusal) = (reply.revision ≡ front) × RefusesDelete refusal

  -- ---- a request

  -- By what its text asks; one that asks neither is refused with its own first refusal.
  abbrev pub RepliesAsked : (front : ℕ) → Reply → Result Asked Unanswered → Type 0
  RepliesAsked front reply (Ok (IsSearch search)) = RepliesSearch search reply reply.said
  RepliesAsked front reply (Ok (IsDelete deletion)) = RepliesDelete front deletion reply reply.said
  RepliesAsked front reply (Err (reasons.Refused own)) = reply.said ≡ Refused own
  RepliesAsked front reply (Err (reasons.Memory e)) = ⊥

  -- WHAT A REQUEST WAS REPLIED of a client that had seen this front of the journal: the reply is its client's, over a revision that is no older than that
  -- front, and that is this front still or one of meanwhile.
  pub record IsReplyTo (name : List ℕ) (front : ℕ) (text : List ℕ) (reply : Reply) : Type 0 where
    pub client : reply.client ≡ name
    pub seen : front ≤ reply.revision
    pub ends : reply.revision ≤ length entries
    pub revision : (reply.revision ≡ front) ⊎ (least ≤ reply.revision)
    pub says : RepliesAsked front reply (asked_of config text)

  -- WHAT A CLIENT WAS REPLIED: its texts have one reply each, in their order, each over what the reply before it named, or a later revision.
  abbrev pub ClientReplies : (name : List ℕ) → (front : ℕ) → (texts : List (List ℕ)) → List Reply → Type 0
  ClientReplies name front [] [] = ⊤
  ClientReplies name front [] (reply ∷ replies) = ⊥
  ClientReplies name front (text ∷ texts) [] = ⊥
  ClientReplies name front (text ∷ texts) (reply ∷ replies) = IsReplyTo name front text reply × ClientReplies name reply.revision texts replies
