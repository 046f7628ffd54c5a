-- What the requests of a client were replied, by its own calls and the journal at the end.
use Rattle.std.specs.Prelude.{◌≡◌, ◌⊎◌, ◌+◌, ◌<◌, ◌≤◌, ℕ, List, [], ◌∷◌, ◌++◌, length, take, Result, Ok, Err, ⊤}
use Rattle.std.specs.List.{AllByRecursion}
use Rattle.std.specs.Str.{IsUtf8}
use Rattle.index_config.specs.declared.config.IndexConfig.{IndexConfig}
use Rattle.meta_journal.specs.Places.{meta_key}
use Rattle.meta_journal.specs.declared.entry.Entry.{Entry}
use Rattle.meta_store.specs.History.{history, last_opstamp, moment_of}
use Rattle.meta_store.specs.Tasks.{tasks_of}
use Rattle.meta_store.specs.declared.planning.Choice.{Choice}
use Rattle.source_log.specs.Log.{Log}
use Rattle.index_world.specs.CallsMade.{Ask, CallMade, of_fetch, of_plan, of_task}
use Rattle.index_world.specs.Config.{reads}
use Rattle.index_world.specs.Core.{Core, Nobody}
use Rattle.index_world.specs.Index.{max_entries}
use Rattle.index_world.specs.Ran.{IsCause}
use Rattle.index_world.specs.Seen.{visible_at}
use Rattle.index_world.specs.World.{GoesFor}
use Rattle.search_api.specs.Resolved.{Asked, IsDelete, IsSearch, Search}
use Rattle.search_api.specs.declared.reply.Refusal.{Refusal}
use Rattle.search_api.specs.declared.reply.Refusal.TheVariants.{Expired, Foreign, Full, StoreFault, TooManyBuckets, TooManyTasks}
use Rattle.search_api.specs.declared.reply.Reply.{Reply}
use Rattle.search_api.specs.declared.reply.Said.{Said}
use Rattle.search_api.specs.declared.reply.Said.TheVariants.{Found, Deleted, Refused}
use Rattle.search_api.specs.declared.resolved.Deletion.{Deletion}
use Rattle.search_api.specs.declared.unanswered.Unanswered.{Unanswered}
use Rattle.search_api.specs.declared.unanswered.Unanswered.TheVariants as reasons
use Rattle.root_search.specs.Answer.{answer}
use Rattle.root_search.specs.Deletes.{task_behind}
use Rattle.root_search.specs.Requests.{ask_of, asked_of}

-- ---- calls and texts

-- a call's moment is at least those of the entries that it left
abbrev pub IsTimed : CallMade → Type 0
IsTimed call = moment_of (history call.history) ≤ call.moment

abbrev pub IsPlan : Ask → Type 0
IsPlan ask = (choice : Choice) × (ask ≡ of_plan choice)

abbrev pub IsFetch : CallMade → Type 0
IsFetch call = (number from len : ℕ) × (call.ask ≡ of_fetch number from len)

-- the text of each delete that is asked of an index is UTF-8
abbrev pub AsksTexts : IndexConfig → Type 0
AsksTexts config = (text : List ℕ) (deletion : Deletion) → asked_of config text ≡ Ok (IsDelete deletion) → IsUtf8 deletion.text

-- what is known of a client: its name, the text that it asks, and its front, the revision of its last reply
pub record Known : Type 0 where
  pub name : List ℕ
  pub text : List ℕ
  pub front : ℕ

-- A call of a request that began at the one core and was replied at the other: what it left is a front of the journal, and lies between.
pub record IsWithin (exit : List Entry) (core next : Core) (call : CallMade) : Type 0 where
  pub front : call.history ≡ take (length call.history) exit
  pub begins : length core.history ≤ length call.history
  pub ends : length call.history ≤ length next.history
  pub since : core.moment ≤ call.moment
  pub until : call.moment ≤ next.moment

-- ---- a delete

-- It was done: the entry that its revision names is its task, which it added, with an opstamp one more than the last one before. The
-- revision is above all that its client had seen.
pub record IsAdded (exit : List Entry) (core : Core) (front : ℕ) (deletion : Deletion) (call : CallMade) (reply : Reply) (opstamp : ℕ) : Type 0 where
  pub revision : reply.revision ≡ length call.history
  pub earlier : List Entry
  pub moment : ℕ
  pub is : take reply.revision exit ≡ earlier ++ task_behind (ask_of deletion) earlier moment ∷ []
  pub stamp : opstamp ≡ last_opstamp (history earlier) + 1
  pub above : front < reply.revision
  pub begins : length core.history < reply.revision

-- It is refused only where the store failed, where what its call left has no room, for tasks or for entries, or where an object stood behind
-- that which the index did not make.
abbrev pub RefusesDelete : (call : CallMade) → (core next : Core) → Refusal → Type 0
RefusesDelete call core next (StoreFault before now) = IsCause before now core next
RefusesDelete call core next (TooManyTasks count) = (count ≡ length (tasks_of reads (history call.history))) × (10000 ≤ count)
RefusesDelete call core next Full = max_entries ≤ length call.history
RefusesDelete call core next (Foreign key) = key ≡ meta_key (length call.history)
RefusesDelete call core next refusal = ⊥

-- a refusal leaves the client's front
abbrev pub RepliesDelete : (exit : List Entry) → (core next : Core) → (front : ℕ) → Deletion → (call : CallMade) → Reply → Said → Type 0
RepliesDelete exit core next front deletion call reply (Found count hits aggregations) = ⊥
RepliesDelete exit core next front deletion call reply (Deleted opstamp) = IsAdded exit core front deletion call reply opstamp
RepliesDelete exit core next front deletion call reply (Refused refusal) = (reply.revision ≡ front) × RefusesDelete call core next refusal

-- ---- a search

-- It came too late: the grace behind its plan had passed.
pub record IsOver (config : IndexConfig) (plan : CallMade) (next : Core) (planned_at now : ℕ) : Type 0 where
  pub planned_at_is : planned_at ≡ plan.moment
  pub over : plan.moment + config.deletion_grace ≤ now
  pub until : now ≤ next.moment

module _ (config : IndexConfig) (log : Log) (exit : List Entry) where
  -- It was answered over what is visible to its plan.
  pub record IsAnswered (search : Search) (plan : CallMade) (reply : Reply) : Type 0 where
    pub revision : reply.revision ≡ length plan.history
    pub said : reply.said ≡ answer config.schema search (visible_at reply.revision exit log)

  -- It is refused only where it counts too many buckets, the store failed, or it came too late.
  abbrev pub RefusesSearch : Search → (plan : CallMade) → (core next : Core) → Reply → Refusal → Type 0
  RefusesSearch search plan core next reply (TooManyBuckets count) = IsAnswered search plan reply
  RefusesSearch search plan core next reply (StoreFault before now) = IsCause before now core next
  RefusesSearch search plan core next reply (Expired planned_at now) = IsOver config plan next planned_at now
  RefusesSearch search plan core next reply refusal = ⊥

  abbrev pub RepliesSearch : Search → (plan : CallMade) → (core next : Core) → Reply → Said → Type 0
  RepliesSearch search plan core next reply (Found count hits aggregations) = IsAnswered search plan reply
  RepliesSearch search plan core next reply (Deleted opstamp) = ⊥
  RepliesSearch search plan core next reply (Refused refusal) = RefusesSearch search plan core next reply refusal

  -- ---- a request

  -- By what its text asks. A search plans by its first call, and the others fetch; a delete adds its task by its only call; any other text is
  -- refused with its own first refusal, behind a plan.
  abbrev pub RepliesAsked : (core next : Core) → (front : ℕ) → (first : CallMade) → (rest : List CallMade) → Reply → Result Asked Unanswered → Type 0
  RepliesAsked core next front first rest reply (Ok (IsSearch search)) = IsPlan first.ask × AllByRecursion IsFetch rest × RepliesSearch search first core next reply reply.said
  RepliesAsked core next front first rest reply (Ok (IsDelete deletion)) =
      (first.ask ≡ of_task (ask_of deletion)) × (rest ≡ []) × RepliesDelete exit core next front deletion first reply reply.said
  RepliesAsked core next front first rest reply (Err (reasons.Refused own)) = IsPlan first.ask × (rest ≡ []) × (reply.said ≡ Refused own)
  RepliesAsked core next front first rest reply (Err (reasons.Memory e)) = ⊥

  -- WHAT A REQUEST WAS REPLIED that began at the one core, made these calls and was replied at the other. The reply is its client's. Its
  -- revision is the client's front still, or what its first call left, and so never below that front.
  pub record IsReplied (known : Known) (core : Core) (calls : List CallMade) (reply : Reply) (next : Core) : Type 0 where
    pub first : CallMade
    pub rest : List CallMade
    pub calls_are : calls ≡ first ∷ rest
    pub within : IsWithin exit core next first
    pub client : reply.client ≡ known.name
    pub revision : (reply.revision ≡ known.front) ⊎ (reply.revision ≡ length first.history)
    pub front : known.front ≤ reply.revision
    pub ends : reply.revision ≤ length next.history
    pub says : RepliesAsked core next known.front first rest reply (asked_of config known.text)
    pub goes_on : GoesFor Nobody core next

  -- WHAT A CLIENT WAS REPLIED from a core on: one request behind the other, each with its own stretch of the calls, its front the revision of
  -- the reply before it. Those behind the last reply have none.
  abbrev pub AreReplied : (name : List ℕ) → (front : ℕ) → Core → (texts : List (List ℕ)) → List Reply → List CallMade → (after : Core) → Type 0
  AreReplied name front core [] [] made after = GoesFor Nobody core after
  AreReplied name front core (text ∷ texts) [] made after = GoesFor Nobody core after
  AreReplied name front core [] (reply ∷ replies) made after = ⊥
  AreReplied name front core (text ∷ texts) (reply ∷ replies) made after =
      (next : Core) × (own : List CallMade) × (more : List CallMade) × (made ≡ own ++ more)
      × IsReplied (record { name = name; text = text; front = front }) core own reply next × AreReplied name reply.revision next texts replies more after

-- from this front on no revision of a client's replies is below the one before it
abbrev pub NeverFall : ℕ → List Reply → Type 0
NeverFall front [] = ⊤
NeverFall front (reply ∷ replies) = (front ≤ reply.revision) × NeverFall reply.revision replies
