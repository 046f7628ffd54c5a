-- The clause of the top call for the command `create`.
use Rattle.std.specs.Prelude.{◌≡◌, ◌⊎◌, ℕ, ◌<◌, ◌≤◌, List, [], ◌∷◌, ◌++◌, length, codes, nat_lt, if◌then◌else◌, Option, Some, Result, Ok, Err, IsOk, ⊤}
use Rattle.std.specs.FinMap.{get}
use Rattle.byte_fields.specs.Causes.{Rose}
use Rattle.index_config.specs.Answer.{config_answer}
use Rattle.index_config.specs.declared.config.IndexConfig.{IndexConfig}
use Rattle.index_config.specs.declared.config_error.ConfigError.{ConfigError}
use Rattle.meta_journal.specs.declared.entry.Entry.{Entry}
use Rattle.object_store.specs.Store.{State, HasLanded}
use Rattle.index_world.specs.Created.{create_at, IsOfCreate, IsToldBy}
use Rattle.index_world.specs.Index.{IsIndexOf}
use Rattle.index_world.specs.Taking.{IsFaultBetween}
use Rattle.index_world.specs.declared.world_error.WorldError.{WorldError}
use Rattle.index_world.specs.declared.world_error.WorldError.TheVariants as errors
use Rattle.quick_node.specs.Ending.{ended_status, last_line}
use Rattle.quick_node.specs.Once.{HoldsOnce, AreStanding, HoldsAt, CoversAt, AreLeft}
use Rattle.quick_node.specs.Reading.{max_config}
use Rattle.quick_node.specs.Serve.{IsPrefixOf, Before, After, WroteLine, IsCalm}
use Rattle.quick_node.specs.declared.creating.Whole.{Whole}
use Rattle.quick_node.specs.declared.creating.Whole.TheVariants as whole
use Rattle.quick_node.specs.declared.error_line.End.{End as Ended}
use Rattle.quick_node.specs.declared.error_line.End.TheVariants as ended

-- the words of the command line are `create` alone
abbrev pub IsCreate : List (List ℕ) → Type 0
IsCreate given = given ≡ codes "create" ∷ []

-- what is written where an index was made
abbrev pub created_line : List ℕ
created_line = codes "created" ++ 10 ∷ []

-- ---- the input

-- these are all bytes of the input, or they are too many
abbrev pub IsWhole : Whole → List ℕ → Type 0
IsWhole (whole.Text bytes) text = (bytes.items ≡ text) × (length text ≤ max_config)
IsWhole whole.Over text = max_config < length text
IsWhole whole.Fault text = ⊤

abbrev pub IsFaulty : Whole → Type 0
IsFaulty (whole.Text bytes) = ⊥
IsFaulty whole.Over = ⊥
IsFaulty whole.Fault = ⊤

-- ---- the index

-- It was made: there was none, the text is a configuration, and its Create at this moment is the whole journal.
pub record IsMade (history : List Entry) (text : List ℕ) (moment : ℕ) (exit : List Entry) : Type 0 where
  pub vacant : history ≡ []
  pub config : IsOk (config_answer text)
  pub sole : exit ≡ create_at text moment ∷ []

-- It was not: the store failed, the journal has an entry, or the text is no configuration and nothing changed but by landings.
abbrev pub NotMade : List Entry → Before → State → ℕ → List Entry → WorldError → Type 0
NotMade history before kept count exit (errors.Memory e) = ⊤
NotMade history before kept count exit (errors.Refused refusal) = ⊥
NotMade history before kept count exit (errors.StoreFault low high) = (low ≡ before.store_faults) × (high ≡ count) × Rose before.store_faults count
NotMade history before kept count exit (errors.Missing key) = ⊥
NotMade history before kept count exit (errors.Corrupt key) = ⊥
NotMade history before kept count exit (errors.Foreign key) = ⊥
NotMade history before kept count exit errors.Full = ⊥
NotMade history before kept count exit (errors.Expired planned_at reached) = ⊥
NotMade history before kept count exit errors.NoIndex = ⊥
NotMade history before kept count exit errors.IndexExists = (0 < length exit) × (before.kept.late ≡ [] → 0 < length history)
NotMade history before kept count exit (errors.BadConfig error) = (history ≡ []) × (config_answer before.input ≡ Err error) × HasLanded before.kept kept

-- ---- before the last line

-- the counts of the store, the input and the output as the call goes on
pub record Counted : Type 0 where
  pub store : ℕ
  pub read : ℕ
  pub written : ℕ

abbrev pub counts_at : (store read written : ℕ) → Counted
counts_at store read written = record { store = store; read = read; written = written }

-- Why it ends so, with what was written by then. What is read goes past the limit exactly with this end.
abbrev pub EndsCreate : List Entry → Before → ℕ → State → Counted → List Entry → List ℕ → Ended → Type 0
EndsCreate history before moment kept counts exit said ended.Done = (length before.input ≤ max_config) × IsMade history before.input moment exit × (said ≡ created_line)
EndsCreate history before moment kept counts exit said ended.BadWords = ⊥
EndsCreate history before moment kept counts exit said (ended.BadLine number) = ⊥
EndsCreate history before moment kept counts exit said ended.ClientsOver = ⊥
EndsCreate history before moment kept counts exit said ended.LineOver = ⊥
EndsCreate history before moment kept counts exit said ended.InputOver = ⊥
EndsCreate history before moment kept counts exit said ended.RequestsOver = ⊥
EndsCreate history before moment kept counts exit said ended.ConfigOver = (max_config < length before.input) × (kept ≡ before.kept) × (said ≡ [])
EndsCreate history before moment kept counts exit said (ended.NotOpened error) = ⊥
EndsCreate history before moment kept counts exit said (ended.NotMade error) = (length before.input ≤ max_config) × NotMade history before kept counts.store exit error × (said ≡ [])
EndsCreate history before moment kept counts exit said ended.ReadFault = Rose before.read_faults counts.read × (kept ≡ before.kept) × (said ≡ [])
EndsCreate history before moment kept counts exit said ended.WriteFault =
    (length before.input ≤ max_config) × IsMade history before.input moment exit × Rose before.write_faults counts.written × IsPrefixOf said created_line
EndsCreate history before moment kept counts exit said ended.Memory = (kept ≡ before.kept) × (said ≡ [])

-- The store is an index still, of the journal at entry or one that goes on from it; this was written, and it ends for its reason.
pub record CreatesUpTo (history : List Entry) (before : Before) (moment : ℕ) (told : Option State) (content : Option (List ℕ)) (counts : Counted) (end : Ended) : Type 0 where
  pub kept : State
  pub tells : told ≡ Some kept
  pub exit : List Entry
  pub index : IsIndexOf kept exit before.log
  pub goes_on : IsPrefixOf history exit
  pub along : (revision : ℕ) → length history ≤ revision → AreStanding (get kept.objects) revision exit before.log
  pub said : List ℕ
  pub written : content ≡ Some (before.written ++ said)
  pub ends : EndsCreate history before moment kept counts exit said end

-- the line of an index that was made was written, or a front of it where a write failed
abbrev pub SaysCreated : (before after : ℕ) → List ℕ → Ended → Type 0
SaysCreated before after said ended.Done = said ≡ created_line
SaysCreated before after said ended.BadWords = ⊥
SaysCreated before after said (ended.BadLine number) = ⊥
SaysCreated before after said ended.ClientsOver = ⊥
SaysCreated before after said ended.LineOver = ⊥
SaysCreated before after said ended.InputOver = ⊥
SaysCreated before after said ended.RequestsOver = ⊥
SaysCreated before after said ended.ConfigOver = ⊥
SaysCreated before after said (ended.NotOpened error) = ⊥
SaysCreated before after said (ended.NotMade error) = ⊥
SaysCreated before after said ended.ReadFault = ⊥
SaysCreated before after said ended.WriteFault = Rose before after × IsPrefixOf said created_line
SaysCreated before after said ended.Memory = ⊥

-- how it may end over all objects, between these counts
abbrev pub EndsCreateBy : Counted → Counted → Ended → Type 0
EndsCreateBy before after ended.Done = ⊤
EndsCreateBy before after ended.BadWords = ⊥
EndsCreateBy before after (ended.BadLine number) = ⊥
EndsCreateBy before after ended.ClientsOver = ⊥
EndsCreateBy before after ended.LineOver = ⊥
EndsCreateBy before after ended.InputOver = ⊥
EndsCreateBy before after ended.RequestsOver = ⊥
EndsCreateBy before after ended.ConfigOver = ⊤
EndsCreateBy before after (ended.NotOpened error) = ⊥
EndsCreateBy before after (ended.NotMade error) = IsFaultBetween before.store after.store error × ((text : List ℕ) × IsOfCreate text error)
EndsCreateBy before after ended.ReadFault = Rose before.read after.read
EndsCreateBy before after ended.WriteFault = Rose before.written after.written
EndsCreateBy before after ended.Memory = ⊤

-- ---- the clause

abbrev pub text_status : Result IndexConfig ConfigError → ℕ
text_status (Ok config) = 0
text_status (Err error) = 2

abbrev pub journal_status : List Entry → List ℕ → ℕ
journal_status [] text = text_status (config_answer text)
journal_status (entry ∷ more) text = 9

-- where nothing fails: a text that is too long, then a journal with an entry, then a text that is no configuration
abbrev pub create_status : List Entry → List ℕ → ℕ
create_status history text = if nat_lt max_config (length text) then 10 else journal_status history text

-- Over a store that is an index with this journal, also one of no entry, and a log, `create` ends with this status, where the
-- clock tells this moment.
pub record Creates (history : List Entry) (before : Before) (moment : ℕ) (after : After) (status : ℕ) : Type 0 where
  -- the journal at entry is a prefix of the journal at exit, and the store is an index again
  pub exit : List Entry
  pub index : IsIndexOf after.kept exit before.log
  pub goes_on : IsPrefixOf history exit
  -- each accepted record below the checkpoints that is not removed stands once in the published files, and nothing else does
  pub once : HoldsOnce after.kept exit before.log
  -- at each revision of the journal the rows that were published then held each such record once, and nothing else
  pub always : (revision : ℕ) → CoversAt revision exit before.log
  -- each row that was published at a revision that the call reached, from the end of the journal at entry on, has its file
  pub along : (revision : ℕ) → length history ≤ revision → HoldsAt (get after.kept.objects) revision exit before.log
  -- of all revisions each row that is published still has its file, and each that is marked has its file or none
  pub left : (revision : ℕ) → AreLeft after.kept revision exit before.log
  -- why it ended, and what was written by then
  pub end : Ended
  pub said : List ℕ
  pub ends : EndsCreate history before moment after.kept (counts_at after.store_faults after.read_faults after.write_faults) exit said end
  -- behind that the last line of the status; without memory for it none
  pub last : List ℕ
  pub written : after.written ≡ before.written ++ (said ++ last)
  pub line : ((status ≡ ended_status end) × WroteLine before.write_faults after.write_faults (last_line end) last) ⊎ ((status ≡ 11) × (last ≡ []))
  -- with status 0 the journal is one Create with the bytes of the input and that moment, and the line `created` was written
  pub made : status ≡ 0 → IsMade history before.input moment exit × (after.written ≡ before.written ++ created_line)
  -- where nothing failed and nothing was late, the status is that of the journal and the input
  pub exact : IsCalm before after → before.kept.late ≡ [] → (status ≡ create_status history before.input) ⊎ (status ≡ 11)

-- the same at the moment that the clock told, where it tells, and else at some moment
abbrev pub CreatesAt : Option ℕ → List Entry → Before → After → ℕ → Type 0
CreatesAt clock history before after status = (moment : ℕ) × IsToldBy clock moment × Creates history before moment after status
