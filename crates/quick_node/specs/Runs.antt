-- The clause of the top call for the command `run`.
use Rattle.std.specs.Prelude.{◌≡◌, ◌⊎◌, ℕ, ◌<◌, ◌≤◌, List, [], ◌∷◌, ◌++◌, length, take, map, flat_map, decimal, codes, Ok, Err, Option, Some, option_to_list, IsSome}
use Rattle.std.specs.List.{AllByRecursion}
use Rattle.byte_fields.specs.Causes.{Rose}
use Rattle.command_words.specs.Words.{command_of}
use Rattle.command_words.specs.declared.command.Command.TheVariants.{Run}
use Rattle.command_words.specs.declared.run.RunOptions.{RunOptions as Asked}
use Rattle.index_config.specs.declared.config.IndexConfig.{IndexConfig}
use Rattle.meta_journal.specs.declared.entry.Entry.{Entry}
use Rattle.source_log.specs.Log.{Log}
use Rattle.search_api.specs.Replies.{reply_text}
use Rattle.search_api.specs.declared.reply.Reply.{Reply}
use Rattle.index_world.specs.Calls.{faulted, no_memory, store_fault, not_read}
use Rattle.index_world.specs.Calls as calls
use Rattle.index_world.specs.Configuration.{configuration}
use Rattle.index_world.specs.Core.{Core, IsConfigured, Nobody, journal_of}
use Rattle.index_world.specs.Index.{IsIndexOf}
use Rattle.index_world.specs.Standing.{IsCoreOf}
use Rattle.index_world.specs.World.{GoesFor}
use Rattle.node_run.specs.Node.{Node}
use Rattle.run_plan.specs.declared.clients.Request.{Request}
use Rattle.thread_run.specs.declared.run_end.RunOptions.{RunOptions}
use Rattle.thread_run.specs.RunAll.{RunSaid}
use Rattle.thread_run.specs.EndLines.{end_text, settled_text}
use Rattle.thread_run.specs.declared.end_lines.ActorEnd.{ActorEnd}
use Rattle.thread_run.specs.declared.settling.Settled.{Settled}
use Rattle.quick_node.specs.Once.{HoldsOnce, CoversAt, AreLeft}
use Rattle.input_lines.specs.Reading.{max_clients, max_input, max_line}
use Rattle.input_lines.specs.Requests.{HasRead, IsFault, Reads, max_requests}
use Rattle.quick_node.specs.Serve.{IsPrefixOf, Before, After, IsCalm, IsFresh, Opens, WroteLine, error_line, limit_line}
use Rattle.input_lines.specs.declared.requests.ReadEnd.{ReadEnd}
use Rattle.input_lines.specs.declared.requests.ReadEnd.TheVariants as reads

-- ---- the words

-- the words of the command line ask for this run
abbrev pub IsRun : Asked → List (List ℕ) → Type 0
IsRun asked given = command_of given ≡ Some (Run asked)

-- they ask for a run, of no more indexers than there are readers of the logs
abbrev pub AsksRun : (readers : ℕ) → List (List ℕ) → Type 0
AsksRun readers given = (asked : Asked) × IsRun asked given × (asked.indexers ≤ readers)

abbrev pub options_of : Asked → RunOptions
options_of asked = record { indexers = asked.indexers; searchers = asked.searchers; turns = asked.turns; settle = asked.settle }

-- ---- how it ends

-- by the reading of the input, or by what is met before or behind it; a run whose whole input was read is done, and all it says was written
pub data End : Type 0 where
  by_reading : ReadEnd → End
  no_index : End
  opening_failed : (before : ℕ) → (after : ℕ) → End
  write_failed : End
  out_of_memory : End

abbrev pub reading_status : ReadEnd → ℕ
reading_status reads.Whole = 0
reading_status (reads.BadLine number) = 3
reading_status reads.RequestsOver = 10
reading_status reads.ClientsOver = 10
reading_status reads.LineOver = 10
reading_status reads.InputOver = 10
reading_status reads.Fault = 5

abbrev pub status_of : End → ℕ
status_of (by_reading end) = reading_status end
status_of no_index = 8
status_of (opening_failed before after) = 4
status_of write_failed = 6
status_of out_of_memory = 11

-- the one line of a reading that was not whole
abbrev pub reading_error : ReadEnd → List ℕ
reading_error reads.Whole = []
reading_error (reads.BadLine number) = error_line (codes "3" ∷ codes "badline" ∷ decimal number ∷ [])
reading_error reads.RequestsOver = limit_line (codes "requests") max_requests
reading_error reads.ClientsOver = limit_line (codes "clients") max_clients
reading_error reads.LineOver = limit_line (codes "line") max_line
reading_error reads.InputOver = limit_line (codes "input") max_input
reading_error reads.Fault = error_line (codes "5" ∷ codes "readfault" ∷ [])

-- ---- what a run says

pub record Said : Type 0 where
  pub replies : List Reply
  pub ends : List ActorEnd
  pub settled : Option Settled

-- a line for each reply, for each end, and for what settling came to
abbrev pub said_lines : Said → List (List ℕ)
said_lines said =
    map reply_text said.replies ++ (flat_map (λ end. option_to_list (end_text end)) said.ends ++ map settled_text (option_to_list said.settled))

-- each with its line feed
abbrev pub with_feeds : List (List ℕ) → List ℕ
with_feeds [] = []
with_feeds (line ∷ lines) = line ++ (10 ∷ with_feeds lines)

abbrev pub said_text : Said → List ℕ
said_text said = with_feeds (said_lines said)

-- A run from the one core to the other, of an index under this configuration, over this log, said this to these requests; the counts of the logs' faults
-- were and are these. Each request has its reply, each actor its end, and settling what it came to.
abbrev pub RunSays : (config : IndexConfig) (log : Log) (core exit : Core) (options : RunOptions) (firsts lasts : List ℕ) (requests : List Request) (said : Said) → Type 0
RunSays config log core exit options firsts lasts requests said = RunSaid config log core exit options firsts lasts requests said.replies said.ends said.settled

-- Of an opened index a run was made, between these cores, by the requests of the whole input, and it said this.
pub record Ran (options : RunOptions) (before : Before) (after : After) (opened last : Core) (said : Said) : Type 0 where
  pub config : IndexConfig
  pub configured : IsConfigured config opened
  pub requests : List Request
  pub read : HasRead before.input after.left requests reads.Whole
  pub says : RunSays config before.log opened last options before.log_faults after.log_faults requests said

-- the reading ended so, and the index is as its opening left it
pub record Unread (before : Before) (after : After) (opened last : Core) (text : List ℕ) (end : ReadEnd) : Type 0 where
  pub requests : List Request
  pub read : HasRead before.input after.left requests end
  pub failed : IsFault end → Rose before.read_faults after.read_faults
  pub still : last ≡ opened
  pub line : WroteLine before.write_faults after.write_faults (reading_error end) text

-- all was said: no end is want of memory
pub record SaidAll (options : RunOptions) (before : Before) (after : After) (opened last : Core) (text : List ℕ) : Type 0 where
  pub said : Said
  pub ran : Ran options before after opened last said
  pub told : AllByRecursion (λ end. IsSome (end_text end)) said.ends
  pub text_is : text ≡ said_text said

-- a front of it was said
pub record SaidSome (options : RunOptions) (before : Before) (after : After) (opened last : Core) (text : List ℕ) : Type 0 where
  pub said : Said
  pub ran : Ran options before after opened last said
  pub front : IsPrefixOf text (said_text said)

abbrev pub Read : RunOptions → Before → After → (opened last : Core) → (text : List ℕ) → ReadEnd → Type 0
Read options before after opened last text reads.Whole = SaidAll options before after opened last text
Read options before after opened last text (reads.BadLine number) = Unread before after opened last text (reads.BadLine number)
Read options before after opened last text reads.RequestsOver = Unread before after opened last text reads.RequestsOver
Read options before after opened last text reads.ClientsOver = Unread before after opened last text reads.ClientsOver
Read options before after opened last text reads.LineOver = Unread before after opened last text reads.LineOver
Read options before after opened last text reads.InputOver = Unread before after opened last text reads.InputOver
Read options before after opened last text reads.Fault = Unread before after opened last text reads.Fault

-- the index was opened, and that came of it
pub record Opened (fresh : Node) (last : Core) (Came : Core → Type 0) : Type 0 where
  pub node : Node
  pub opens : Opens fresh (Ok tt) node
  pub counted : fresh.core.store_faults ≤ node.core.store_faults
  pub goes_on : GoesFor Nobody node.core last
  pub came : Came node.core

-- what a call did, by its end
abbrev pub Did : RunOptions → Before → After → (fresh : Node) → (last : Core) → (text : List ℕ) → End → Type 0
Did options before after fresh last text (by_reading end) = Opened fresh last (λ opened. Read options before after opened last text end)
Did options before after fresh last text no_index =
    Opens fresh (Err calls.no_index) (record fresh { core = last }) × WroteLine before.write_faults after.write_faults (error_line (codes "8" ∷ codes "noindex" ∷ [])) text
Did options before after fresh last text (opening_failed low high) =
    Opens fresh (Err (not_read (faulted (store_fault low high)))) (record fresh { core = last })
    × WroteLine before.write_faults after.write_faults (error_line (codes "4" ∷ codes "storefault" ∷ decimal low ∷ decimal high ∷ [])) text
Did options before after fresh last text write_failed =
    Opened fresh last (λ opened. SaidSome options before after opened last text) × Rose before.write_faults after.write_faults
Did options before after fresh last text out_of_memory =
    ((last ≡ fresh.core) × (text ≡ []))
    ⊎ ((Opens fresh (Err (not_read no_memory)) (record fresh { core = last }) × (text ≡ []))
    ⊎ Opened fresh last (λ opened. (text ≡ []) ⊎ SaidSome options before after opened last text))

-- the core at the end is the one that the outside shows
pub record IsShown (after : After) (last : Core) : Type 0 where
  pub store_count : last.store_faults ≡ after.store_faults
  pub stands : IsCoreOf after.kept last

-- Over a store that is an index with this journal, and a log, `run` ends with this status.
pub record Runs (asked : Asked) (history : List Entry) (before : Before) (after : After) (status : ℕ) : Type 0 where
  pub end : End
  pub status_is : status ≡ status_of end
  pub text : List ℕ
  pub written : after.written ≡ before.written ++ text
  -- the journal at entry is a prefix of the journal at exit, and the store is an index again
  pub exit : List Entry
  pub index : IsIndexOf after.kept exit before.log
  pub goes_on : IsPrefixOf history exit
  -- each accepted record below the checkpoints that is not removed stands once in the published files, and nothing else does
  pub once : HoldsOnce after.kept exit before.log
  -- at each revision of the journal the rows that were published then held each such record once, and nothing else
  pub always : (revision : ℕ) → CoversAt revision exit before.log
  -- behind the call each of these rows that is published still has its file, and each that is marked has its file or none
  pub left : (revision : ℕ) → AreLeft after.kept revision exit before.log
  -- the configuration that the journal at entry names is that of each revision behind it
  pub configured : (config : IndexConfig) → configuration history ≡ Some config → (revision : ℕ) → length history ≤ revision → configuration (take revision exit) ≡ Some config
  -- The index of the store at entry was opened, and the run did all this. Each fault of the store that a reply or an end tells has its count before and
  -- behind, of which the second rose, between the counts at entry and at exit; so has each of a log.
  pub fresh : Node
  pub is_fresh : IsFresh before history fresh
  pub last : Core
  pub shown : IsShown after last
  pub exit_is : exit ≡ journal_of last
  pub did : Did (options_of asked) before after fresh last text end
  -- where nothing failed, the status is that of the input
  pub exact : IsCalm before after → 0 < length history → (requests : List Request) (read : ReadEnd) → (IsFault read → ⊥) → Reads before.input requests read →
      (status ≡ reading_status read) ⊎ (status ≡ 11)
