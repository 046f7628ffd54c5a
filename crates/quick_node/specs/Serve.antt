-- The clause of the top call for the command `drive`.
use Rattle.std.specs.Prelude.{◌≡◌, ◌⊎◌, ◌≢◌, ℕ, ◌<◌, ◌≤◌, List, [], ◌∷◌, ◌++◌, length, take, decimal, codes, map, flat_map, min, sum, Ok, Err, Result, ⊤, Option, Some, None, All, slice_index}
use Rattle.std.specs.List.{AllByRecursion}
use Rattle.meta_journal.specs.declared.entry.Act.TheVariants.{Create}
use Rattle.meta_journal.specs.declared.entry.Entry.{Entry}
use Rattle.object_store.specs.Store.{State}
use Rattle.source_log.specs.Log.{Log, IsLog, Extends}
use Rattle.byte_fields.specs.Causes.{Rose}
use Rattle.index_world.specs.Calls.{Fate, gives, faulted, no_memory, store_fault, Unread, not_read, loaded}
use Rattle.index_world.specs.Calls as calls
use Rattle.index_config.specs.declared.config.IndexConfig.{IndexConfig}
use Rattle.index_world.specs.Configuration.{configuration}
use Rattle.index_world.specs.Core.{Core, last_count}
use Rattle.index_world.specs.Index.{IsIndexOf}
use Rattle.index_world.specs.Seen.{visible_at}
use Rattle.index_world.specs.Standing.{IsCoreOf}
use Rattle.indexing_run.specs.Outcomes.{words}
use Rattle.indexing_run.specs.Places.{Indexer}
use Rattle.root_search.specs.Answer.{answer}
use Rattle.root_search.specs.Requests.{asked_of}
use Rattle.root_search.specs.declared.outcome.SearchStep.TheVariants.{Replied}
use Rattle.search_api.specs.Resolved.{IsSearch, Search}
use Rattle.search_api.specs.declared.reply.Reply.{Reply}
use Rattle.search_api.specs.declared.reply.Said.{Said}
use Rattle.search_api.specs.declared.reply.Said.TheVariants.{Found, Deleted, Refused}
use Rattle.node_run.specs.Lines.{printed}
use Rattle.node_run.specs.Node.{Node, Line, StepClient, Outcome, client_said}
use Rattle.node_run.specs.Standing.{GivesLogs, LetGo}
use Rattle.node_run.specs.Telling.{MayTell}
use Rattle.node_run.specs.Turns.{Turn, Turns, turns, opened_node}
use Rattle.quick_node.specs.Applies.{AppliesFrom, SettlesFrom, idle}
use Rattle.quick_node.specs.CaughtUp.{unseen, CatchesUp}
use Rattle.quick_node.specs.Collects.{LineCollects, CollectsFrom}
use Rattle.quick_node.specs.Deletes.{DeletesFrom}
use Rattle.quick_node.specs.Expires.{ExpiresOver}
use Rattle.quick_node.specs.Faults.{Interval, AreBetween, store_told, log_told}
use Rattle.quick_node.specs.Fronts.{Known, after_outcome, config_then, known_of}
use Rattle.quick_node.specs.Once.{HoldsOnce, CoversAt, AreLeft, Reaches}
use Rattle.quick_node.specs.Refusals.{RefusesFrom}
use Rattle.quick_node.specs.Replaces.{ReplacesFrom, RestsFrom}
use Rattle.quick_node.specs.Replaces as merges
use Rattle.input_lines.specs.Reading.{max_clients, max_line, max_input}
use Rattle.quick_node.specs.Reading.{Ending, all_read, bad_line, clients_over, line_over, input_over, stopped, Reads, FailsBehind}

abbrev pub IsPrefixOf : {X : Type 0} → List X → List X → Type 0
IsPrefixOf {X} xs ys = (rest : List X) × (ys ≡ xs ++ rest)

-- what the outside tells as the call begins
pub record Before : Type 0 where
  pub kept : State
  pub store_faults : ℕ
  pub log : Log
  pub log_faults : List ℕ  -- of each reader
  pub input : List ℕ
  pub read_faults : ℕ
  pub written : List ℕ
  pub write_faults : ℕ

-- and as it returns
pub record After : Type 0 where
  pub kept : State
  pub store_faults : ℕ
  pub log_faults : List ℕ  -- of each reader as it was let go
  pub left : Option (List ℕ)  -- of the input, where it tells
  pub read_faults : ℕ
  pub written : List ℕ
  pub write_faults : ℕ

-- how the call ends: by the reading, or by what is met before or beside it
pub data End : Type 0 where
  by_reading : Ending → End
  no_index : End
  opening_failed : (before : ℕ) → (after : ℕ) → End
  read_failed : End
  write_failed : End
  out_of_memory : End

abbrev pub reading_status : Ending → ℕ
reading_status all_read = 0
reading_status (bad_line number) = 3
reading_status clients_over = 10
reading_status line_over = 10
reading_status input_over = 10
reading_status stopped = 11

abbrev pub status_of : End → ℕ
status_of (by_reading ending) = reading_status ending
status_of no_index = 8
status_of (opening_failed before after) = 4
status_of read_failed = 5
status_of write_failed = 6
status_of out_of_memory = 11

abbrev pub error_line : List (List ℕ) → List ℕ
error_line words_behind = words (codes "error" ∷ words_behind) ++ 10 ∷ []

abbrev pub limit_line : List ℕ → ℕ → List ℕ
limit_line name number = error_line (codes "10" ∷ codes "limit" ∷ name ∷ decimal number ∷ [])

abbrev pub reading_error : Ending → List ℕ
reading_error all_read = []
reading_error (bad_line number) = error_line (codes "3" ∷ codes "badline" ∷ decimal number ∷ [])
reading_error clients_over = limit_line (codes "clients") max_clients
reading_error line_over = limit_line (codes "line") max_line
reading_error input_over = limit_line (codes "input") max_input
reading_error stopped = []

-- the last line of a status
abbrev pub error_of : End → List ℕ
error_of (by_reading ending) = reading_error ending
error_of no_index = error_line (codes "8" ∷ codes "noindex" ∷ [])
error_of (opening_failed before after) = error_line (codes "4" ∷ codes "storefault" ∷ decimal before ∷ decimal after ∷ [])
error_of read_failed = error_line (codes "5" ∷ codes "readfault" ∷ [])
error_of write_failed = []
error_of out_of_memory = []

-- a last line was written, or a front of it where a write may have failed
abbrev pub WroteLine : ℕ → ℕ → List ℕ → List ℕ → Type 0
WroteLine before after line text = (text ≡ line) ⊎ (Rose before after × IsPrefixOf text line)

-- The lines of all outcomes but the last were written, and a front of that one's.
pub record CutShort (outcomes : List Outcome) (text : List ℕ) : Type 0 where
  pub whole : List Outcome
  pub last : Outcome
  pub are : outcomes ≡ whole ++ last ∷ []
  pub front : List ℕ
  pub rest : List ℕ
  pub line : printed (last ∷ []) ≡ front ++ rest
  pub is : text ≡ printed whole ++ front

-- The lines of all outcomes were written, but for the end of the last.
abbrev pub WroteMost : List Outcome → List ℕ → Type 0
WroteMost outcomes text = (text ≡ printed outcomes) ⊎ CutShort outcomes text

-- these lines, and then the status's own
pub record WroteAll (before after : ℕ) (outcomes : List Outcome) (line text : List ℕ) : Type 0 where
  pub last : List ℕ
  pub is : text ≡ printed outcomes ++ last
  pub wrote : WroteLine before after line last

-- A line for each outcome, and then the status's own. Where writing failed the last outcome is that of the line whose
-- writing failed; where memory ran out the last one's line may not be written.
abbrev pub Wrote : ℕ → ℕ → End → List Outcome → List ℕ → Type 0
Wrote before after (by_reading ending) outcomes text = WroteAll before after outcomes (reading_error ending) text
Wrote before after no_index outcomes text = WroteAll before after outcomes (error_of no_index) text
Wrote before after (opening_failed low high) outcomes text = WroteAll before after outcomes (error_of (opening_failed low high)) text
Wrote before after read_failed outcomes text = WroteAll before after outcomes (error_of read_failed) text
Wrote before after write_failed outcomes text = CutShort outcomes text
Wrote before after out_of_memory outcomes text = WroteMost outcomes text

-- which lines were read, and why no more were answered
abbrev pub HasEnd : Before → After → List Line → End → Type 0
HasEnd before after lines (by_reading ending) = (ending ≢ stopped) × Reads (length before.log_faults) before.input lines ending
HasEnd before after lines no_index = lines ≡ []
HasEnd before after lines (opening_failed low high) = lines ≡ []
HasEnd before after lines read_failed =
    Reads (length before.log_faults) before.input lines stopped × Rose before.read_faults after.read_faults × FailsBehind before.input after.left lines
HasEnd before after lines write_failed =
    Reads (length before.log_faults) before.input lines stopped × Rose before.write_faults after.write_faults
HasEnd before after lines out_of_memory = Reads (length before.log_faults) before.input lines stopped

-- ---- the node's life

-- a node as the call begins, before it reads the journal
pub record IsFresh (before : Before) (history : List Entry) (node : Node) : Type 0 where
  pub stands : IsCoreOf before.kept node.core
  pub is : node ≡ opened_node (record {
    log = before.log;
    log_faults = before.log_faults;
    history = history;
    store_faults = before.store_faults;
    files = node.core.files;
    late = node.core.late;
  })

-- what opening makes of a node: the journal is read, and what lands in time is read too
pub record Opens (fresh : Node) (answer : Result ⊤ Unread) (node : Node) : Type 0 where
  pub fate : Fate
  pub core : Core
  pub did : loaded fate fresh.core ≡ gives answer core
  pub is : node ≡ record fresh { core = core }

-- an opened node answered these lines
pub record Answers (fresh : Node) (lines : List Line) (outcomes : List Outcome) (last : Node) : Type 0 where
  pub opened : Node
  pub opens : Opens fresh (Ok tt) opened
  pub turns : Turns opened lines outcomes last

-- no node was opened, and no line answered
pub record Unopened (fresh : Node) (lines : List Line) (outcomes : List Outcome) (why : Unread) (last : Node) : Type 0 where
  pub no_lines : lines ≡ []
  pub no_outcomes : outcomes ≡ []
  pub opens : Opens fresh (Err why) last

-- memory ran out in a line that was read
pub record RanShort (before : Before) (fresh : Node) (lines : List Line) (outcomes : List Outcome) (last : Node) : Type 0 where
  pub mid : Node
  pub answers : Answers fresh lines outcomes mid
  pub line : Line
  pub read : Reads (length before.log_faults) before.input (lines ++ line ∷ []) stopped
  pub turn : Turn mid line None last

-- the node of each end: what it did with the store and the logs is all that the call did
abbrev pub Lives : Before → End → Node → List Line → List Outcome → Node → Type 0
Lives before (by_reading ending) fresh lines outcomes last = Answers fresh lines outcomes last
Lives before no_index fresh lines outcomes last = Unopened fresh lines outcomes calls.no_index last
Lives before (opening_failed low high) fresh lines outcomes last = Unopened fresh lines outcomes (not_read (faulted (store_fault low high))) last
Lives before read_failed fresh lines outcomes last = Answers fresh lines outcomes last
Lives before write_failed fresh lines outcomes last = Answers fresh lines outcomes last
Lives before out_of_memory fresh lines outcomes last =
    ((lines ≡ []) × (outcomes ≡ []) × (last ≡ fresh)) ⊎ (Unopened fresh lines outcomes (not_read no_memory) last
    ⊎ (Answers fresh lines outcomes last ⊎ RanShort before fresh lines outcomes last))

-- ---- the files along the way

-- From this node the lines are answered by these outcomes, and that node stands behind them. Each line leaves its files, and what the collector says
-- of one is what it did.
abbrev pub TurnsAlong : Node → List Line → List Outcome → Node → Type 0
TurnsAlong node [] [] last = last ≡ node
TurnsAlong node [] (outcome ∷ outcomes) last = ⊥
TurnsAlong node (line ∷ lines) [] last = ⊥
TurnsAlong node (line ∷ lines) (outcome ∷ outcomes) last =
    (mid : Node) × Turn node line (Some outcome) mid × Reaches node.core mid.core node.log × LineCollects node.core.history mid.core.history (Some outcome)
    × TurnsAlong mid lines outcomes last

-- the same, and maybe a line more for which there was no memory
abbrev pub RunAlong : Node → List Line → List Outcome → Node → Type 0
RunAlong node lines outcomes last =
    TurnsAlong node lines outcomes last
    ⊎ ((mid : Node) × TurnsAlong node lines outcomes mid × ((line : Line) × Turn mid line None last × Reaches mid.core last.core mid.log))

-- the opening left its files, and so did each line
pub record AnswersAlong (fresh : Node) (lines : List Line) (outcomes : List Outcome) (last : Node) : Type 0 where
  pub opened : Node
  pub opens : Opens fresh (Ok tt) opened
  pub reaches : Reaches fresh.core opened.core fresh.log
  pub turns : RunAlong opened lines outcomes last

-- or no line was answered, and what was done leaves its files
pub record NoneAlong (fresh : Node) (lines : List Line) (outcomes : List Outcome) (last : Node) : Type 0 where
  pub no_lines : lines ≡ []
  pub no_outcomes : outcomes ≡ []
  pub reaches : Reaches fresh.core last.core fresh.log

-- the files stand at entry, and the opening left its own
pub record BeginsAlong (fresh opened : Node) : Type 0 where
  pub entry : Reaches fresh.core fresh.core fresh.log
  pub reaches : Reaches fresh.core opened.core fresh.log

-- THE FILES STAND at entry, and behind the opening and each line.
pub record Along (fresh : Node) (lines : List Line) (outcomes : List Outcome) (last : Node) : Type 0 where
  pub entry : Reaches fresh.core fresh.core fresh.log
  pub behind : NoneAlong fresh lines outcomes last ⊎ AnswersAlong fresh lines outcomes last

-- the fault of the store that the last line tells
abbrev pub end_told : End → List Interval
end_told (by_reading ending) = []
end_told no_index = []
end_told (opening_failed low high) = record { low = low; high = high } ∷ []
end_told read_failed = []
end_told write_failed = []
end_told out_of_memory = []

abbrev pub log_faults_of : Indexer → ℕ
log_faults_of indexer = indexer.log_faults

-- the node at the end is the one that the outside shows: its counts are those at exit, and it stands for the store
pub record IsShown (after : After) (node : Node) : Type 0 where
  pub store_count : node.core.store_faults ≡ after.store_faults
  pub log_count : map log_faults_of node.indexers ≡ after.log_faults
  pub stands : IsCoreOf after.kept node.core

-- ---- the searches, without a node

-- The reply is the answer to the search that its client opened last, as its text asks it of the index's configuration, over
-- what was visible at the revision that it names; that is at least the client's front, of its deletes too, and the journal's end
-- at entry, and the journal at exit reaches it.
pub record IsAnswered (history : List Entry) (log : Log) (least : ℕ) (known : Known) (reply : Reply) : Type 0 where
  pub client : reply.client ≡ known.name
  pub search : Search
  pub asked : asked_of (config_then reply.revision history) known.text ≡ Ok (IsSearch search)
  pub answer : reply.said ≡ answer (config_then reply.revision history).schema search (visible_at reply.revision history log)
  pub front : known.front ≤ reply.revision
  pub entry : least ≤ reply.revision
  pub exit : reply.revision ≤ length history

abbrev pub IfFound : Said → Type 0 → Type 0
IfFound (Found count hits aggregations) fact = fact
IfFound (Deleted opstamp) fact = Unit {0}
IfFound (Refused refusal) fact = Unit {0}

abbrev pub AnswersOne : List Entry → Log → ℕ → List Known → Line → Outcome → Type 0
AnswersOne history log least knowns line (client_said who (Replied reply)) =
    IfFound reply.said ((name : List ℕ) × (line ≡ StepClient name) × IsAnswered history log least (known_of name knowns) reply)
AnswersOne history log least knowns line outcome = Unit {0}

abbrev pub AnswersFrom : List Entry → Log → ℕ → List Known → List Line → List Outcome → Type 0
AnswersFrom history log least knowns [] [] = Unit {0}
AnswersFrom history log least knowns [] (outcome ∷ outcomes) = ⊥
AnswersFrom history log least knowns (line ∷ lines) [] = ⊥
AnswersFrom history log least knowns (line ∷ lines) (outcome ∷ outcomes) =
    AnswersOne history log least knowns line outcome × AnswersFrom history log least (after_outcome knowns line outcome) lines outcomes

-- ---- the clause

abbrev pub StoodStill : ℕ → ℕ → Type 0
StoodStill before after = (before ≡ after) × (after < last_count)

-- no count rose, and none stands at its type's end
pub record IsCalm (before : Before) (after : After) : Type 0 where
  pub store : StoodStill before.store_faults after.store_faults
  pub log : (before.log_faults ≡ after.log_faults) × All (λ n. n < last_count) after.log_faults
  pub input : StoodStill before.read_faults after.read_faults
  pub output : StoodStill before.write_faults after.write_faults

-- Over a store that is an index with this journal, and a log, `drive` ends with this status.
pub record Drives (history : List Entry) (before : Before) (after : After) (status : ℕ) : Type 0 where
  pub end : End
  pub status_is : status ≡ status_of end
  pub lines : List Line
  pub outcomes : List Outcome
  -- why it ended, and which lines were answered
  pub ends : HasEnd before after lines end
  -- what was written: a line for each of these, and the last line of the status
  pub text : List ℕ
  pub written : after.written ≡ before.written ++ text
  pub wrote : Wrote before.write_faults after.write_faults end outcomes text
  -- the journal at entry is a prefix of the journal at exit, and the store is an index again
  pub exit : List Entry
  pub index : IsIndexOf after.kept exit before.log
  pub goes_on : IsPrefixOf history exit
  -- each accepted record below the checkpoints that is not removed stands once in the published files, and nothing else does
  pub once : HoldsOnce after.kept exit before.log
  -- at each revision of the journal the rows that were published then held each such record once, and nothing else
  pub always : (revision : ℕ) → CoversAt revision exit before.log
  -- behind the call each of these rows that is published still has its file, and each that is marked has its file or none
  pub left : (revision : ℕ) → AreLeft after.kept revision exit before.log
  -- the configuration that the journal at entry names is that of each revision behind it
  pub configured : (config : IndexConfig) → configuration history ≡ Some config → (revision : ℕ) → length history ≤ revision → configuration (take revision exit) ≡ Some config
  -- each reply with hits is right, whatever failed
  pub searches : AnswersFrom exit before.log (length history) [] lines outcomes
  -- each reply that a delete was done names the task that its line added to the journal, of exactly what its client asked to delete; and no refusal is
  -- over a revision before its client's front, so a client's later searches are over one that has its tasks
  pub deletes : DeletesFrom exit (length history) [] lines outcomes
  -- each refusal is one of what its client's text asks: a search is never refused for want of room, and a delete only where there is none
  pub refuses : RefusesFrom exit (length history) [] lines outcomes
  -- each fault of the store that a line tells has its count before and behind, of which the second rose: these lie one behind
  -- another between the counts at entry and at exit
  pub faults : before.store_faults ≤ last_count → AreBetween before.store_faults (end_told end ++ flat_map store_told outcomes) after.store_faults
  -- so where that count stood still none tells any, whatever was late
  pub faultless : StoodStill before.store_faults after.store_faults → end_told end ++ flat_map store_told outcomes ≡ []
  -- so are the faults of each log that its indexer's lines tell: between that log's counts at entry and at exit
  pub source_faults : (i : ℕ) → i < length before.log_faults → slice_index before.log_faults i ≤ last_count →
      AreBetween (slice_index before.log_faults i) (flat_map (log_told i) outcomes) (slice_index after.log_faults i)
  -- each indexer says that it caught up exactly where the checkpoints that it saw are the ends of its partitions
  pub catch_up : (i : ℕ) → i < length before.log_faults → CatchesUp exit before.log i (length history) unseen lines outcomes
  -- a search, or a step of a merger or a delete worker, is refused as Expired only where the deletion grace had passed behind its plan
  pub expires : (config : IndexConfig) → configuration history ≡ Some config → AllByRecursion (ExpiresOver config.deletion_grace) outcomes
  -- what the collector says is what it did, each line behind the journal of those before it
  pub collects : CollectsFrom exit (length history) outcomes
  -- what a merger says is what it did: it replaces exactly the rows that the policy chose at its plan, and a merge is lost only where the journal
  -- doesn't allow it
  pub replaces : ReplacesFrom exit 0 (length history) merges.idle lines outcomes
  -- a merger has nothing to do only where the policy chooses no rows
  pub rests : RestsFrom exit 0 (length history) lines outcomes
  -- what a delete worker says is what it did: it applies all tasks to the first row that is behind them, and that row is lost only where the journal
  -- doesn't allow it
  pub applies : AppliesFrom exit (length history) idle lines outcomes
  -- a delete worker has nothing to do only where all published rows are applied up to the last task
  pub settles : SettlesFrom exit (length history) outcomes
  -- no line tells that a key is foreign or that an entry of the collector is refused, and what fails but for an entry, or for a fetch that comes
  -- too late, is the store
  pub tell : AllByRecursion MayTell outcomes
  -- the node of the store at entry did all this, whatever failed
  pub fresh : Node
  pub is_fresh : IsFresh before history fresh
  pub last : Node
  pub lives : Lives before end fresh lines outcomes last
  -- at entry each published row had its file; and behind the opening and behind each line the rows that were published at each
  -- revision that this reached have their files in the store as it is then
  pub along : Along fresh lines outcomes last
  -- where memory ran out, the lines of all outcomes were written, or no line was begun behind the last of them
  pub printed_all : end ≡ out_of_memory → (text ≡ printed outcomes) ⊎ Answers fresh lines outcomes last
  pub shown : IsShown after last
  -- where nothing failed and nothing was late, the outcomes are those of the node
  pub calm : IsCalm before after → before.kept.late ≡ [] → outcomes ≡ (turns fresh lines).outcomes
  -- where nothing failed, the status is that of the input
  pub exact : IsCalm before after → 0 < length history → (read : List Line) (ending : Ending) → ending ≢ stopped →
      Reads (length before.log_faults) before.input read ending → (status ≡ reading_status ending) ⊎ (status ≡ 11)

-- ---- the premises, at the objects that are handed in

-- what these logs tell is this
pub record LogsShow {L : Type 0} (log_told : L → Option Log) (log_count : L → ℕ) (logs : List L) (before : Before) : Type 0 where
  pub log : All (λ l. log_told l ≡ Some before.log) logs
  pub log_faults : map log_count logs ≡ before.log_faults

-- what this input and this output tell is this
pub record StreamsShow {R W : Type 0} (left : R → Option (List ℕ)) (read_count : R → ℕ) (taken : W → Option (List ℕ)) (write_count : W → ℕ)
    (input : R) (output : W) (before : Before) : Type 0 where
  pub input_left : left input ≡ Some before.input
  pub read_faults : read_count input ≡ before.read_faults
  pub written : taken output ≡ Some before.written
  pub write_faults : write_count output ≡ before.write_faults

-- what these objects tell is this
pub record Shows {S L R W : Type 0} (told : S → Option State) (count : S → ℕ) (log_told : L → Option Log) (log_count : L → ℕ)
    (left : R → Option (List ℕ)) (read_count : R → ℕ) (taken : W → Option (List ℕ)) (write_count : W → ℕ)
    (store : S) (logs : List L) (input : R) (output : W) (before : Before) : Type 0 where
  pub kept : told store ≡ Some before.kept
  pub store_faults : count store ≡ before.store_faults
  pub logs_show : LogsShow log_told log_count logs before
  pub streams_show : StreamsShow left read_count taken write_count input output before

-- and behind the call this; the counts that the call reports are those of the store that it gives back and of the logs
pub record ShowsAfter {S L R W : Type 0} (told : S → Option State) (count : S → ℕ) (log_count : L → ℕ) (since : L → L → Type 0) (left : R → Option (List ℕ)) (read_count : R → ℕ)
    (taken : W → Option (List ℕ)) (write_count : W → ℕ) (store : S) (store_faults log_faults : ℕ) (logs : List L) (input : R) (output : W)
    (after : After) : Type 0 where
  pub kept : told store ≡ Some after.kept
  pub store_count : count store ≡ after.store_faults
  pub reported : store_faults ≡ after.store_faults
  pub let_go : LetGo log_count since logs after.log_faults log_faults
  pub left_is : left input ≡ after.left
  pub read_faults : read_count input ≡ after.read_faults
  pub written : taken output ≡ Some after.written
  pub write_faults : write_count output ≡ after.write_faults

-- Behind the call the objects show this, of which that holds, and the logs that are given back are later states with its counts.
abbrev pub Returns : {S L R W : Type 0} → (told : S → Option State) (count : S → ℕ) (log_count : L → ℕ) (since : L → L → Type 0) (left : R → Option (List ℕ)) (read_count : R → ℕ)
    (taken : W → Option (List ℕ)) (write_count : W → ℕ) (store : S) (store_faults log_faults : ℕ) (logs lasts : List L) (input : R) (output : W) → (After → Type 0) → Type 0
Returns told count log_count since left read_count taken write_count store store_faults log_faults logs lasts input output Holds =
    (after : After) × ShowsAfter told count log_count since left read_count taken write_count store store_faults log_faults logs input output after
    × Holds after × GivesLogs log_count since logs lasts after.log_faults

-- the store is an index with this journal, over a log that the handed-in one extends
pub record EntersAs (history : List Entry) (before : Before) : Type 0 where
  pub is_log : IsLog before.log
  pub log : Log  -- as it was when the store was made
  pub was_log : IsLog log
  pub extends : Extends log before.log
  pub index : IsIndexOf before.kept history log

-- the first entry of an index
abbrev pub create_entry : ℕ → List ℕ → Entry
create_entry moment config = record { moment = moment; act = Create config }

-- the words of the command line are `drive` alone
abbrev pub IsDrive : List (List ℕ) → Type 0
IsDrive given = given ≡ codes "drive" ∷ []

-- Other words are answered before anything else: nothing is read, the store is as it was, and the counts that are reported
-- are those of the store and of the logs as they were handed in.
pub record RefusesWords {S L R : Type 0} (told : S → Option State) (count : S → ℕ) (log_count : L → ℕ) (left : R → Option (List ℕ)) (read_count : R → ℕ)
    (store after_store : S) (logs : List L) (store_faults log_faults : ℕ) (input after_input : R) : Type 0 where
  pub kept : told after_store ≡ told store
  pub store_count : count after_store ≡ count store
  pub reported : store_faults ≡ count store
  pub log_sum : log_faults ≡ min (sum (map log_count logs)) last_count
  pub left_same : left after_input ≡ left input
  pub read_same : read_count after_input ≡ read_count input

-- the one line of such words; without memory nothing is written
abbrev pub WroteWords : ℕ → ℕ → ℕ → Option (List ℕ) → Option (List ℕ) → Type 0
WroteWords status before after old new = (written : List ℕ) → old ≡ Some written → (text : List ℕ) × (new ≡ Some (written ++ text))
    × (((status ≡ 1) × WroteLine before after (error_line (codes "1" ∷ codes "badwords" ∷ [])) text) ⊎ ((status ≡ 11) × (text ≡ [])))
