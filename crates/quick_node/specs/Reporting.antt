-- The clause of the top call for the reports on an index, `splits` and `describe`.
use Rattle.std.specs.Prelude.{◌≡◌, ◌⊎◌, ℕ, ◌<◌, ◌≤◌, List, [], ◌∷◌, ◌++◌, length, codes, Option, Some, ⊤}
use Rattle.std.specs.FinMap.{get}
use Rattle.byte_fields.specs.Causes.{Rose}
use Rattle.index_report.specs.Reports.{splits_text, describe_text}
use Rattle.meta_journal.specs.declared.entry.Entry.{Entry}
use Rattle.meta_store.specs.History.{history as told_by}
use Rattle.meta_store.specs.State.{state_of}
use Rattle.meta_store.specs.State as meta
use Rattle.object_store.specs.Store.{State, HasLanded, WhereTold}
use Rattle.index_world.specs.Config.{reads}
use Rattle.index_world.specs.Index.{IsIndexOf}
use Rattle.index_world.specs.Taking.{IsFaultBetween}
use Rattle.index_world.specs.declared.world_error.WorldError.{WorldError}
use Rattle.index_world.specs.declared.world_error.WorldError.TheVariants as errors
use Rattle.quick_node.specs.Ending.{ended_status, last_line}
use Rattle.quick_node.specs.Once.{HoldsOnce, HoldsAt, CoversAt, AreLeft}
use Rattle.quick_node.specs.Serve.{IsPrefixOf, Before, After, WroteLine, IsCalm}
use Rattle.quick_node.specs.declared.error_line.End.{End as Ended}
use Rattle.quick_node.specs.declared.error_line.End.TheVariants as ended
use Rattle.quick_node.specs.declared.reporting.Report.{Report}
use Rattle.quick_node.specs.declared.reporting.Report.TheVariants as kinds

-- the words of the command line are `splits` alone
abbrev pub IsSplits : List (List ℕ) → Type 0
IsSplits given = given ≡ codes "splits" ∷ []

-- the words of the command line are `describe` alone
abbrev pub IsDescribe : List (List ℕ) → Type 0
IsDescribe given = given ≡ codes "describe" ∷ []

-- these words ask for this report
abbrev pub AsksFor : Report → List (List ℕ) → Type 0
AsksFor kinds.Splits given = IsSplits given
AsksFor kinds.Describe given = IsDescribe given

-- ---- the text

-- what a report says of a state
abbrev pub report_text : Report → meta.State → List ℕ
report_text kinds.Splits state = splits_text state.rows
report_text kinds.Describe state = describe_text state

-- The text is the report on the state of the entries that were read: those at entry, with what came to stand before they were
-- read. The journal at exit goes on from them.
pub record IsReport (asked : Report) (history exit : List Entry) (text : List ℕ) : Type 0 where
  pub read : List Entry
  pub some : 0 < length read
  pub goes_on : IsPrefixOf history read
  pub up_to : IsPrefixOf read exit
  pub is : text ≡ report_text asked (state_of reads (told_by read))

-- ---- before the last line

-- No index was opened: the store failed, or the journal was empty.
abbrev pub NotOpened : List Entry → Before → ℕ → WorldError → Type 0
NotOpened history before count (errors.Memory e) = ⊤
NotOpened history before count (errors.Refused refusal) = ⊥
NotOpened history before count (errors.StoreFault low high) = (low ≡ before.store_faults) × (high ≡ count) × Rose before.store_faults count
NotOpened history before count (errors.Missing key) = ⊥
NotOpened history before count (errors.Corrupt key) = ⊥
NotOpened history before count (errors.Foreign key) = ⊥
NotOpened history before count errors.Full = ⊥
NotOpened history before count (errors.Expired planned_at reached) = ⊥
NotOpened history before count errors.NoIndex = history ≡ []
NotOpened history before count errors.IndexExists = ⊥
NotOpened history before count (errors.BadConfig bad) = ⊥

-- why it ends so, with what was written by then, at these counts of the store and of the output
abbrev pub EndsReport : Report → List Entry → Before → (store written : ℕ) → List Entry → List ℕ → Ended → Type 0
EndsReport asked history before store written exit said ended.Done = IsReport asked history exit said
EndsReport asked history before store written exit said ended.BadWords = ⊥
EndsReport asked history before store written exit said (ended.BadLine number) = ⊥
EndsReport asked history before store written exit said ended.ClientsOver = ⊥
EndsReport asked history before store written exit said ended.LineOver = ⊥
EndsReport asked history before store written exit said ended.InputOver = ⊥
EndsReport asked history before store written exit said ended.RequestsOver = ⊥
EndsReport asked history before store written exit said ended.ConfigOver = ⊥
EndsReport asked history before store written exit said (ended.NotOpened error) = NotOpened history before store error × (said ≡ [])
EndsReport asked history before store written exit said (ended.NotMade error) = ⊥
EndsReport asked history before store written exit said ended.ReadFault = ⊥
EndsReport asked history before store written exit said ended.WriteFault =
    Rose before.write_faults written × ((text : List ℕ) × IsReport asked history exit text × IsPrefixOf said text)
EndsReport asked history before store written exit said ended.Memory = said ≡ []

-- Nothing was written to the store, which is an index still, of the journal at entry or one that goes on from it; this was
-- written to the output, and it ends for its reason.
pub record ReportsUpTo (asked : Report) (history : List Entry) (before : Before) (told : Option State) (content : Option (List ℕ)) (store written : ℕ) (end : Ended) : Type 0 where
  pub kept : State
  pub tells : told ≡ Some kept
  pub landed : HasLanded before.kept kept
  pub exit : List Entry
  pub index : IsIndexOf kept exit before.log
  pub goes_on : IsPrefixOf history exit
  pub said : List ℕ
  pub holds : content ≡ Some (before.written ++ said)
  pub ends : EndsReport asked history before store written exit said end

-- the text was written, a front of it where a write failed, or nothing without memory for it
abbrev pub SaysReport : List ℕ → (before after : ℕ) → List ℕ → Ended → Type 0
SaysReport text before after said ended.Done = said ≡ text
SaysReport text before after said ended.BadWords = ⊥
SaysReport text before after said (ended.BadLine number) = ⊥
SaysReport text before after said ended.ClientsOver = ⊥
SaysReport text before after said ended.LineOver = ⊥
SaysReport text before after said ended.InputOver = ⊥
SaysReport text before after said ended.RequestsOver = ⊥
SaysReport text before after said ended.ConfigOver = ⊥
SaysReport text before after said (ended.NotOpened error) = ⊥
SaysReport text before after said (ended.NotMade error) = ⊥
SaysReport text before after said ended.ReadFault = ⊥
SaysReport text before after said ended.WriteFault = Rose before after × IsPrefixOf said text
SaysReport text before after said ended.Memory = said ≡ []

-- so the writing of a report may end
abbrev pub EndsWriting : Ended → Type 0
EndsWriting ended.Done = ⊤
EndsWriting ended.BadWords = ⊥
EndsWriting (ended.BadLine number) = ⊥
EndsWriting ended.ClientsOver = ⊥
EndsWriting ended.LineOver = ⊥
EndsWriting ended.InputOver = ⊥
EndsWriting ended.RequestsOver = ⊥
EndsWriting ended.ConfigOver = ⊥
EndsWriting (ended.NotOpened error) = ⊥
EndsWriting (ended.NotMade error) = ⊥
EndsWriting ended.ReadFault = ⊥
EndsWriting ended.WriteFault = ⊤
EndsWriting ended.Memory = ⊤

-- how it may end over all objects, between these counts of the store and of the output
abbrev pub EndsReportBy : (store written store' written' : ℕ) → Ended → Type 0
EndsReportBy store written store' written' ended.Done = ⊤
EndsReportBy store written store' written' ended.BadWords = ⊥
EndsReportBy store written store' written' (ended.BadLine number) = ⊥
EndsReportBy store written store' written' ended.ClientsOver = ⊥
EndsReportBy store written store' written' ended.LineOver = ⊥
EndsReportBy store written store' written' ended.InputOver = ⊥
EndsReportBy store written store' written' ended.RequestsOver = ⊥
EndsReportBy store written store' written' ended.ConfigOver = ⊥
EndsReportBy store written store' written' (ended.NotOpened error) = IsFaultBetween store store' error
EndsReportBy store written store' written' (ended.NotMade error) = ⊥
EndsReportBy store written store' written' ended.ReadFault = ⊥
EndsReportBy store written store' written' ended.WriteFault = Rose written written'
EndsReportBy store written store' written' ended.Memory = ⊤

-- ---- the clauses

-- over any store and any input: late creates may have landed in the store, and the input is as it was
pub record OnlyReads {S R : Type 0} (told : S → Option State) (left : R → Option (List ℕ)) (read_count : R → ℕ) (store after_store : S) (input after_input : R) : Type 0 where
  pub kept : WhereTold (told store) (told after_store) HasLanded
  pub left_same : left after_input ≡ left input
  pub read_same : read_count after_input ≡ read_count input

-- Over a store that is an index with this journal, also one of no entry, and a log, a report ends with this status.
pub record Reports (asked : Report) (history : List Entry) (before : Before) (after : After) (status : ℕ) : Type 0 where
  -- nothing was written to the store: late creates may have landed
  pub landed : HasLanded before.kept after.kept
  -- the journal at entry is a prefix of the journal at exit, and the store is an index again
  pub exit : List Entry
  pub index : IsIndexOf after.kept exit before.log
  pub goes_on : IsPrefixOf history exit
  -- where nothing was late, the store is as it was, and so is its journal
  pub same : before.kept.late ≡ [] → (after.kept ≡ before.kept) × (exit ≡ history)
  -- each accepted record below the checkpoints that is not removed stands once in the published files, and nothing else does
  pub once : HoldsOnce after.kept exit before.log
  -- at each revision of the journal the rows that were published then held each such record once, and nothing else
  pub always : (revision : ℕ) → CoversAt revision exit before.log
  -- each row that was published at a revision that the call reached, from the end of the journal at entry on, has its file
  pub along : (revision : ℕ) → length history ≤ revision → HoldsAt (get after.kept.objects) revision exit before.log
  -- of all revisions each row that is published still has its file, and each that is marked has its file or none
  pub left : (revision : ℕ) → AreLeft after.kept revision exit before.log
  -- why it ended, and what was written by then
  pub end : Ended
  pub said : List ℕ
  pub ends : EndsReport asked history before after.store_faults after.write_faults exit said end
  -- behind that the last line of the status; without memory for it none
  pub last : List ℕ
  pub written : after.written ≡ before.written ++ (said ++ last)
  pub line : ((status ≡ ended_status end) × WroteLine before.write_faults after.write_faults (last_line end) last) ⊎ ((status ≡ 11) × (last ≡ []))
  -- with status 0 what was written is the report, and nothing else
  pub reported : status ≡ 0 → (text : List ℕ) × IsReport asked history exit text × (after.written ≡ before.written ++ text)
  -- where nothing failed, the status is 0 over a journal with an entry, and 8 where the journal has none
  pub exact : IsCalm before after → 0 < length history → (status ≡ 0) ⊎ (status ≡ 11)
  pub empty : IsCalm before after → exit ≡ [] → (status ≡ 8) ⊎ (status ≡ 11)
