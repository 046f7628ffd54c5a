-- Where the words found no memory the call did nothing, which each command's clause allows.
use Rattle.std.proofs.Common.{◌≡◌, ◌⊎◌, ℕ, ◌≤◌, List, [], ◌++◌, map, sum, refl, sym, ap, ◌∙◌, subst, inl, inr, append-nil, arith}
use Rattle.std.specs.List.{AllZip}
use Rattle.std.specs.Prelude.{Option, Some, None, min}
use Rattle.command_words.specs.declared.run.RunOptions.{RunOptions}
use Rattle.meta_journal.specs.declared.entry.Entry.{Entry}
use Rattle.object_store.specs.Store.{State, HasLanded, WhereTold}
use Rattle.source_log.specs.Log.{Log}
use Rattle.index_world.specs.Core.{last_count}
use Rattle.index_world.specs.Created.{IsToldBy}
use Rattle.index_world.specs.Index.{IsIndexOf}
use Rattle.node_run.specs.Calm.{log_counts}
use Rattle.node_run.specs.Standing.{GivesLogs}
use Rattle.quick_node.specs.Causes.{IsStatusOf}
use Rattle.quick_node.specs.Creating.{Creates, CreatesAt, CreatesUpTo, counts_at}
use Rattle.quick_node.specs.Ending.{EndsSo, ended_status, last_line}
use Rattle.quick_node.specs.Reporting.{Reports, ReportsUpTo}
use Rattle.quick_node.specs.Runs.{Runs}
use Rattle.quick_node.specs.Serve.{Before, After, Shows, ShowsAfter, EntersAs, Drives, WroteLine, WroteWords}
use Rattle.quick_node.specs.declared.error_line.End.TheVariants as ended
use Rattle.quick_node.specs.declared.reporting.Report.{Report}
use Rattle.quick_node.proofs.Calmed.{reader_counts}
use Rattle.quick_node.proofs.DriveClause.{unread_along, begins, returned}
use Rattle.quick_node.proofs.Finding.{some_moment}
use Rattle.quick_node.proofs.CreateClause.{created_after}
use Rattle.quick_node.proofs.LongerLog.{index_longer}
use Rattle.quick_node.proofs.ReportClause.{reported_after}
use Rattle.quick_node.proofs.RunClause.{memory_silent, run_returned, runs_unread}
use Rattle.quick_node.proofs.Reached.{landed_stand}
use Rattle.quick_node.proofs.BeforeLastLine.{met_unread, silent_short}

-- ---- the status

pub is_short : (status : ℕ) → (status ≡ ended_status ended.Memory) ⊎ (status ≡ 11) → status ≡ 11
is_short status (inl is) = is
is_short status (inr is) = is

-- each command may end with it, and so may words that name none
pub short_status : (readers : ℕ) (given : List (List ℕ)) (status : ℕ) → status ≡ 11 → IsStatusOf readers given status
short_status readers given status is = record {
  drive = λ drive. inr (inr (inr (inr (inr (inr (inr (inr (inl is))))))));
  run = λ run. inr (inr (inr (inr (inr (inr (inr (inr (inl is))))))));
  create = λ create. inr (inr (inr (inr (inr (inr (inr (inr (inl is))))))));
  report = λ asked asks. inr (inr (inr (inr (inr (inl is)))));
  other = λ other run none splits describe. inr (inl is);
}

-- nothing is written
pub wrote_none : (before after status : ℕ) (old new : Option (List ℕ)) → ((held : List ℕ) → old ≡ Some held → EndsSo ended.Memory held new before after status) → WroteWords status before after old new
wrote_none before after status old new writes held told = let w = writes held told in (w.text, w.written, inr (by w.text w.wrote))
  where
    by : (text : List ℕ) → ((status ≡ 11) × WroteLine before after (last_line ended.Memory) text) ⊎ ((status ≡ 11) × (text ≡ [])) → (status ≡ 11) × (text ≡ [])
    by text (inl line) = (line.0, silent_short ended.Memory before after text refl line.1)
    by text (inr none) = none

pub landed_itself : (old new : Option State) → new ≡ old → WhereTold old new HasLanded
landed_itself None new same = tt
landed_itself (Some state) new same = subst (λ (told : Option State). WhereTold (Some state) told HasLanded) (sym same) ([], refl)

-- ---- the objects are as they were

module _ {S L R W : Type 0} (told : S → Option State) (count : S → ℕ) (log_told : L → Option Log) (log_count : L → ℕ) (since : L → L → Type 0) (left : R → Option (List ℕ))
    (read_count : R → ℕ) (taken : W → Option (List ℕ)) (write_count : W → ℕ) (history : List Entry) (before : Before) (store store' : S) (store_faults log_faults status : ℕ) (logs lasts : List L) (input : R)
    (output output' : W) (shows : Shows told count log_told log_count left read_count taken write_count store logs input output before) (enters : EntersAs history before) (same : store' ≡ store)
    (reported : store_faults ≡ count store) (same_logs : lasts ≡ logs) (later : AllZip since logs lasts) (sums : log_faults ≡ min (sum (map log_count lasts)) last_count) (counted : write_count output ≤ write_count output')
    (writes : (held : List ℕ) → taken output ≡ Some held → EndsSo ended.Memory held (taken output') (write_count output) (write_count output') status) where
  low : before.write_faults ≤ write_count output
  low = let written = shows.streams_show.write_faults in omega (arith, written)

  kept : told store' ≡ Some before.kept
  kept = ap told same ∙ shows.kept

  nothing : taken output ≡ Some (before.written ++ [])
  nothing = shows.streams_show.written ∙ ap Some (sym (append-nil before.written))

  index : IsIndexOf before.kept history before.log
  index = index_longer before.kept history enters.log before.log enters.was_log enters.is_log enters.extends enters.index

  gives : (counts : List ℕ) → before.log_faults ≡ counts → GivesLogs log_count since logs lasts counts
  gives counts are = record { later = later; counts_are = ap (map log_count) same_logs ∙ shows.logs_show.log_faults ∙ are }

  pub unread_drives : (after : After) × ShowsAfter told count log_count since left read_count taken write_count store' store_faults log_faults logs input output' after × Drives history before after status
      × GivesLogs log_count since logs lasts after.log_faults
  unread_drives =
      let b = begins history before enters in
      let counts : log_counts b.fresh.indexers ≡ before.log_faults = ap (λ n. log_counts n.indexers) b.is.is ∙ reader_counts before.log_faults in
      returned told count log_count since left read_count taken write_count history before b.fresh b.fresh b.is enters.is_log ended.Memory (left input) (read_count input) (write_count output) []
      (met_unread before b.fresh (unread_along history before b.fresh b.is enters.is_log b.world) (left input) (read_count input) (write_count output)) store' store_faults log_faults status logs input output' before.kept kept (ap count same ∙ sym reported) b.world
      (ap (λ n. n.core.store_faults) b.is.is ∙ sym shows.store_faults ∙ sym reported) lasts
      (gives (log_counts b.fresh.indexers) (sym counts)) sums refl (omega arith) low counted
      (writes (before.written ++ []) nothing)

  pub unread_runs : (asked : RunOptions) → (after : After) × ShowsAfter told count log_count since left read_count taken write_count store' store_faults log_faults logs input output' after
      × Runs asked history before after status × GivesLogs log_count since logs lasts after.log_faults
  unread_runs asked =
      let b = begins history before enters in
      let w = writes before.written shows.streams_show.written in
      let none = memory_silent (write_count output) (write_count output') status w.text w.wrote in
      run_returned told count log_count since left read_count taken write_count (λ after. Runs asked history before after status) store' store_faults log_faults logs lasts input output' before.kept (before.written ++ w.text)
      kept (ap count same ∙ sym reported) later sums w.written
      (runs_unread asked history before _ b.fresh b.fresh.core b.is enters.is_log (ap (λ n. n.core.store_faults) b.is.is ∙ sym shows.store_faults ∙ sym reported) b.world w.text refl status none.0 refl none.1)

  pub unread_creates : (clock : Option ℕ) → (after : After) × ShowsAfter told count log_count since left read_count taken write_count store' store_faults log_faults logs input output' after
      × CreatesAt clock history before after status × GivesLogs log_count since logs lasts after.log_faults
  unread_creates clock = (done.0, done.1, (at.0, at.1, done.2), done.3)
    where
      at : (moment : ℕ) × IsToldBy clock moment
      at = some_moment clock

      met : CreatesUpTo history before at.0 (told store') (taken output) (counts_at (count store') (read_count input) (write_count output)) ended.Memory
      met = record {
        kept = before.kept;
        tells = kept;
        exit = history;
        index = index;
        goes_on = ([], sym (append-nil history));
        along = landed_stand before.kept before.kept history history before.log index index ([], refl);
        said = [];
        written = nothing;
        ends = (refl, refl);
      }

      done : (after : After) × ShowsAfter told count log_count since left read_count taken write_count store' store_faults log_faults logs input output' after
          × Creates history before at.0 after status × GivesLogs log_count since logs lasts after.log_faults
      done =
          created_after told count log_count since left read_count taken write_count history before at.0 enters.is_log ended.Memory store' store_faults log_faults status logs input output output' met
          (reported ∙ sym (ap count same)) lasts (gives before.log_faults refl) sums low counted writes

  pub unread_reports : (asked : Report) → (after : After) × ShowsAfter told count log_count since left read_count taken write_count store' store_faults log_faults logs input output' after
      × Reports asked history before after status × GivesLogs log_count since logs lasts after.log_faults
  unread_reports asked =
      reported_after told count log_count since left read_count taken write_count asked history before enters.is_log index ended.Memory store' store_faults log_faults status logs input output output' met
      (reported ∙ sym (ap count same)) lasts (gives before.log_faults refl) sums low counted writes
    where
      met : ReportsUpTo asked history before (told store') (taken output) (count store') (write_count output) ended.Memory
      met = record {
        kept = before.kept;
        tells = kept;
        landed = ([], refl);
        exit = history;
        index = index;
        goes_on = ([], sym (append-nil history));
        said = [];
        holds = nothing;
        ends = refl;
      }
