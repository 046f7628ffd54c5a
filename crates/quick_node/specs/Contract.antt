-- The contract of the top call.
use Rattle.std.specs.Prelude.{◌≡◌, ◌≤◌, ℕ, List, length, map, min, sum, Option}
use Rattle.command_words.specs.declared.run.RunOptions.{RunOptions}
use Rattle.meta_journal.specs.declared.entry.Entry.{Entry}
use Rattle.object_store.specs.Store.{State}
use Rattle.source_log.specs.Log.{Log}
use Rattle.index_world.specs.Core.{last_count}
use Rattle.quick_node.specs.Causes.{faults_of, HasCauses, IsStatusOf}
use Rattle.quick_node.specs.Creating.{IsCreate, CreatesAt}
use Rattle.quick_node.specs.Opening.{outside_of, Opening}
use Rattle.quick_node.specs.Reporting.{IsSplits, IsDescribe, AsksFor, Reports, OnlyReads}
use Rattle.quick_node.specs.Runs.{IsRun, AsksRun, Runs}
use Rattle.quick_node.specs.Serve.{Before, Shows, Returns, EntersAs, Drives, IsDrive, RefusesWords, WroteWords}
use Rattle.quick_node.specs.declared.reporting.Report.{Report}

-- What a call with these words did, over these objects, of which the first nine are what their types tell: it gave back this
-- store and these logs, with these counts, and left the input and the output so.
pub record Serves {S L R W : Type 0} (told : S → Option State) (count : S → ℕ) (log_told : L → Option Log) (log_count : L → ℕ) (since : L → L → Type 0)
    (left : R → Option (List ℕ)) (read_count : R → ℕ) (taken : W → Option (List ℕ)) (write_count : W → ℕ)
    (given : List (List ℕ)) (store : S) (logs : List L) (clock : Option ℕ) (input : R) (output : W)
    (after_store : S) (store_faults log_faults : ℕ) (lasts : List L) (after_input : R) (after_output : W) (status : ℕ) : Type 0 where
  pub drives : (history : List Entry) (before : Before) → IsDrive given →
      Shows told count log_told log_count left read_count taken write_count store logs input output before → EntersAs history before →
      Returns told count log_count since left read_count taken write_count after_store store_faults log_faults logs lasts after_input after_output (λ after. Drives history before after status)
  pub runs : (options : RunOptions) (history : List Entry) (before : Before) → IsRun options given → options.indexers ≤ length logs →
      Shows told count log_told log_count left read_count taken write_count store logs input output before → EntersAs history before →
      Returns told count log_count since left read_count taken write_count after_store store_faults log_faults logs lasts after_input after_output (λ after. Runs options history before after status)
  pub creates : (history : List Entry) (before : Before) → IsCreate given →
      Shows told count log_told log_count left read_count taken write_count store logs input output before → EntersAs history before →
      Returns told count log_count since left read_count taken write_count after_store store_faults log_faults logs lasts after_input after_output (λ after. CreatesAt clock history before after status)
  pub reports : (asked : Report) (history : List Entry) (before : Before) → AsksFor asked given →
      Shows told count log_told log_count left read_count taken write_count store logs input output before → EntersAs history before →
      Returns told count log_count since left read_count taken write_count after_store store_faults log_faults logs lasts after_input after_output (λ after. Reports asked history before after status)
  -- a report reads nothing of the input, and writes nothing to the store, whatever they are
  pub only_reads : (asked : Report) → AsksFor asked given → OnlyReads told left read_count store after_store input after_input
  pub refuses : (IsDrive given → ⊥) → (AsksRun (length logs) given → ⊥) → (IsCreate given → ⊥) → (IsSplits given → ⊥) → (IsDescribe given → ⊥) →
      RefusesWords told count log_count left read_count store after_store logs store_faults log_faults input after_input
      × WroteWords status (write_count output) (write_count after_output) (taken output) (taken after_output)
  -- what any store that tells is found to be, whether it is an index or not, by each end
  pub opening : Opening (length logs) given clock (outside_of (told store) (count store) (left input) (read_count input) (taken output) (write_count output))
      (outside_of (told after_store) (count after_store) (left after_input) (read_count after_input) (taken after_output) (write_count after_output)) status
  pub causes : HasCauses (faults_of (count store) (read_count input) (write_count output)) (faults_of (count after_store) (read_count after_input) (write_count after_output)) status
  pub statuses : IsStatusOf (length logs) given status
  pub counts : store_faults ≡ count after_store
  -- over all logs, the count that is reported is the sum of those of the logs that are given back
  pub log_sum : log_faults ≡ min (sum (map log_count lasts)) last_count
  -- other words leave the logs as they were
  pub unread : (IsDrive given → ⊥) → (AsksRun (length logs) given → ⊥) → lasts ≡ logs
