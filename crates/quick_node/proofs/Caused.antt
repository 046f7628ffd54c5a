-- Why a call ends with its status.
use Rattle.std.proofs.Common.{◌≡◌, ◌⊎◌, ℕ, ◌≤◌, sym, ◌∙◌, subst, inl, inr, arith}
use Rattle.std.specs.Prelude.{Option, Some, None, Result, Ok, Err, IfOk, IfSome}
use Rattle.std.specs.declared.alloc.AllocError.{AllocError}
use Rattle.byte_fields.specs.Causes.{Rose}
use Rattle.index_world.specs.Taking.{IsFaultBetween}
use Rattle.index_world.specs.declared.world_error.WorldError.{WorldError}
use Rattle.index_world.specs.declared.world_error.WorldError.TheVariants as errors
use Rattle.quick_node.specs.Causes.{Faults, faults_of, HasCauses, IsOneOf, other_statuses, DriveCauses, CreateCauses, EndsLineBy, EndsRunBy}
use Rattle.quick_node.specs.Creating.{counts_at, EndsCreateBy}
use Rattle.quick_node.specs.Ending.{ended_status}
use Rattle.quick_node.specs.Running.{Counts, counts_of, done_behind}
use Rattle.quick_node.specs.declared.error_line.End.{End as Ended}
use Rattle.quick_node.specs.declared.error_line.End.TheVariants as ended
use Rattle.quick_node.proofs.RunSteps.{rose_earlier}

module _ (before after : Faults) (status : ℕ) (read : before.input ≤ after.input) (written : before.output ≤ after.output) where
  pub caused : (s : ℕ) → status ≡ s → (s ≡ 4 → Rose before.store after.store) → (s ≡ 5 → Rose before.input after.input) → (s ≡ 6 → Rose before.output after.output) →
      HasCauses before after status
  caused s is store input output =
      record {
        store = λ e. store (sym is ∙ e);
        input = λ e. input (sym is ∙ e);
        output = λ e. output (sym is ∙ e);
        read_on = read;
        written_on = written;
      }

  -- a status that names none of the three
  pub by_none : (s : ℕ) → status ≡ s → (s ≡ 4 → ⊥) → (s ≡ 5 → ⊥) → (s ≡ 6 → ⊥) → HasCauses before after status
  by_none s is four five six = caused s is (λ e. absurd (four e)) (λ e. absurd (five e)) (λ e. absurd (six e))

  short : status ≡ 11 → DriveCauses before after status
  short is =
      record {
        causes = by_none 11 is (λ e. omega (arith, e)) (λ e. omega (arith, e)) (λ e. omega (arith, e));
        known = inr (inr (inr (inr (inr (inr (inr (inr (inl is))))))));
      }

  limit : status ≡ 10 → DriveCauses before after status
  limit is =
      record {
        causes = by_none 10 is (λ e. omega (arith, e)) (λ e. omega (arith, e)) (λ e. omega (arith, e));
        known = inr (inr (inr (inr (inr (inr (inr (inl is)))))));
      }

  refused : status ≡ 7 → DriveCauses before after status
  refused is =
      record {
        causes = by_none 7 is (λ e. omega (arith, e)) (λ e. omega (arith, e)) (λ e. omega (arith, e));
        known = inr (inr (inr (inr (inr (inl is)))));
      }

  -- words that are no command
  pub other_causes : IsOneOf status other_statuses → HasCauses before after status
  other_causes (inl is) = by_none 1 is (λ e. omega (arith, e)) (λ e. omega (arith, e)) (λ e. omega (arith, e))
  other_causes (inr (inl is)) = by_none 11 is (λ e. omega (arith, e)) (λ e. omega (arith, e)) (λ e. omega (arith, e))
  other_causes (inr (inr none)) = absurd none

  -- an index that was not opened
  not_opened : (error : WorldError) → IsFaultBetween before.store after.store error → status ≡ ended_status (ended.NotOpened error) → DriveCauses before after status
  not_opened (errors.Memory e) f is = short is
  not_opened (errors.Refused refusal) f is = refused is
  not_opened (errors.StoreFault low high) f is =
      record {
        causes = caused 4 is (λ e. f.2) (λ e. absurd (omega (arith, e))) (λ e. absurd (omega (arith, e)));
        known = inr (inr (inl is));
      }
  not_opened (errors.Missing key) f is = refused is
  not_opened (errors.Corrupt key) f is = refused is
  not_opened (errors.Foreign key) f is = refused is
  not_opened errors.Full f is = refused is
  not_opened (errors.Expired planned_at reached) f is = refused is
  not_opened errors.NoIndex f is =
      record {
        causes = by_none 8 is (λ e. omega (arith, e)) (λ e. omega (arith, e)) (λ e. omega (arith, e));
        known = inr (inr (inr (inr (inr (inr (inl is))))));
      }
  not_opened errors.IndexExists f is = refused is
  not_opened (errors.BadConfig bad) f is = refused is

  pub opening_causes : (error : WorldError) → IsFaultBetween before.store after.store error →
      (status ≡ ended_status (ended.NotOpened error)) ⊎ (status ≡ 11) → DriveCauses before after status
  opening_causes error f (inl is) = not_opened error f is
  opening_causes error f (inr is) = short is

-- a run over lines
module _ (counts : Counts) (low high last status : ℕ) (read : counts.read_before ≤ counts.read_after) (written : counts.write_before ≤ counts.write_after)
    (later : counts.write_after ≤ last) where
  abbrev first : Faults
  first = faults_of low counts.read_before counts.write_before

  abbrev behind : Faults
  behind = faults_of high counts.read_after last

  on : counts.write_before ≤ last
  on = omega (arith, written, later)

  run_ended : (e : Ended) → EndsRunBy counts e → status ≡ ended_status e → DriveCauses first behind status
  run_ended ended.Done by is =
      record { causes = by_none first behind status read on 0 is (λ e. omega (arith, e)) (λ e. omega (arith, e)) (λ e. omega (arith, e)); known = inl is }
  run_ended ended.BadWords by is = absurd by
  run_ended (ended.BadLine number) by is =
      record { causes = by_none first behind status read on 3 is (λ e. omega (arith, e)) (λ e. omega (arith, e)) (λ e. omega (arith, e)); known = inr (inl is) }
  run_ended ended.ClientsOver by is = limit first behind status read on is
  run_ended ended.LineOver by is = limit first behind status read on is
  run_ended ended.InputOver by is = limit first behind status read on is
  run_ended ended.RequestsOver by is = absurd by
  run_ended ended.ConfigOver by is = absurd by
  run_ended (ended.NotOpened error) by is = absurd by
  run_ended (ended.NotMade error) by is = absurd by
  run_ended ended.ReadFault by is =
      record {
        causes = caused first behind status read on 5 is (λ e. absurd (omega (arith, e))) (λ e. by) (λ e. absurd (omega (arith, e)));
        known = inr (inr (inr (inl is)));
      }
  run_ended ended.WriteFault by is =
      record {
        causes = caused first behind status read on 6 is (λ e. absurd (omega (arith, e))) (λ e. absurd (omega (arith, e)))
            (λ e. rose_earlier counts.write_before counts.write_before counts.write_after last (omega arith) by later);
        known = inr (inr (inr (inr (inl is))));
      }
  run_ended ended.Memory by is = short first behind status read on is

  pub run_causes : (e : Ended) → EndsRunBy counts e → (status ≡ ended_status e) ⊎ (status ≡ 11) →
      DriveCauses (faults_of low counts.read_before counts.write_before) (faults_of high counts.read_after last) status
  run_causes e by (inl is) = run_ended e by is
  run_causes e by (inr is) = short first behind status read on is

-- ---- lines

pub other_known : (status : ℕ) → (status ≡ ended_status ended.BadWords) ⊎ (status ≡ 11) → IsOneOf status other_statuses
other_known status (inl is) = inl is
other_known status (inr is) = inr (inl is)

line_by : (read_before read_after before after : ℕ) (e : Ended) → EndsLineBy before after e → EndsRunBy (counts_of read_before read_after before after) e
line_by read_before read_after before after ended.Done by = absurd by
line_by read_before read_after before after ended.BadWords by = absurd by
line_by read_before read_after before after (ended.BadLine number) by = tt
line_by read_before read_after before after ended.ClientsOver by = tt
line_by read_before read_after before after ended.LineOver by = absurd by
line_by read_before read_after before after ended.InputOver by = absurd by
line_by read_before read_after before after ended.RequestsOver by = absurd by
line_by read_before read_after before after ended.ConfigOver by = absurd by
line_by read_before read_after before after (ended.NotOpened error) by = absurd by
line_by read_before read_after before after (ended.NotMade error) by = absurd by
line_by read_before read_after before after ended.ReadFault by = absurd by
line_by read_before read_after before after ended.WriteFault by = by
line_by read_before read_after before after ended.Memory by = absurd by

pub line_causes : (read_before read_after before after : ℕ) (r : Result (Option Ended) AllocError) → IfOk r (λ end. IfSome end (EndsLineBy before after)) →
    IfOk r (λ end. IfSome end (EndsRunBy (counts_of read_before read_after before after)))
line_causes read_before read_after before after (Ok None) by = tt
line_causes read_before read_after before after (Ok (Some e)) by = line_by read_before read_after before after e by
line_causes read_before read_after before after (Err refused) by = tt

pub done_causes : (counts : Counts) (r : Result (Option Ended) AllocError) → IfOk r (λ end. IfSome end (EndsRunBy counts)) → IfOk (done_behind r) (λ end. IfSome end (EndsRunBy counts))
done_causes counts (Ok None) by = tt
done_causes counts (Ok (Some e)) by = by
done_causes counts (Err refused) by = by

-- seen from earlier counts
run_earlier : (read read_before read_after write before after : ℕ) → read ≤ read_before → write ≤ before → (e : Ended) →
    EndsRunBy (counts_of read_before read_after before after) e → EndsRunBy (counts_of read read_after write after) e
run_earlier read read_before read_after write before after r w ended.Done by = tt
run_earlier read read_before read_after write before after r w ended.BadWords by = absurd by
run_earlier read read_before read_after write before after r w (ended.BadLine number) by = tt
run_earlier read read_before read_after write before after r w ended.ClientsOver by = tt
run_earlier read read_before read_after write before after r w ended.LineOver by = tt
run_earlier read read_before read_after write before after r w ended.InputOver by = tt
run_earlier read read_before read_after write before after r w ended.RequestsOver by = absurd by
run_earlier read read_before read_after write before after r w ended.ConfigOver by = absurd by
run_earlier read read_before read_after write before after r w (ended.NotOpened error) by = absurd by
run_earlier read read_before read_after write before after r w (ended.NotMade error) by = absurd by
run_earlier read read_before read_after write before after r w ended.ReadFault by = rose_earlier read read_before read_after read_after r by (omega arith)
run_earlier read read_before read_after write before after r w ended.WriteFault by = rose_earlier write before after after w by (omega arith)
run_earlier read read_before read_after write before after r w ended.Memory by = tt

pub ended_earlier : (read read_before read_after write before after : ℕ) → read ≤ read_before → write ≤ before → (o : Option Ended) (e : Ended) → o ≡ Some e →
    IfSome o (EndsRunBy (counts_of read_before read_after before after)) → EndsRunBy (counts_of read read_after write after) e
ended_earlier read read_before read_after write before after r w None e is by = absurd (none_not_some e is)
  where
    none_not_some : (e : Ended) → None ≡ Some e → ⊥
    none_not_some e f = cc
ended_earlier read read_before read_after write before after r w (Some o) e is by =
    run_earlier read read_before read_after write before after r w e (subst (λ x. EndsRunBy (counts_of read_before read_after before after) x) (some_same o e is) by)
  where
    some_same : (a b : Ended) → Some a ≡ Some b → a ≡ b
    some_same a b f = cc

-- ---- the making of an index

module _ (store read written store' read' mid written' status : ℕ) (on : read ≤ read') (low : written ≤ mid) (later : mid ≤ written') where
  abbrev entry : Faults
  entry = faults_of store read written

  abbrev exit : Faults
  exit = faults_of store' read' written'

  all_on : written ≤ written'
  all_on = omega (arith, low, later)

  made_short : status ≡ 11 → CreateCauses entry exit status
  made_short is =
      record {
        causes = by_none entry exit status on all_on 11 is (λ e. omega (arith, e)) (λ e. omega (arith, e)) (λ e. omega (arith, e));
        known = inr (inr (inr (inr (inr (inr (inr (inr (inl is))))))));
      }

  no_index_made : status ≡ 7 → CreateCauses entry exit status
  no_index_made is =
      record {
        causes = by_none entry exit status on all_on 7 is (λ e. omega (arith, e)) (λ e. omega (arith, e)) (λ e. omega (arith, e));
        known = inr (inr (inr (inr (inr (inl is)))));
      }

  not_made : (error : WorldError) → IsFaultBetween store store' error → status ≡ ended_status (ended.NotMade error) → CreateCauses entry exit status
  not_made (errors.Memory e) f is = made_short is
  not_made (errors.Refused refusal) f is = no_index_made is
  not_made (errors.StoreFault a b) f is =
      record {
        causes = caused entry exit status on all_on 4 is (λ e. f.2) (λ e. absurd (omega (arith, e))) (λ e. absurd (omega (arith, e)));
        known = inr (inr (inl is));
      }
  not_made (errors.Missing key) f is = no_index_made is
  not_made (errors.Corrupt key) f is = no_index_made is
  not_made (errors.Foreign key) f is = no_index_made is
  not_made errors.Full f is = no_index_made is
  not_made (errors.Expired planned_at reached) f is = no_index_made is
  not_made errors.NoIndex f is = no_index_made is
  not_made errors.IndexExists f is =
      record {
        causes = by_none entry exit status on all_on 9 is (λ e. omega (arith, e)) (λ e. omega (arith, e)) (λ e. omega (arith, e));
        known = inr (inr (inr (inr (inr (inr (inl is))))));
      }
  not_made (errors.BadConfig bad) f is =
      record {
        causes = by_none entry exit status on all_on 2 is (λ e. omega (arith, e)) (λ e. omega (arith, e)) (λ e. omega (arith, e));
        known = inr (inl is);
      }

  made_ended : (e : Ended) → EndsCreateBy (counts_at store read written) (counts_at store' read' mid) e → status ≡ ended_status e → CreateCauses entry exit status
  made_ended ended.Done by is =
      record { causes = by_none entry exit status on all_on 0 is (λ e. omega (arith, e)) (λ e. omega (arith, e)) (λ e. omega (arith, e)); known = inl is }
  made_ended ended.BadWords by is = absurd by
  made_ended (ended.BadLine number) by is = absurd by
  made_ended ended.ClientsOver by is = absurd by
  made_ended ended.LineOver by is = absurd by
  made_ended ended.InputOver by is = absurd by
  made_ended ended.RequestsOver by is = absurd by
  made_ended ended.ConfigOver by is =
      record {
        causes = by_none entry exit status on all_on 10 is (λ e. omega (arith, e)) (λ e. omega (arith, e)) (λ e. omega (arith, e));
        known = inr (inr (inr (inr (inr (inr (inr (inl is)))))));
      }
  made_ended (ended.NotOpened error) by is = absurd by
  made_ended (ended.NotMade error) by is = not_made error by.0 is
  made_ended ended.ReadFault by is =
      record {
        causes = caused entry exit status on all_on 5 is (λ e. absurd (omega (arith, e))) (λ e. by) (λ e. absurd (omega (arith, e)));
        known = inr (inr (inr (inl is)));
      }
  made_ended ended.WriteFault by is =
      record {
        causes = caused entry exit status on all_on 6 is (λ e. absurd (omega (arith, e))) (λ e. absurd (omega (arith, e))) (λ e. rose_earlier written written mid written' (omega arith) by later);
        known = inr (inr (inr (inr (inl is))));
      }
  made_ended ended.Memory by is = made_short is

  pub made_causes : (e : Ended) → EndsCreateBy (counts_at store read written) (counts_at store' read' mid) e → (status ≡ ended_status e) ⊎ (status ≡ 11) → CreateCauses entry exit status
  made_causes e by (inl is) = made_ended e by is
  made_causes e by (inr is) = made_short is
