-- What a run finds its store to be, and why it ends with its status.
use Rattle.std.proofs.Common.{◌≡◌, ◌⊎◌, ℕ, ◌≤◌, sym, ap, ◌∙◌, subst, inl, inr, arith}
use Rattle.std.specs.Prelude.{Option, Some, None}
use Rattle.byte_fields.specs.Causes.{Rose}
use Rattle.object_store.specs.Store.{State, WhereTold}
use Rattle.object_store.proofs.Told.{told_map}
use Rattle.index_world.specs.Opened.{OpensIndex}
use Rattle.index_world.specs.World.{Keeping}
use Rattle.quick_node.specs.Causes.{DriveCauses, EndsRunBy, faults_of}
use Rattle.quick_node.specs.Ending.{ended_status}
use Rattle.quick_node.specs.Opening.{EndsBy, IsFound, IsFoundFrom, Outside, RunFinds}
use Rattle.input_lines.specs.Requests.{IsFault}
use Rattle.quick_node.specs.Running.{counts_of}
use Rattle.quick_node.specs.Saying.{SaidAlone, end_of}
use Rattle.quick_node.specs.declared.error_line.End.{End as Ended}
use Rattle.quick_node.specs.declared.error_line.End.TheVariants as ended
use Rattle.input_lines.specs.declared.requests.ReadEnd.{ReadEnd}
use Rattle.input_lines.specs.declared.requests.ReadEnd.TheVariants as reads
use Rattle.quick_node.proofs.Caused.{run_causes}
use Rattle.quick_node.proofs.RunClause.{none_some, some_is}

-- ---- what was found

pub found_from : (told told' : Option State) → WhereTold told told' IsFoundFrom → IsFound told
found_from None told' w = tt
found_from (Some old) None w = absurd w
found_from (Some old) (Some new) w = (w.0, new, w.1)

pub opens_from : (told told' : Option State) (world : Keeping) → WhereTold told told' (OpensIndex world) → WhereTold told told' IsFoundFrom
opens_from told told' world w = told_map told told' {P = OpensIndex world} {Q = IsFoundFrom} (λ old new o. (o.entries, o.finds)) w

-- a run that was made
pub said_finds : (before after : Outside) (status : ℕ) → SaidAlone before.write_faults after.write_faults status → IsFound before.store → EndsBy RunFinds before after status
said_finds before after status (inl is) found = record { end = ended.Done; status_is = inl is; says = found }
said_finds before after status (inr (inl is)) found = record { end = ended.WriteFault; status_is = inl is.0; says = found }
said_finds before after status (inr (inr is)) found = record { end = ended.Memory; status_is = inr is; says = inl found }

-- a reading that was not whole
pub unread_finds : (Line : Ended → Type 0) (before after : Outside) (end : ReadEnd) (e : Ended) → end_of end ≡ Some e → WhereTold before.store after.store IsFoundFrom → Line e → RunFinds Line before after e
unread_finds Line before after reads.Whole e is found line = absurd (none_some e is)
unread_finds Line before after (reads.BadLine number) e is found line =
    let same = some_is (ended.BadLine number) e is in subst (RunFinds Line before after) same (record { found = found; line = subst Line (sym same) line })
unread_finds Line before after reads.RequestsOver e is found line =
    let same = some_is ended.RequestsOver e is in subst (RunFinds Line before after) same (record { found = found; line = subst Line (sym same) line })
unread_finds Line before after reads.ClientsOver e is found line =
    let same = some_is ended.ClientsOver e is in subst (RunFinds Line before after) same (record { found = found; line = subst Line (sym same) line })
unread_finds Line before after reads.LineOver e is found line =
    let same = some_is ended.LineOver e is in subst (RunFinds Line before after) same (record { found = found; line = subst Line (sym same) line })
unread_finds Line before after reads.InputOver e is found line =
    let same = some_is ended.InputOver e is in subst (RunFinds Line before after) same (record { found = found; line = subst Line (sym same) line })
unread_finds Line before after reads.Fault e is found line =
    let same = some_is ended.ReadFault e is in subst (RunFinds Line before after) same (record { found = found; line = subst Line (sym same) line })

-- ---- why it ends so

module _ (read_before read_after write_before write_after low high status : ℕ) (read : read_before ≤ read_after) (written : write_before ≤ write_after) where
  by_end : (e : Ended) → EndsRunBy (counts_of read_before read_after write_before write_after) e → (status ≡ ended_status e) ⊎ (status ≡ 11) → DriveCauses (faults_of low read_before write_before) (faults_of high read_after write_after) status
  by_end e by is = run_causes (counts_of read_before read_after write_before write_after) low high write_after status read written (omega arith) e by is

  pub said_causes : SaidAlone write_before write_after status → DriveCauses (faults_of low read_before write_before) (faults_of high read_after write_after) status
  said_causes (inl is) = by_end ended.Done tt (inl is)
  said_causes (inr (inl is)) = by_end ended.WriteFault is.1 (inl is.0)
  said_causes (inr (inr is)) = by_end ended.Memory tt (inr is)

  pub short_causes : (status ≡ 11) ⊎ (status ≡ 11) → DriveCauses (faults_of low read_before write_before) (faults_of high read_after write_after) status
  short_causes is = by_end ended.Memory tt is

  pub failed_causes : (end : ReadEnd) (e : Ended) → end_of end ≡ Some e → (IsFault end → Rose read_before read_after) → (status ≡ ended_status e) ⊎ (status ≡ 11) →
      DriveCauses (faults_of low read_before write_before) (faults_of high read_after write_after) status
  failed_causes reads.Whole e is rose by = absurd (none_some e is)
  failed_causes (reads.BadLine number) e is rose by = by_end (ended.BadLine number) tt (subst (λ x. (status ≡ ended_status x) ⊎ (status ≡ 11)) (sym (some_is (ended.BadLine number) e is)) by)
  -- one limit ends as another does
  failed_causes reads.RequestsOver e is rose by = by_end ended.ClientsOver tt (subst (λ x. (status ≡ ended_status x) ⊎ (status ≡ 11)) (sym (some_is ended.RequestsOver e is)) by)
  failed_causes reads.ClientsOver e is rose by = by_end ended.ClientsOver tt (subst (λ x. (status ≡ ended_status x) ⊎ (status ≡ 11)) (sym (some_is ended.ClientsOver e is)) by)
  failed_causes reads.LineOver e is rose by = by_end ended.LineOver tt (subst (λ x. (status ≡ ended_status x) ⊎ (status ≡ 11)) (sym (some_is ended.LineOver e is)) by)
  failed_causes reads.InputOver e is rose by = by_end ended.InputOver tt (subst (λ x. (status ≡ ended_status x) ⊎ (status ≡ 11)) (sym (some_is ended.InputOver e is)) by)
  failed_causes reads.Fault e is rose by = by_end ended.ReadFault (rose tt) (subst (λ x. (status ≡ ended_status x) ⊎ (status ≡ 11)) (sym (some_is ended.ReadFault e is)) by)
