-- Where nothing is late, a status says what the objects of the journal are.
use Rattle.std.proofs.Common.{◌≡◌, ◌⊎◌, ℕ, ◌+◌, List, [], ◌∷◌, refl, sym, ap, ◌∙◌, subst, inl, inr, arith}
use Rattle.std.specs.Prelude.{Option, Some}
use Rattle.meta_journal.specs.Loading.{IsForeign}
use Rattle.object_store.specs.Store.{State, WhereTold}
use Rattle.index_world.specs.Opened.{Found, none_found, all_found, bad_at, found_in, ObjectsFrom, Finds, OpensNot}
use Rattle.index_world.specs.declared.world_error.WorldError.{WorldError}
use Rattle.index_world.specs.declared.world_error.WorldError.TheVariants as errors
use Rattle.index_world.proofs.Lives.{told_of}
use Rattle.index_world.proofs.StoreKeys.{none_some}
use Rattle.quick_node.specs.Ending.{ended_status}
use Rattle.quick_node.specs.Opening.{Outside, IsFound, DriveFinds, ReportsFound, ReportFinds, EndsBy, TellsFound}
use Rattle.quick_node.specs.declared.error_line.End.{End as Ended}
use Rattle.quick_node.specs.declared.error_line.End.TheVariants as ended
use Rattle.quick_node.specs.declared.reporting.Report.{Report}
use Rattle.quick_node.proofs.CreateLeaves.{nothing_landed}

-- the objects of a journal are one list
same_objects : (s : State) (n : ℕ) (xs ys : List (List ℕ)) → ObjectsFrom s n xs → ObjectsFrom s n ys → xs ≡ ys
same_objects s n [] [] h k = refl
same_objects s n [] (y ∷ ys) h k = absurd (none_some y (sym h ∙ k.0))
same_objects s n (x ∷ xs) [] h k = absurd (none_some x (sym k ∙ h.0))
same_objects s n (x ∷ xs) (y ∷ ys) h k =
    let both : ◌≡◌ {A = Option (List ℕ)} (Some x) (Some y) = sym h.0 ∙ k.0 in
    let first : x ≡ y = cc both in
    ap (λ (b : List ℕ). b ∷ xs) first ∙ ap (λ (bs : List (List ℕ)). y ∷ bs) (same_objects s (n + 1) xs ys h.1 k.1)

module _ (old : State) (objects : List (List ℕ)) (quiet : old.late ≡ []) (stand : ObjectsFrom old 0 objects) where
  found_is : (found : Found) (new : State) → Finds found old new → found_in objects ≡ found
  found_is found new f =
      let same : f.mid ≡ old = nothing_landed old f.mid quiet f.before in
      ap found_in (same_objects old 0 objects f.objects stand (subst (λ (s : State). ObjectsFrom s 0 f.objects) same f.stand)) ∙ f.is

  module _ (status : ℕ) where
    short_tells : status ≡ 11 → TellsFound old objects status
    short_tells is = record {
      index = λ four seven eight eleven. absurd (eleven is);
      none = λ e. absurd (omega (arith, is, e));
      bad = λ e. absurd (omega (arith, is, e));
    }

    -- an index was found, and the status is none of those of a store that is none
    index_tells : (told : Option State) (s : ℕ) → told ≡ Some old → IsFound told → status ≡ s → (s ≡ 7 → ⊥) → (s ≡ 8 → ⊥) → TellsFound old objects status
    index_tells told s tells found is seven eight =
        let f = subst IsFound tells found in
        record {
          index = λ no_four no_seven no_eight no_eleven. (f.0, found_is (all_found f.0) f.1 f.2);
          none = λ e. absurd (eight (sym is ∙ e));
          bad = λ e. absurd (seven (sym is ∙ e));
        }

    unopened_by : (low high : ℕ) (error : WorldError) (new : State) → OpensNot low high error old new → status ≡ ended_status (ended.NotOpened error) → TellsFound old objects status
    unopened_by low high (errors.Memory e) new n is = short_tells is
    unopened_by low high (errors.Refused refusal) new n is = absurd n
    unopened_by low high (errors.StoreFault a b) new n is = record {
      index = λ four seven eight eleven. absurd (four is);
      none = λ e. absurd (omega (arith, is, e));
      bad = λ e. absurd (omega (arith, is, e));
    }
    unopened_by low high (errors.Missing key) new n is = absurd n
    unopened_by low high (errors.Corrupt key) new n is = record {
      index = λ four seven eight eleven. absurd (seven is);
      none = λ e. absurd (omega (arith, is, e));
      bad = λ e. inl (n.0, found_is (bad_at n.0) new n.2);
    }
    unopened_by low high (errors.Foreign key) new n is = record {
      index = λ four seven eight eleven. absurd (seven is);
      none = λ e. absurd (omega (arith, is, e));
      bad = λ e. inr (key, subst (λ (s : State). IsForeign s key) (nothing_landed old new quiet n.0) n.1);
    }
    unopened_by low high errors.Full new n is = absurd n
    unopened_by low high (errors.Expired planned_at reached) new n is = absurd n
    unopened_by low high errors.NoIndex new n is = record {
      index = λ four seven eight eleven. absurd (eight is);
      none = λ e. found_is none_found new n;
      bad = λ e. absurd (omega (arith, is, e));
    }
    unopened_by low high errors.IndexExists new n is = absurd n
    unopened_by low high (errors.BadConfig bad) new n is = absurd n

    module _ (before after : Outside) (tells : before.store ≡ Some old) where
      unopened : (error : WorldError) → WhereTold before.store after.store (OpensNot before.store_faults after.store_faults error) → status ≡ ended_status (ended.NotOpened error) → TellsFound old objects status
      unopened error why is =
          let t = told_of before.store after.store old (OpensNot before.store_faults after.store_faults error) tells why in
          unopened_by before.store_faults after.store_faults error t.new t.says is

      found_by_drive : (Line : Ended → Type 0) (end : Ended) → DriveFinds Line before after end → status ≡ ended_status end → TellsFound old objects status
      found_by_drive Line ended.Done f is = index_tells before.store 0 tells f is (λ e. omega (arith, e)) (λ e. omega (arith, e))
      found_by_drive Line ended.BadWords f is = absurd f
      found_by_drive Line (ended.BadLine number) f is = index_tells before.store 3 tells f is (λ e. omega (arith, e)) (λ e. omega (arith, e))
      found_by_drive Line ended.ClientsOver f is = index_tells before.store 10 tells f is (λ e. omega (arith, e)) (λ e. omega (arith, e))
      found_by_drive Line ended.LineOver f is = index_tells before.store 10 tells f is (λ e. omega (arith, e)) (λ e. omega (arith, e))
      found_by_drive Line ended.InputOver f is = index_tells before.store 10 tells f is (λ e. omega (arith, e)) (λ e. omega (arith, e))
      found_by_drive Line ended.RequestsOver f is = absurd f
      found_by_drive Line ended.ConfigOver f is = absurd f
      found_by_drive Line (ended.NotOpened error) f is = unopened error f.why is
      found_by_drive Line (ended.NotMade error) f is = absurd f
      found_by_drive Line ended.ReadFault f is = index_tells before.store 5 tells f is (λ e. omega (arith, e)) (λ e. omega (arith, e))
      found_by_drive Line ended.WriteFault f is = index_tells before.store 6 tells f is (λ e. omega (arith, e)) (λ e. omega (arith, e))
      found_by_drive Line ended.Memory f is = short_tells is

      reported : (asked : Report) (end : Ended) (s : ℕ) → WhereTold before.store after.store (ReportsFound asked before after end) → status ≡ s → (s ≡ 7 → ⊥) → (s ≡ 8 → ⊥) → TellsFound old objects status
      reported asked end s w is seven eight =
          let t = told_of before.store after.store old (ReportsFound asked before after end) tells w in
          index_tells (Some old) s refl (t.says.0, t.new, t.says.1) is seven eight

      found_by_report : (asked : Report) (Line : Ended → Type 0) (end : Ended) → ReportFinds asked Line before after end → status ≡ ended_status end → TellsFound old objects status
      found_by_report asked Line ended.Done f is = reported asked ended.Done 0 f is (λ e. omega (arith, e)) (λ e. omega (arith, e))
      found_by_report asked Line ended.BadWords f is = absurd f
      found_by_report asked Line (ended.BadLine number) f is = absurd f
      found_by_report asked Line ended.ClientsOver f is = absurd f
      found_by_report asked Line ended.LineOver f is = absurd f
      found_by_report asked Line ended.InputOver f is = absurd f
      found_by_report asked Line ended.RequestsOver f is = absurd f
      found_by_report asked Line ended.ConfigOver f is = absurd f
      found_by_report asked Line (ended.NotOpened error) f is = unopened error f.why is
      found_by_report asked Line (ended.NotMade error) f is = absurd f
      found_by_report asked Line ended.ReadFault f is = absurd f
      found_by_report asked Line ended.WriteFault f is = reported asked ended.WriteFault 6 f is (λ e. omega (arith, e)) (λ e. omega (arith, e))
      found_by_report asked Line ended.Memory f is = short_tells is

-- by the status of each command that opens an index
pub drive_tells : (old : State) (objects : List (List ℕ)) → old.late ≡ [] → ObjectsFrom old 0 objects → (before after : Outside) (status : ℕ) → before.store ≡ Some old → EndsBy DriveFinds before after status → TellsFound old objects status
drive_tells old objects quiet stand before after status tells e = by e.status_is
  where
    by : (status ≡ ended_status e.end) ⊎ (status ≡ 11) → TellsFound old objects status
    by (inl is) = found_by_drive old objects quiet stand status before after tells _ e.end e.says is
    by (inr is) = short_tells old objects quiet stand status is

pub report_tells : (old : State) (objects : List (List ℕ)) → old.late ≡ [] → ObjectsFrom old 0 objects → (asked : Report) (before after : Outside) (status : ℕ) → before.store ≡ Some old → EndsBy (ReportFinds asked) before after status →
    TellsFound old objects status
report_tells old objects quiet stand asked before after status tells e = by e.status_is
  where
    by : (status ≡ ended_status e.end) ⊎ (status ≡ 11) → TellsFound old objects status
    by (inl is) = found_by_report old objects quiet stand status before after tells asked _ e.end e.says is
    by (inr is) = short_tells old objects quiet stand status is
