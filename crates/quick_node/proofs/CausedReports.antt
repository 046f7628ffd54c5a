-- Why a report ends with its status.
use Rattle.std.proofs.Common.{◌≡◌, ◌⊎◌, ℕ, ◌≤◌, inl, inr, arith}
use Rattle.index_world.specs.Taking.{IsFaultBetween}
use Rattle.index_world.specs.declared.world_error.WorldError.{WorldError}
use Rattle.index_world.specs.declared.world_error.WorldError.TheVariants as errors
use Rattle.quick_node.specs.Causes.{Faults, faults_of, ReportCauses}
use Rattle.quick_node.specs.Ending.{ended_status}
use Rattle.quick_node.specs.Reporting.{EndsReportBy}
use Rattle.quick_node.specs.declared.error_line.End.{End as Ended}
use Rattle.quick_node.specs.declared.error_line.End.TheVariants as ended
use Rattle.quick_node.proofs.Caused.{caused, by_none}
use Rattle.quick_node.proofs.RunSteps.{rose_earlier}

module _ (store read written store' mid written' status : ℕ) (low : written ≤ mid) (later : mid ≤ written') where
  abbrev entry : Faults
  entry = faults_of store read written

  abbrev exit : Faults
  exit = faults_of store' read written'

  on : read ≤ read
  on = omega arith

  all_on : written ≤ written'
  all_on = omega (arith, low, later)

  short : status ≡ 11 → ReportCauses entry exit status
  short is =
      record {
        causes = by_none entry exit status on all_on 11 is (λ e. omega (arith, e)) (λ e. omega (arith, e)) (λ e. omega (arith, e));
        known = inr (inr (inr (inr (inr (inl is)))));
      }

  no_index : status ≡ 7 → ReportCauses entry exit status
  no_index is =
      record {
        causes = by_none entry exit status on all_on 7 is (λ e. omega (arith, e)) (λ e. omega (arith, e)) (λ e. omega (arith, e));
        known = inr (inr (inr (inl is)));
      }

  not_opened : (error : WorldError) → IsFaultBetween store store' error → status ≡ ended_status (ended.NotOpened error) → ReportCauses entry exit status
  not_opened (errors.Memory e) f is = short is
  not_opened (errors.Refused refusal) f is = no_index is
  not_opened (errors.StoreFault a b) f is =
      record {
        causes = caused entry exit status on all_on 4 is (λ e. f.2) (λ e. absurd (omega (arith, e))) (λ e. absurd (omega (arith, e)));
        known = inr (inl is);
      }
  not_opened (errors.Missing key) f is = no_index is
  not_opened (errors.Corrupt key) f is = no_index is
  not_opened (errors.Foreign key) f is = no_index is
  not_opened errors.Full f is = no_index is
  not_opened (errors.Expired planned_at reached) f is = no_index is
  not_opened errors.NoIndex f is =
      record {
        causes = by_none entry exit status on all_on 8 is (λ e. omega (arith, e)) (λ e. omega (arith, e)) (λ e. omega (arith, e));
        known = inr (inr (inr (inr (inl is))));
      }
  not_opened errors.IndexExists f is = no_index is
  not_opened (errors.BadConfig bad) f is = no_index is

  reported : (e : Ended) → EndsReportBy store written store' mid e → status ≡ ended_status e → ReportCauses entry exit status
  reported ended.Done by is =
      record { causes = by_none entry exit status on all_on 0 is (λ e. omega (arith, e)) (λ e. omega (arith, e)) (λ e. omega (arith, e)); known = inl is }
  reported ended.BadWords by is = absurd by
  reported (ended.BadLine number) by is = absurd by
  reported ended.ClientsOver by is = absurd by
  reported ended.LineOver by is = absurd by
  reported ended.InputOver by is = absurd by
  reported ended.RequestsOver by is = absurd by
  reported ended.ConfigOver by is = absurd by
  reported (ended.NotOpened error) by is = not_opened error by is
  reported (ended.NotMade error) by is = absurd by
  reported ended.ReadFault by is = absurd by
  reported ended.WriteFault by is =
      record {
        causes = caused entry exit status on all_on 6 is (λ e. absurd (omega (arith, e))) (λ e. absurd (omega (arith, e))) (λ e. rose_earlier written written mid written' (omega arith) by later);
        known = inr (inr (inl is));
      }
  reported ended.Memory by is = short is

  pub report_causes : (e : Ended) → EndsReportBy store written store' mid e → (status ≡ ended_status e) ⊎ (status ≡ 11) → ReportCauses (faults_of store read written) (faults_of store' read written') status
  report_causes e by (inl is) = reported e by is
  report_causes e by (inr is) = short is
