use Rattle.std.proofs.Common.{◌≡◌, ◌∙◌, ℕ, List, sym, ap, subst, true, false, Ok}
use Rattle.meta_journal.specs.Places.{split_key}
use Rattle.index_world.specs.declared.world_error.WorldError.TheVariants as errors
use Rattle.meta_store.specs.declared.planning.PlanRow.{PlanRow}
use Rattle.upkeep_run.specs.Ending.{Told}
use Rattle.upkeep_run.specs.Judging.{IsJudged}
use Rattle.upkeep_run.specs.declared.outcome.UpkeepOutcome.{UpkeepOutcome as Said}
use Rattle.upkeep_run.specs.declared.outcome.UpkeepOutcome.TheVariants as said
use Rattle.upkeep_run.specs.declared.work.WorkerPlace.TheVariants as places
use Rattle.upkeep_run.specs.Corrupting.{HasOthers, IsOfOthers}
use Rattle.upkeep_run.proofs.Corrupted.{refused_file, same_key, short_never, taken_file, told_fetched}
use Rattle.upkeep_run.proofs.Judged.{both_true, not_both, same_row}
use Rattle.upkeep_run.proofs.work.taken.Goals as goal

abbrev said_corrupt : List ℕ → Told
said_corrupt key = Ok (said.Fault (errors.Corrupt key))

pub returns-then-not-is_file_of-clause-ends : goal.returns-then-not-is_file_of-clause-ends
returns-then-not-is_file_of-clause-ends c = λ (row : PlanRow) there.
    let same = same_row _ c.at-row.result.now row c.at-row.ensures there in (
      false,
      subst (λ (r : PlanRow). IsJudged c.args.bytes r false) same
          (subst (λ (bs : List ℕ). IsJudged bs c.at-row.result.now false) c.as_slice.ensures
          (subst (λ b. IsJudged c.as_slice.result.now c.at-row.result.now b) c.if-not-is_file_of.true c.is_file_of.ensures.judged)),
      (ap (λ (r : PlanRow). said_corrupt (split_key r.number)) (sym same) ∙ ap said_corrupt (sym c.split_key.ensures) ∙ ap (λ (o : Said). Ok o) (sym c.corrupt.ensures), c.requires.place),
    )

pub returns-then-not-is_file_of-clause-takes : goal.returns-then-not-is_file_of-clause-takes
returns-then-not-is_file_of-clause-takes c = λ (row : PlanRow) known s documents there work_is split docs weight.
    let same = same_row _ c.at-row.result.now row c.at-row.ensures there in
    let is = c.is_file_of.ensures.only s documents split.parts known split.is_split (c.as_slice.ensures ∙ split.bytes_are) (ap (λ (r : PlanRow). r.work) same ∙ work_is) in
    absurd (not_both c.is_file_of.result (is ∙ both_true _ _ _ _ docs weight) c.if-not-is_file_of.true)

pub returns-clause-ends : goal.returns-clause-ends
returns-clause-ends c = λ (row : PlanRow) there.
    let same = same_row _ c.at-row.result.now row c.at-row.ensures there in (
      true,
      subst (λ (r : PlanRow). IsJudged c.args.bytes r true) same
          (subst (λ (bs : List ℕ). IsJudged bs c.at-row.result.now true) c.as_slice.ensures
          (subst (λ b. IsJudged c.as_slice.result.now c.at-row.result.now b) c.if-not-is_file_of.false c.is_file_of.ensures.judged)),
      (ap (λ (r : PlanRow). said.Fetched r.number) same, c.put.ensures ∙ ap places.Fetching c.in_ok-work.ensures),
    )

pub returns-then-not-is_file_of-clause-corrupt : goal.returns-then-not-is_file_of-clause-corrupt
returns-then-not-is_file_of-clause-corrupt c = λ (row : PlanRow) there.
    let same = same_row _ c.at-row.result.now row c.at-row.ensures there in
    let bytes = c.as_slice.ensures in
    let told : Ok c.corrupt.result ≡ said_corrupt (split_key row.number) =
    ap (λ (o : Said). Ok o) c.corrupt.ensures ∙ ap said_corrupt c.split_key.ensures ∙ ap (λ (r : PlanRow). said_corrupt (split_key r.number)) same in
    record {
      only = λ key e. (
        same_key (split_key row.number) key (sym told ∙ e),
        subst (λ (r : PlanRow). IsOfOthers c.args.bytes r) same
            (refused_file c.args.bytes c.at-row.result.now c.is_file_of.result (λ s documents p known is whole work. c.is_file_of.ensures.only s documents p known is (bytes ∙ whole) work) c.if-not-is_file_of.true),
      );
      others = λ others. told;
    }

pub returns-in_err-work-clause-corrupt : goal.returns-in_err-work-clause-corrupt
returns-in_err-work-clause-corrupt c = λ (row : PlanRow) there.
    let same = same_row _ c.at-row.result.now row c.at-row.ensures there in
    let bytes = c.as_slice.ensures in
    record {
      only = λ key e. absurd (short_never c.from_residual.result key c.from_residual.ensures.0 e);
      others = λ others. absurd (taken_file c.args.bytes c.at-row.result.now c.is_file_of.result (λ s documents p known is whole work. c.is_file_of.ensures.only s documents p known is (bytes ∙ whole) work)
          (subst (λ (bs : List ℕ). IsJudged bs c.at-row.result.now c.is_file_of.result) bytes c.is_file_of.ensures.judged) c.if-not-is_file_of.false (subst (HasOthers c.args.bytes) (sym same) others));
    }

pub returns-clause-corrupt : goal.returns-clause-corrupt
returns-clause-corrupt c = λ (row : PlanRow) there.
    let same = same_row _ c.at-row.result.now row c.at-row.ensures there in
    let bytes = c.as_slice.ensures in
    record {
      only = λ key e. absurd (told_fetched c.at-row.result.now.number key e);
      others = λ others. absurd (taken_file c.args.bytes c.at-row.result.now c.is_file_of.result (λ s documents p known is whole work. c.is_file_of.ensures.only s documents p known is (bytes ∙ whole) work)
          (subst (λ (bs : List ℕ). IsJudged bs c.at-row.result.now c.is_file_of.result) bytes c.is_file_of.ensures.judged) c.if-not-is_file_of.false (subst (HasOthers c.args.bytes) (sym same) others));
    }
