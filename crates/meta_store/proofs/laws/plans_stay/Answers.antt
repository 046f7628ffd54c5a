use Rattle.std.specs.Prelude.{◌≡◌, false}
use Rattle.split_states.specs.declared.rows.RowState.TheVariants.{Staged}
use Rattle.meta_store.specs.History.{history}
use Rattle.meta_store.specs.Numbers.{is_shown, IsPlaced}
use Rattle.meta_store.specs.Rows.{rows}
use Rattle.meta_store.proofs.Apart.{joined_apart, HasMarks-more, covered-more}
use Rattle.meta_store.proofs.RowLists.{AllOf-weaker}
use Rattle.meta_store.proofs.Within.{placed}
use Rattle.meta_store.proofs.laws.plans_stay.Goals as goal

pub returns-clause-apart : goal.returns-clause-apart
returns-clause-apart c reads entries old legal twice shown = joined_apart reads (history entries) old legal twice shown

pub returns-clause-marks : goal.returns-clause-marks
returns-clause-marks c reads entries entry number marks legal allowed k =
    HasMarks-more reads entries entry number marks legal allowed
    (AllOf-weaker (IsPlaced reads (history entries)) (λ x. x.state ≡ Staged → is_shown (history entries) x.number ≡ false) (rows (history entries)) (λ x p. p.fresh) (placed reads (history entries) legal)) k

pub returns-clause-covered : goal.returns-clause-covered
returns-clause-covered c reads entries entry matches k upto allowed le = covered-more reads entries entry matches k upto allowed le
