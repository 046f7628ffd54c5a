-- When all files are fetched.
use Rattle.std.proofs.Common.{◌≡◌, ℕ, zero, suc, ◌≤◌, List, [], ◌∷◌, drop, length, refl, ap, ◌∙◌, arith, None}
use Rattle.std.proofs.lemmas.List.{length-map}
use Rattle.std.specs.Prelude.{slice_get}
use Rattle.meta_store.specs.Planning.{worked_row}
use Rattle.meta_store.specs.declared.planning.PlanRow.{PlanRow}
use Rattle.split_states.specs.declared.rows.Row.{Row}
use Rattle.upkeep_run.specs.Places.{Work}
use Rattle.upkeep_run.specs.Standing.{WorkStands}
use Rattle.upkeep_run.specs.declared.work.Work.{Work as HeldWork}

pub none_at : (rows : List PlanRow) (n : ℕ) → length rows ≤ n → slice_get rows n ≡ None
none_at [] n le = refl
none_at (row ∷ rows) zero le = absurd (omega (arith, le))
none_at (row ∷ rows) (suc n) le = none_at rows n (omega (arith, le))

drop_past : (rows : List Row) (n : ℕ) → length rows ≤ n → drop n rows ≡ []
drop_past [] zero le = refl
drop_past [] (suc n) le = refl
drop_past (row ∷ rows) zero le = absurd (omega (arith, le))
drop_past (row ∷ rows) (suc n) le = drop_past rows n (omega (arith, le))

pub all_done : (held : HeldWork) (work : Work) → WorkStands held work → length held.plan.rows ≤ held.next → work.unfetched ≡ []
all_done held work ws le =
    let many = ap (λ (l : List PlanRow). length l) ws.rows ∙ length-map work.rows worked_row in
    ws.unfetched ∙ drop_past work.rows held.next (omega (arith, le, many))
