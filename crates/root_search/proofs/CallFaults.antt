-- What a plan's call and a fetch fail by.
use Rattle.std.proofs.Common.{◌≡◌, ℕ, ◌≤◌, Bool, true, false, List, [], ◌∷◌, refl, arith}
use Rattle.std.proofs.lemmas.Bool.{leb-true}
use Rattle.std.specs.Prelude.{Result, Ok, Err, ⊤, nat_le}
use Rattle.byte_fields.specs.Causes.{Rose}
use Rattle.index_world.specs.Calls.{Call, Fate, store_fault, is_foreign, is_full, is_expired, Grace, Gives, Trouble, faulted, no_memory, asked_and_looked, asked_clock, asking, begun, fetched, file_got, got_file, may_fail, or_short, unless_over}
use Rattle.index_world.specs.Core.{Core, Nobody}
use Rattle.index_world.specs.World.{GoesFor}
use Rattle.index_world.proofs.CallCauses.{AnswerWithin, TroubleWithin, asked_and_looked_caused, fetched_caused}
use Rattle.index_world.proofs.Ran.{Past}
use Rattle.root_search.specs.Steps.{ArePassed, Passage, fetched_at, unless_fault}
use Rattle.root_search.proofs.Entered.{IsSettling, looked_settles}

past_on : (a b c : ℕ) → Past a b → Past b c → Past a c
past_on a b c p q = omega (arith, p, q)

-- ---- a plan

-- the store failed, and its count rose between these
abbrev pub PlanFails : ℕ → Trouble → ℕ → Type 0
PlanFails low (faulted (store_fault before now)) high = Past low before × Rose before now × (now ≤ high)
PlanFails low (faulted (is_foreign key)) high = ⊥
PlanFails low (faulted is_full) high = ⊥
PlanFails low (faulted (is_expired planned_at now)) high = ⊥
PlanFails low no_memory high = ⊤

abbrev pub IfFails : (Trouble → Type 0) → Result ⊤ Trouble → Type 0
IfFails Fails (Ok done) = ⊤
IfFails Fails (Err trouble) = Fails trouble

plan_by : (r : Result ⊤ Trouble) (low high : ℕ) → AnswerWithin TroubleWithin low r high → IsSettling r → IfFails (λ trouble. PlanFails low trouble high) r
plan_by (Ok done) low high w s = tt
plan_by (Err (faulted (store_fault before now))) low high w s = w
plan_by (Err (faulted (is_foreign key))) low high w s = s
plan_by (Err (faulted is_full)) low high w s = s
plan_by (Err (faulted (is_expired planned_at now))) low high w s = s
plan_by (Err no_memory) low high w s = tt

-- what its call was answered
pub looked_fails : (fate : Fate) (core : Core) → IfFails (λ trouble. PlanFails core.store_faults trouble (asked_and_looked fate core).core.store_faults) (asked_and_looked fate core).answer
looked_fails fate core =
    let given = asked_and_looked fate core in
    plan_by given.answer core.store_faults given.core.store_faults (asked_and_looked_caused fate core).says (looked_settles fate core)

-- ---- fetches

-- it came too late, as the core tells that it left
abbrev IsLate : Grace → Result ⊤ Trouble → Core → Type 0
IsLate grace (Ok done) core = ⊤
IsLate grace (Err (faulted (store_fault before now))) core = ⊤
IsLate grace (Err (faulted (is_foreign key))) core = ⊥
IsLate grace (Err (faulted is_full)) core = ⊥
IsLate grace (Err (faulted (is_expired planned_at now))) core = (planned_at ≡ grace.planned_at) × (grace.until ≤ now) × (now ≡ core.moment)
IsLate grace (Err no_memory) core = ⊤

got_late : (grace : Grace) (fails : Bool) (before : ℕ) (core : Core) → IsLate grace (got_file fails before core).answer (got_file fails before core).core
got_late grace true before core = tt
got_late grace false before core = tt

short_late : (grace : Grace) (short : Bool) (call : Call) (core : Core) (given : Gives Trouble ⊤) → IsLate grace given.answer given.core → IsLate grace (or_short short no_memory call core given).answer (or_short short no_memory call core given).core
short_late grace true call core given h = tt
short_late grace false call core given h = h

over_late : (grace : Grace) (over : Bool) (core : Core) (given : Gives Trouble ⊤) → nat_le grace.until core.moment ≡ over → IsLate grace given.answer given.core →
    IsLate grace (unless_over over grace.planned_at core given).answer (unless_over over grace.planned_at core given).core
over_late grace true core given e h = (refl, leb-true grace.until core.moment e, refl)
over_late grace false core given e h = h

asked_late : (grace : Grace) (unasked : Bool) (fate : Fate) (core : Core) → let given = asking unasked no_memory core (λ c. unless_over (nat_le grace.until c.moment) grace.planned_at c (file_got fate.first c)) in IsLate grace given.answer given.core
asked_late grace true fate core = tt
asked_late grace false fate core =
    let c = asked_clock core in
    over_late grace (nat_le grace.until c.moment) c (file_got fate.first c) refl
    (short_late grace fate.first.short fate.first c (got_file (may_fail fate.first c.store_faults) c.store_faults (begun fate.first c)) (got_late grace (may_fail fate.first c.store_faults) c.store_faults (begun fate.first c)))

fetched_late : (grace : Grace) (fate : Fate) (core : Core) → IsLate grace (fetched grace fate core).answer (fetched grace fate core).core
fetched_late grace fate core = asked_late grace fate.unasked fate core

-- the store failed, or it came too late
abbrev pub FetchFails : Grace → ℕ → Trouble → Core → Type 0
FetchFails grace low (faulted (store_fault before now)) after = Past low before × Rose before now × (now ≤ after.store_faults)
FetchFails grace low (faulted (is_foreign key)) after = ⊥
FetchFails grace low (faulted is_full) after = ⊥
FetchFails grace low (faulted (is_expired planned_at now)) after = (planned_at ≡ grace.planned_at) × (grace.until ≤ now) × (now ≡ after.moment)
FetchFails grace low no_memory after = ⊤

abbrev pub Fetches : Grace → ℕ → Gives Trouble ⊤ → Type 0
Fetches grace low given = IfFails (λ trouble. FetchFails grace low trouble given.core) given.answer

fetch_by : (r : Result ⊤ Trouble) (grace : Grace) (low count : ℕ) (after : Core) → Past low count → AnswerWithin TroubleWithin count r after.store_faults → IsLate grace r after → IfFails (λ trouble. FetchFails grace low trouble after) r
fetch_by (Ok done) grace low count after past w late = tt
fetch_by (Err (faulted (store_fault before now))) grace low count after past w late = (past_on low count before past w.0, w.1, w.2)
fetch_by (Err (faulted (is_foreign key))) grace low count after past w late = late
fetch_by (Err (faulted is_full)) grace low count after past w late = late
fetch_by (Err (faulted (is_expired planned_at now))) grace low count after past w late = late
fetch_by (Err no_memory) grace low count after past w late = tt

module _ (Between : Core → Core → Type 0) (goes : (one other : Core) → Between one other → GoesFor Nobody one other) (grace : Grace) (low : ℕ) where
  unless_by : (r : Result ⊤ Trouble) (left : Core) (next : Core → Gives Trouble ⊤) → IfFails (λ trouble. FetchFails grace low trouble left) r → Fetches grace low (next left) → Fetches grace low (unless_fault r left next)
  unless_by (Ok done) left next h more = more
  unless_by (Err trouble) left next h more = h

  -- what one of several fetches was answered, behind what others did before each
  pub each_fails : (core : Core) (passages : List Passage) → Past low core.store_faults → ArePassed grace Between core passages → Fetches grace low (fetched_at grace core passages)
  each_fails core [] past passed = tt
  each_fails core (passage ∷ more) past passed =
      let given = fetched grace passage.fate passage.core in
      let caused = fetched_caused grace passage.fate passage.core in
      let up = (goes core passage.core passed.0).faults in
      let found : Past low passage.core.store_faults = omega (arith, past, up) in
      unless_by given.answer given.core (λ left. fetched_at grace left more) (fetch_by given.answer grace low passage.core.store_faults given.core found caused.says (fetched_late grace passage.fate passage.core))
      (each_fails given.core more (past_on low passage.core.store_faults given.core.store_faults found caused.past) passed.1)
