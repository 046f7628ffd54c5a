-- What the calls of a collector's step say: why one of them fails, and that each was recorded.
use Rattle.std.proofs.Common.{◌≡◌, ◌⊎◌, inl, inr, ℕ, ◌==◌, Bool, true, false, List, [], ◌∷◌, length, sym, ap, ◌∙◌, subst, arith}
use Rattle.std.specs.List.{AllByRecursion}
use Rattle.std.specs.Prelude.{IsSome, Option, Some, None, Result, Ok, Err, ⊤, if◌then◌else◌}
use Rattle.meta_journal.specs.Places.{split_key}
use Rattle.meta_journal.specs.declared.entry.Act.{Act}
use Rattle.meta_journal.specs.declared.entry.Act.TheVariants.{MarkStaged, Remove}
use Rattle.meta_store.specs.History.{history}
use Rattle.meta_store.specs.Rows.{rows}
use Rattle.meta_store.specs.declared.refusal.Refusal.{Refusal}
use Rattle.split_states.specs.Due.{stale_rows}
use Rattle.split_states.specs.declared.rows.Row.{Row}
use Rattle.index_world.specs.Calls.{Call, Fate, Gives, Trouble, faulted, no_memory, Unmade, refused, troubled, answer_behind, asked_clock, asking, begun, deleted_by, entry_of, file_deleted, is_at_once, may_fail, troubled_by}
use Rattle.index_world.specs.CallsMade.{Ask, CallMade, IsRecorded, made_of}
use Rattle.index_world.specs.Collecting.{Offer, answered_by, config_taken, doom_call, doom_next, doomed_by, doomed_rows, is_swept, list_call, mark_stale_call, marks_offer, next_doomed, removal_of, removal_offer, remove_call, stale_offer, sweep_call, sweep_if, swept_unless}
use Rattle.index_world.specs.Core.{Core}
use Rattle.split_collector.specs.Outcomes.{Outcome, MarkedStale, Doomed, Removed, Swept, Nothing, Refused, Faulted}
use Rattle.split_collector.specs.Steps.{ArePassed, AreRecorded, CallLuck, Passage, Stand, ask_at, called, failed_with, least_left, outcomes, page_by, ran, stand, turned}
use Rattle.split_collector.specs.Turns.{Turn, behind_delete, behind_doom, behind_list, behind_mark, behind_remove, ended, next_behind, page_turn, to_doom, to_list, to_mark, to_remove, to_sweep}
use Rattle.call_laws.proofs.CallTells.{IfErr, IsLowCore, IsStoreTrouble, got_file_own, or_short_own}
use Rattle.thread_run.specs.Meanwhile.{IsCalled}
use Rattle.thread_run.proofs.Lists.{all_back, all_front}
use Rattle.thread_run.proofs.Low.{appended_if_low, doom_low, list_low, sweep_low}
use Rattle.thread_run.proofs.OfferSteps.{FullAt, Offers, Unoffers, appended_offers, full_of_store}

-- ---- what fails

-- an entry of its own was refused by what was taken in
abbrev pub IsUnmade : Core → Refusal → Type 0
IsUnmade core refusal = (numbers : List ℕ) × (act : Act) × ((act ≡ MarkStaged numbers) ⊎ (act ≡ Remove numbers)) × (answer_behind core.history (entry_of act core) ≡ Err refusal)

abbrev pub Says : Core → Option Outcome → Type 0
Says core None = ⊤
Says core (Some (MarkedStale count)) = ⊤
Says core (Some (Doomed number)) = ⊤
Says core (Some (Removed count)) = ⊤
Says core (Some (Swept number)) = ⊤
Says core (Some Nothing) = ⊤
Says core (Some (Refused refusal)) = IsUnmade core refusal
Says core (Some (Faulted fault)) = FullAt core (faulted fault)

abbrev pub TurnSays : Core → Turn (Option Outcome) → Type 0
TurnSays core to_mark = ⊤
TurnSays core to_doom = ⊤
TurnSays core to_remove = ⊤
TurnSays core (to_list behind) = ⊤
TurnSays core (to_sweep number next) = ⊤
TurnSays core (ended outcome) = Says core outcome

abbrev pub Troubles : Core → Unmade → Type 0
Troubles core (refused refusal) = IsUnmade core refusal
Troubles core (troubled trouble) = FullAt core trouble

failed_says : (core : Core) (unmade : Unmade) → Troubles core unmade → Says core (failed_with unmade)
failed_says core (refused refusal) t = t
failed_says core (troubled (faulted fault)) t = t
failed_says core (troubled no_memory) t = tt

pub record IsCall (left : Stand) : Type 0 where
  pub says : TurnSays left.core left.turn
  pub low : IsLowCore left.core

-- ---- its own entries

pub marked_own : (numbers : List ℕ) (offer : Offer ℕ) → marks_offer numbers ≡ Some offer → (offer.act ≡ MarkStaged numbers) × (offer.answer ≡ length numbers) × (0 ≡ length numbers → ⊥)
marked_own [] offer e = absurd cc
marked_own (n ∷ numbers) offer e =
    let same : record { act = MarkStaged (n ∷ numbers); answer = length (n ∷ numbers) } ≡ offer = cc in
    (sym (ap (λ (o : Offer ℕ). o.act) same), sym (ap (λ (o : Offer ℕ). o.answer) same), λ none. omega (arith, none))

pub removed_own : (numbers : List ℕ) (offer : Offer ℕ) → removal_of numbers ≡ Some offer → (offer.act ≡ Remove numbers) × (offer.answer ≡ length numbers) × (0 ≡ length numbers → ⊥)
removed_own [] offer e = absurd cc
removed_own (n ∷ numbers) offer e =
    let same : record { act = Remove (n ∷ numbers); answer = length (n ∷ numbers) } ≡ offer = cc in
    (sym (ap (λ (o : Offer ℕ). o.act) same), sym (ap (λ (o : Offer ℕ). o.answer) same), λ none. omega (arith, none))

abbrev stale_in : Core → List ℕ
stale_in core = stale_rows core.moment (config_taken core).staged_grace (rows (history core.history))

abbrev doomed_in : Core → List ℕ
doomed_in core = doomed_rows core.doomed (rows (history core.history))

pub stale_never : (core : Core) (offer : Offer ℕ) → stale_offer core ≡ Some offer → offer.answer ≡ 0 → ⊥
stale_never core offer e zero_is = let own = marked_own (stale_in core) offer e in own.2 (sym zero_is ∙ own.1)

pub removal_never : (core : Core) (offer : Offer ℕ) → removal_offer core ≡ Some offer → offer.answer ≡ 0 → ⊥
removal_never core offer e zero_is = let own = removed_own (doomed_in core) offer e in own.2 (sym zero_is ∙ own.1)

stale_unmade : (core : Core) (unmade : Unmade) → Unoffers {B = ℕ} {A = ℕ} stale_offer core (Err unmade) → Troubles core unmade
stale_unmade core (refused refusal) u = let own = marked_own (stale_in core) u.0 u.1 in (stale_in core, u.0.act, inl own.0, u.2)
stale_unmade core (troubled trouble) u = u

removal_unmade : (core : Core) (unmade : Unmade) → Unoffers {B = ℕ} {A = ℕ} removal_offer core (Err unmade) → Troubles core unmade
removal_unmade core (refused refusal) u = let own = removed_own (doomed_in core) u.0 u.1 in (doomed_in core, u.0.act, inr own.0, u.2)
removal_unmade core (troubled trouble) u = u

choice_says : (b : Bool) (core : Core) (x y : Turn (Option Outcome)) → TurnSays core x → TurnSays core y → TurnSays core (if b then x else y)
choice_says true core x y p q = p
choice_says false core x y p q = q

marks_says : (answer : Result ℕ Unmade) (core : Core) → Unoffers stale_offer core answer → TurnSays core (behind_mark outcomes answer)
marks_says (Ok count) core u = choice_says (count == 0) core to_doom (ended (Some (MarkedStale count))) tt tt
marks_says (Err unmade) core u = failed_says core unmade (stale_unmade core unmade u)

removes_says : (answer : Result ℕ Unmade) (core : Core) → Unoffers removal_offer core answer → TurnSays core (behind_remove outcomes answer)
removes_says (Ok count) core u = choice_says (count == 0) core (to_list None) (ended (Some (Removed count))) tt tt
removes_says (Err unmade) core u = failed_says core unmade (removal_unmade core unmade u)

-- ---- the others fail by the store alone

abbrev OfStore : {A : Type 0} → Gives Trouble A → Type 0
OfStore given = IfErr IsStoreTrouble given.answer

deleted_of_store : (fails at_once : Bool) (before : ℕ) (key : List ℕ) (core : Core) → OfStore (deleted_by fails at_once before key core)
deleted_of_store true true before key core = tt
deleted_of_store true false before key core = tt
deleted_of_store false at_once before key core = tt

file_deleted_of_store : (call : Call) (key : List ℕ) (core : Core) → OfStore (file_deleted call key core)
file_deleted_of_store call key core = deleted_of_store (may_fail call core.store_faults) (is_at_once call.effect) core.store_faults key (begun call core)

doomed_of_store : (number : ℕ) (r : Result ⊤ Trouble) (core : Core) → IfErr IsStoreTrouble r → OfStore (doomed_by number r core)
doomed_of_store number (Ok done) core h = tt
doomed_of_store number (Err trouble) core h = h

doom_next_of_store : (row : Option Row) (call : Call) (core : Core) → OfStore (doom_next row call core)
doom_next_of_store None call core = tt
doom_next_of_store (Some row) call core =
    let given = file_deleted call (split_key row.number) core in doomed_of_store row.number given.answer given.core (file_deleted_of_store call (split_key row.number) core)

doom_of_store : (fate : Fate) (core : Core) → OfStore (doom_call fate core)
doom_of_store fate core = by fate.unasked
  where
    by : (unasked : Bool) → OfStore (asking unasked no_memory core (λ c. doom_next (next_doomed c) fate.first c))
    by true = tt
    by false = doom_next_of_store (next_doomed (asked_clock core)) fate.first (asked_clock core)

swept_of_store : (r : Result ⊤ Trouble) (core : Core) → IfErr IsStoreTrouble r → OfStore (answered_by true r core)
swept_of_store (Ok done) core h = tt
swept_of_store (Err trouble) core h = h

sweep_if_of_store : (swept : Bool) (call : Call) (number : ℕ) (core : Core) → OfStore (sweep_if swept call number core)
sweep_if_of_store false call number core = tt
sweep_if_of_store true call number core =
    let given = file_deleted call (split_key number) core in swept_of_store given.answer given.core (file_deleted_of_store call (split_key number) core)

sweep_of_store : (unasked : Bool) (number : ℕ) (fate : Fate) (core : Core) → OfStore (swept_unless unasked number fate core)
sweep_of_store true number fate core = tt
sweep_of_store false number fate core = sweep_if_of_store (is_swept core number) fate.first number core

list_of_store : (fate : Fate) (core : Core) → OfStore (list_call fate core)
list_of_store fate core = or_short_own fate.first.short fate.first core _ (got_file_own (may_fail fate.first core.store_faults) core.store_faults (begun fate.first core))

dooms_says : (answer : Result (Option ℕ) Trouble) (core : Core) → IfErr IsStoreTrouble answer → IsLowCore core → IsCall (called (behind_doom outcomes) (troubled_by answer core))
dooms_says (Ok None) core own low = record { says = tt; low = low }
dooms_says (Ok (Some number)) core own low = record { says = tt; low = low }
dooms_says (Err trouble) core own low = record { says = failed_says core (troubled trouble) (full_of_store core trouble own); low = low }

sweep_says : (number : ℕ) (next : Option (List ℕ)) (answer : Result Bool Trouble) (core : Core) → IfErr IsStoreTrouble answer → IsLowCore core → IsCall (called (behind_delete outcomes number next) (troubled_by answer core))
sweep_says number next (Ok true) core own low = record { says = tt; low = low }
sweep_says number None (Ok false) core own low = record { says = tt; low = low }
sweep_says number (Some key) (Ok false) core own low = record { says = tt; low = low }
sweep_says number next (Err trouble) core own low = record { says = failed_says core (troubled trouble) (full_of_store core trouble own); low = low }

page_says : (least : Option ℕ) (next : Option (List ℕ)) (core : Core) → TurnSays core (page_turn outcomes least next)
page_says None None core = tt
page_says None (Some key) core = tt
page_says (Some number) next core = tt

pages_say : (behind next : Option (List ℕ)) (answer : Result ⊤ Trouble) (core : Core) → IfErr IsStoreTrouble answer → IsLowCore core →
    let given = troubled_by answer core in IsCall (stand (behind_list outcomes (page_by behind next given.core given.answer)) given.core)
pages_say behind next (Ok done) core own low = record { says = page_says (least_left behind next core) next core; low = low }
pages_say behind next (Err trouble) core own low = record { says = failed_says core (troubled trouble) (full_of_store core trouble own); low = low }

-- ---- any call

pub marks_call : (fate : Fate) (core : Core) → IsLowCore core → Offers 0 stale_offer stale_never (mark_stale_call fate core)
marks_call fate core low = appended_offers 0 stale_offer stale_never fate core low

pub removes_call : (fate : Fate) (core : Core) → IsLowCore core → Offers 0 removal_offer removal_never (remove_call fate core)
removes_call fate core low = appended_offers 0 removal_offer removal_never fate core low

pub turned_is : (turn : Turn (Option Outcome)) (luck : CallLuck) (core : Core) → TurnSays core turn → IsLowCore core → IsCall (turned turn luck core)
turned_is to_mark luck core says low =
    let given = mark_stale_call luck.fate core in
    record { says = marks_says given.answer given.core (marks_call luck.fate core low).says; low = appended_if_low 0 stale_offer luck.fate core low }
turned_is to_doom luck core says low = let given = doom_call luck.fate core in dooms_says given.answer given.core (doom_of_store luck.fate core) (doom_low luck.fate core low)
turned_is to_remove luck core says low =
    let given = remove_call luck.fate core in
    record { says = removes_says given.answer given.core (removes_call luck.fate core low).says; low = appended_if_low 0 removal_offer luck.fate core low }
turned_is (to_list behind) luck core says low =
    let given = list_call luck.fate core in pages_say behind (next_behind behind luck.end) given.answer given.core (list_of_store luck.fate core) (list_low luck.fate core low)
turned_is (to_sweep number next) luck core says low =
    let given = sweep_call number luck.fate core in sweep_says number next given.answer given.core (sweep_of_store luck.fate.unasked number luck.fate core) (sweep_low number luck.fate core low)
turned_is (ended outcome) luck core says low = record { says = says; low = low }

-- ---- a step

none_asked : (outcome : Option Outcome) → IsSome (ask_at (ended outcome)) → ⊥
none_asked outcome asks = cc

-- a turn at which there is a call is no end
moved : (core : Core) (turn : Turn (Option Outcome)) → IsSome (ask_at turn) → TurnSays core turn
moved core to_mark asks = tt
moved core to_doom asks = tt
moved core to_remove asks = tt
moved core (to_list behind) asks = tt
moved core (to_sweep number next) asks = tt
moved core (ended outcome) asks = absurd (none_asked outcome asks)

module _ (Between : Core → Core → Type 0) (keeps_low : (core mid : Core) → Between core mid → IsLowCore core → IsLowCore mid) (first exit : Core) where
  abbrev IsMetCore : Core → Type 0
  IsMetCore core = (ask : Ask) × IsCalled first exit (made_of ask core)

  -- each call began where late entries lie low, and was recorded, unless it found no memory
  abbrev pub Mets : Turn (Option Outcome) → List Passage → Type 0
  Mets turn [] = ⊤
  Mets turn (passage ∷ more) =
      let left = turned turn passage.luck passage.core in
      IsLowCore passage.core × ((left.turn ≡ ended None) ⊎ IsMetCore left.core) × Mets left.turn more

  met_so : (ask : Ask) (mid : Core) (left : Stand) (made : List CallMade) → IsRecorded ask mid left.core (left.turn ≡ ended None) made → AllByRecursion (IsCalled first exit) made → (left.turn ≡ ended None) ⊎ IsMetCore left.core
  met_so ask mid left made (inl once) all = inr (ask, (subst (AllByRecursion (IsCalled first exit)) once all).0)
  met_so ask mid left made (inr none) all = inl none.2

  pub all_met : (turn : Turn (Option Outcome)) (core : Core) (passages : List Passage) (made : List CallMade) → ArePassed Between turn core passages → AreRecorded turn passages made → AllByRecursion (IsCalled first exit) made →
      TurnSays core turn → IsLowCore core → Mets turn passages
  all_met turn core [] made passed recorded all says low = tt
  all_met turn core (passage ∷ more) made passed (ask, own, rest, asked, are, once, others) all says low =
      let left = turned turn passage.luck passage.core in
      let here = keeps_low core passage.core passed.1 low in
      let both = subst (AllByRecursion (IsCalled first exit)) are all in
      let call = turned_is turn passage.luck passage.core (moved passage.core turn passed.0) here in
      (here, met_so ask passage.core left own once (all_front (IsCalled first exit) own rest both), all_met left.turn left.core more rest passed.3 others (all_back (IsCalled first exit) own rest both) call.says call.low)

  -- WHERE A STEP ENDS
  pub ran_says : (turn : Turn (Option Outcome)) (core : Core) (passages : List Passage) → ArePassed Between turn core passages → TurnSays core turn → IsLowCore core → IsCall (ran turn core passages)
  ran_says turn core [] passed says low = record { says = says; low = low }
  ran_says turn core (passage ∷ more) passed says low =
      let left = turned turn passage.luck passage.core in
      let call = turned_is turn passage.luck passage.core (moved passage.core turn passed.0) (keeps_low core passage.core passed.1 low) in
      ran_says left.turn left.core more passed.3 call.says call.low
