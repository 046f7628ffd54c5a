-- What a step of the collector tells over a sound index: no key is foreign, and no entry of its own is refused.
use Rattle.std.proofs.Common.{◌≡◌, ℕ, zero, suc, Bool, true, false, List, ◌∷◌, refl, sym, subst}
use Rattle.std.specs.Prelude.{Option, Some, None, Result, Ok, Err, ⊤, ◌==◌, if◌then◌else◌}
use Rattle.meta_journal.specs.Places.{split_key}
use Rattle.meta_journal.specs.declared.entry.Entry.{Entry}
use Rattle.meta_store.specs.declared.refusal.Refusal.{Refusal}
use Rattle.split_states.specs.declared.rows.Row.{Row}
use Rattle.index_world.specs.Calls.{Call, is_at_once, Fate, Gives, Made, made, exists, failed, Trouble, faulted, no_memory, store_fault, is_foreign, is_full, is_expired, Unmade, refused, troubled, and_then, asked_clock, asking, begun, create_at_end, deleted_by, entry_of, file_deleted, file_got, get_at_end, last_create, may_append, may_fail, or_short, settle_with, settled, troubled_by}
use Rattle.index_world.specs.Calls as calls
use Rattle.index_world.specs.Collecting.{Offer, adopted_offer, answered_by, appended_if, doom_call, doom_next, doomed_by, first_offer, is_swept, last_offer, list_call, mark_stale_call, next_doomed, nothing, offer_unless, remove_call, removal_offer, stale_offer, sweep_call, sweep_if, swept_unless, transact_if}
use Rattle.index_world.specs.Core.{Core}
use Rattle.split_collector.specs.Outcomes.{Outcome}
use Rattle.split_collector.specs.Steps.{CallLuck, CollectorLuck, alone, end_at, ends_behind, failed_with, first_fate, least_left, max_calls, other_fates, outcome_at, outcome_unless, outcomes, page_by, step_collector, turned}
use Rattle.split_collector.specs.Turns.{Turn, behind_delete, behind_doom, behind_list, counted, ended, next_behind, page_turn, paging, to_doom, to_list, to_mark, to_remove, to_sweep}
use Rattle.node_run.specs.Telling.{CollectorMayTell}
use Rattle.call_laws.proofs.CallTells.{Gave, IfErr, IsLowCore, IsOwnTrouble, IsSettled, IsStoreTrouble, Keeps, MadeLow, Settles, create_low, get_settles, last_keeps, or_short_own, got_file_own, settled_low, settles, store_not_foreign, taken_low}
use Rattle.node_run.proofs.OwnEntries.{IsLawful, IsNoRefusal, doom_lawfully, list_lawfully, mark_stale_fair, remove_fair, sweep_lawfully}

-- ---- an entry where the state offers one

nothing_keeps : {B : Type 0} (short : Bool) (none : B) (core : Core) → IsLowCore core → Keeps (nothing short none core)
nothing_keeps true none core low = tt
nothing_keeps false none core low = low

answered_keeps : {A B : Type 0} (b : B) (r : Result A Unmade) (core : Core) → Gave IsOwnTrouble IsLowCore r core → Keeps (answered_by b r core)
answered_keeps b (Ok a) core k = k
answered_keeps b (Err e) core k = k

last_offer_keeps : {B : Type 0} (call : Call) (before : ℕ) (none : B) (offer : Option (Offer B)) (core : Core) → IsSettled core → Keeps (last_offer call before none offer core)
last_offer_keeps call before none None core s = nothing_keeps call.short none core (settled_low core s)
last_offer_keeps call before none (Some offer) core s =
    let given = last_create call before offer.act core in answered_keeps offer.answer given.answer given.core (last_keeps call before offer.act core s)

settled_offer : {B : Type 0} (r : Result ⊤ Trouble) (core : Core) (again : Call) (before : ℕ) (none : B) (offered : Core → Option (Offer B)) → Gave IsStoreTrouble IsSettled r core →
    Keeps (and_then (troubled_by r core) (λ c. last_offer again before none (offered c) c))
settled_offer (Ok done) core again before none offered s = last_offer_keeps again before none (offered core) core s
settled_offer (Err (faulted (store_fault low high))) core again before none offered s = tt
settled_offer (Err (faulted (is_foreign key))) core again before none offered s = absurd s
settled_offer (Err (faulted is_full)) core again before none offered s = absurd s
settled_offer (Err (faulted (is_expired planned_at now))) core again before none offered s = absurd s
settled_offer (Err no_memory) core again before none offered s = tt

module _ {B : Type 0} (none : B) (offered : Core → Option (Offer B)) where
  adopted_offer_keeps : (get again : Call) (before : ℕ) (offer : Offer B) (entry : Entry) (m : Made) (core : Core) → MadeLow m core →
      Keeps (adopted_offer get again before none offered offer entry m core)
  adopted_offer_keeps get again before offer entry made core low = taken_low entry core low
  adopted_offer_keeps get again before offer entry (exists other) core low =
      settled_offer (get_at_end get other before core).answer (get_at_end get other before core).core again before none offered (get_settles get other before core low)
  adopted_offer_keeps get again before offer entry failed core low = tt

  offer_full_keeps : (b : Bool) (first second third : Call) (offer : Offer B) (core : Core) → IsLowCore core → Keeps (offer_unless (calls.full_answer b) first second third none offered offer core)
  offer_full_keeps true first second third offer core low = tt
  offer_full_keeps false first second third offer core low =
      adopted_offer_keeps second third core.store_faults offer (entry_of offer.act core) (create_at_end first (entry_of offer.act core) core).answer
      (create_at_end first (entry_of offer.act core) core).core (create_low first (entry_of offer.act core) core low)

  offer_by_keeps : (r : Result (Unit {0}) Refusal) (first second third : Call) (offer : Offer B) (core : Core) → IsLowCore core →
      Keeps (offer_unless (calls.or_full r core) first second third none offered offer core)
  offer_by_keeps (Err refusal) first second third offer core low = tt
  offer_by_keeps (Ok done) first second third offer core low = offer_full_keeps _ first second third offer core low

  first_offer_keeps : (offer : Option (Offer B)) (first second third : Call) (core : Core) → IsLowCore core → Keeps (first_offer offer first second third none offered core)
  first_offer_keeps None first second third core low = nothing_keeps first.short none core low
  first_offer_keeps (Some offer) first second third core low = by first.short
    where
      by : (b : Bool) → Keeps (or_short b (troubled no_memory) first core (offer_unless (may_append offer.act core) first second third none offered offer core))
      by true = tt
      by false = offer_by_keeps (calls.answer_behind core.history (entry_of offer.act core)) first second third offer core low

  transact_if_keeps : (b : Bool) (first second third : Call) (core : Core) → core.unsure ≡ b → IsLowCore core → Keeps (transact_if b first second third none offered core)
  transact_if_keeps true first second third core unsure low =
      settled_offer (settled first second core).answer (settled first second core).core third core.store_faults none offered
      (subst (λ b. Settles (settle_with b first second core)) (sym unsure) (settles first second core low))
  transact_if_keeps false first second third core unsure low = first_offer_keeps (offered core) first second third core low

  appended_if_keeps : (fate : Fate) (core : Core) → IsLowCore core → Keeps (appended_if fate none offered core)
  appended_if_keeps fate core low = by fate.unasked
    where
      by : (b : Bool) → Keeps (asking b (troubled no_memory) core (λ c. transact_if c.unsure fate.first fate.second fate.third none offered c))
      by true = tt
      by false = transact_if_keeps core.unsure fate.first fate.second fate.third (asked_clock core) refl low

-- ---- the other calls fail by the store alone

abbrev OfStore : {A : Type 0} → Gives Trouble A → Type 0
OfStore given = IfErr IsStoreTrouble given.answer

deleted_of_store : (fails at_once : Bool) (before : ℕ) (key : List ℕ) (core : Core) → OfStore (deleted_by fails at_once before key core)
deleted_of_store true true before key core = tt
deleted_of_store true false before key core = tt
deleted_of_store false at_once before key core = tt

file_deleted_of_store : (call : Call) (key : List ℕ) (core : Core) → OfStore (file_deleted call key core)
file_deleted_of_store call key core = deleted_of_store (may_fail call core.store_faults) (is_at_once call.effect) core.store_faults key (begun call core)

doomed_of_store : (number : ℕ) (r : Result ⊤ Trouble) (core : Core) → IfErr IsStoreTrouble r → OfStore (doomed_by number r core)
doomed_of_store number (Ok done) core h = tt
doomed_of_store number (Err trouble) core h = h

doom_next_of_store : (row : Option Row) (call : Call) (core : Core) → OfStore (doom_next row call core)
doom_next_of_store None call core = tt
doom_next_of_store (Some row) call core =
    let given = file_deleted call (split_key row.number) core in doomed_of_store row.number given.answer given.core (file_deleted_of_store call (split_key row.number) core)

doom_of_store : (fate : Fate) (core : Core) → OfStore (doom_call fate core)
doom_of_store fate core = by fate.unasked
  where
    by : (unasked : Bool) → OfStore (asking unasked no_memory core (λ c. doom_next (next_doomed c) fate.first c))
    by true = tt
    by false = doom_next_of_store (next_doomed (asked_clock core)) fate.first (asked_clock core)

swept_of_store : (r : Result ⊤ Trouble) (core : Core) → IfErr IsStoreTrouble r → OfStore (answered_by true r core)
swept_of_store (Ok done) core h = tt
swept_of_store (Err trouble) core h = h

sweep_if_of_store : (swept : Bool) (call : Call) (number : ℕ) (core : Core) → OfStore (sweep_if swept call number core)
sweep_if_of_store false call number core = tt
sweep_if_of_store true call number core =
    let given = file_deleted call (split_key number) core in swept_of_store given.answer given.core (file_deleted_of_store call (split_key number) core)

sweep_of_store : (unasked : Bool) (number : ℕ) (fate : Fate) (core : Core) → OfStore (swept_unless unasked number fate core)
sweep_of_store true number fate core = tt
sweep_of_store false number fate core = sweep_if_of_store (is_swept core number) fate.first number core

list_of_store : (call : Call) (core : Core) → OfStore (file_got call core)
list_of_store call core = or_short_own call.short call core _ (got_file_own (may_fail call core.store_faults) core.store_faults (begun call core))

-- ---- a step

abbrev pub Tells : Option Outcome → Type 0
Tells None = Unit {0}
Tells (Some outcome) = CollectorMayTell outcome

-- what fails is the store, or the journal is full
abbrev IsCollected : Unmade → Type 0
IsCollected (refused refusal) = ⊥
IsCollected (troubled trouble) = IsOwnTrouble (troubled trouble)

abbrev Collects : {A : Type 0} → Result A Unmade → Core → Type 0
Collects answer core = Gave IsCollected IsLawful answer core

own_collects : {A : Type 0} (answer : Result A Unmade) (core : Core) → Gave IsOwnTrouble IsLowCore answer core → Gave IsNoRefusal IsLawful answer core → Collects answer core
own_collects (Ok a) core own fair = fair
own_collects (Err (refused refusal)) core own fair = absurd fair
own_collects (Err (troubled trouble)) core own fair = own

store_collects : {A : Type 0} (answer : Result A Trouble) (core : Core) → IfErr IsStoreTrouble answer → Gave (λ (trouble : Trouble). Unit {0}) IsLawful answer core →
    Collects (troubled_by answer core).answer (troubled_by answer core).core
store_collects (Ok a) core own l = l
store_collects (Err (faulted fault)) core own l = store_not_foreign fault own
store_collects (Err no_memory) core own l = tt

-- a step that is at a turn goes on so, or tells nothing foreign
abbrev Goes : Turn (Option Outcome) → Core → Type 0
Goes to_mark core = IsLawful core
Goes to_doom core = IsLawful core
Goes to_remove core = IsLawful core
Goes (to_list behind) core = IsLawful core
Goes (to_sweep number next) core = IsLawful core
Goes (ended outcome) core = Tells outcome

failed_tells : (unmade : Unmade) → IsCollected unmade → Tells (failed_with unmade)
failed_tells (refused refusal) h = absurd h
failed_tells (troubled (faulted fault)) h = h
failed_tells (troubled no_memory) h = tt

counted_goes : (did : ℕ → Option Outcome) (other : Turn (Option Outcome)) (r : Result ℕ Unmade) (core : Core) → ((n : ℕ) → Tells (did n)) → (IsLawful core → Goes other core) →
    Collects r core → Goes (counted outcomes did other r) core
counted_goes did other (Ok n) core does next k = by (n == 0)
  where
    by : (b : Bool) → Goes (if b then other else ended (did n)) core
    by true = next k
    by false = does n
counted_goes did other (Err e) core does next k = failed_tells e k

doom_goes : (r : Result (Option ℕ) Unmade) (core : Core) → Collects r core → Goes (behind_doom outcomes r) core
doom_goes (Ok None) core k = k
doom_goes (Ok (Some number)) core k = tt
doom_goes (Err e) core k = failed_tells e k

paging_goes : (next : Option (List ℕ)) (core : Core) → IsLawful core → Goes (paging outcomes next) core
paging_goes None core low = tt
paging_goes (Some key) core low = low

page_turn_goes : (least : Option ℕ) (next : Option (List ℕ)) (core : Core) → IsLawful core → Goes (page_turn outcomes least next) core
page_turn_goes None next core low = paging_goes next core low
page_turn_goes (Some number) next core low = low

page_goes : (behind next : Option (List ℕ)) (r : Result ⊤ Unmade) (core : Core) → Collects r core → Goes (behind_list outcomes (page_by behind next core r)) core
page_goes behind next (Ok done) core k = page_turn_goes (least_left behind next core) next core k
page_goes behind next (Err e) core k = failed_tells e k

delete_goes : (number : ℕ) (next : Option (List ℕ)) (r : Result Bool Unmade) (core : Core) → Collects r core → Goes (behind_delete outcomes number next r) core
delete_goes number next (Ok true) core k = tt
delete_goes number next (Ok false) core k = paging_goes next core k
delete_goes number next (Err e) core k = failed_tells e k

turned_goes : (turn : Turn (Option Outcome)) (luck : CallLuck) (core : Core) → Goes turn core → Goes (turned turn luck core).turn (turned turn luck core).core
turned_goes to_mark luck core l =
    let given = mark_stale_call luck.fate core in
    counted_goes outcomes.marked to_doom given.answer given.core (λ n. tt) (λ k. k)
    (own_collects given.answer given.core (appended_if_keeps 0 stale_offer luck.fate core l.low) (mark_stale_fair luck.fate core l))
turned_goes to_doom luck core l =
    let given = doom_call luck.fate core in
    let answered = troubled_by given.answer given.core in
    doom_goes answered.answer answered.core (store_collects given.answer given.core (doom_of_store luck.fate core) (doom_lawfully luck.fate core l))
turned_goes to_remove luck core l =
    let given = remove_call luck.fate core in
    counted_goes outcomes.removed (to_list None) given.answer given.core (λ n. tt) (λ k. k)
    (own_collects given.answer given.core (appended_if_keeps 0 removal_offer luck.fate core l.low) (remove_fair luck.fate core l))
turned_goes (to_list behind) luck core l =
    let given = list_call luck.fate core in
    let answered = troubled_by given.answer given.core in
    page_goes behind (next_behind behind luck.end) answered.answer answered.core (store_collects given.answer given.core (list_of_store luck.fate.first core) (list_lawfully luck.fate core l))
turned_goes (to_sweep number next) luck core l =
    let given = sweep_call number luck.fate core in
    let answered = troubled_by given.answer given.core in
    delete_goes number next answered.answer answered.core
    (store_collects given.answer given.core (sweep_of_store luck.fate.unasked number luck.fate core) (sweep_lawfully number luck.fate core l))
turned_goes (ended outcome) luck core h = h

alone_goes : (calls : ℕ) (turn : Turn (Option Outcome)) (fates : List Fate) (ends : List (List ℕ)) (core : Core) → Goes turn core →
    Goes (alone calls turn fates ends core).turn (alone calls turn fates ends core).core
alone_goes zero turn fates ends core h = h
alone_goes (suc calls) turn fates ends core h =
    let left = turned turn (record { fate = first_fate fates; end = end_at turn ends }) core in
    alone_goes calls left.turn (other_fates fates) (ends_behind turn ends) left.core (turned_goes turn (record { fate = first_fate fates; end = end_at turn ends }) core h)

at_tells : (turn : Turn (Option Outcome)) (core : Core) → Goes turn core → Tells (outcome_at turn)
at_tells to_mark core h = tt
at_tells to_doom core h = tt
at_tells to_remove core h = tt
at_tells (to_list behind) core h = tt
at_tells (to_sweep number next) core h = tt
at_tells (ended outcome) core h = h

unless_tells : (short : Bool) (outcome : Option Outcome) → Tells outcome → Tells (outcome_unless short outcome)
unless_tells true outcome h = tt
unless_tells false outcome h = h

pub collector_tells : (luck : CollectorLuck) (core : Core) → IsLawful core → Tells (step_collector luck core).outcome
collector_tells luck core low =
    let last = alone (max_calls luck) to_mark (luck.world ∷ luck.more) luck.ends core in unless_tells luck.short (outcome_at last.turn) (at_tells last.turn last.core (alone_goes (max_calls luck) to_mark (luck.world ∷ luck.more) luck.ends core low))
