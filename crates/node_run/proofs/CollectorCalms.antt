-- Where the count stands still and nothing is late, a step of the collector is that with a calm luck, or finds no memory.
use Rattle.std.proofs.Common.{◌≡◌, ◌⊎◌, inl, inr, ℕ, zero, suc, ◌+◌, ◌*◌, ◌^◌, ◌<◌, ◌≤◌, List, [], ◌∷◌, length, refl, sym, ap, ◌∙◌, Bool, true, false, subst, arith}
use Rattle.std.specs.Prelude.{Option, Some, None, Result, Ok, Err, ⊤}
use Rattle.meta_journal.specs.Places.{split_key}
use Rattle.meta_journal.specs.declared.entry.Entry.{Entry}
use Rattle.meta_store.specs.History.{history, last_number}
use Rattle.split_states.specs.declared.rows.Row.{Row}
use Rattle.index_world.specs.Calls.{Call, Effect, is_at_once, Fate, Gives, gives, Trouble, no_memory, Unmade, troubled, as_unmade, asked_clock, begun, calm_call, calm_fate, deleted_by, entry_of, file_deleted, made_at, made_behind, may_append, may_fail, risen, troubled_by, without_file}
use Rattle.index_world.specs.Collecting.{Offer, answers, appended_if, doom_call, doom_next, dooming, first_offer, is_swept, list_call, making_offer, mark_stale_call, next_doomed, nothing, offer_unless, remove_call, removal_offer, stale_offer, sweep_call, sweep_if, swept_unless, transact_if}
use Rattle.index_world.specs.Core.{Core}
use Rattle.split_collector.specs.Outcomes.{Outcome}
use Rattle.split_collector.specs.Steps.{CollectorLuck, Stand, Stepped, alone, called, end_at, ends_behind, first_fate, max_calls, other_fates, outcome_at, outcomes, page_by, page_given, step_collector, stepped, turned}
use Rattle.split_collector.specs.Turns.{Turn, behind_delete, behind_doom, behind_list, behind_mark, behind_remove, ended, next_behind, to_doom, to_list, to_mark, to_remove, to_sweep}
use Rattle.split_collector.proofs.Alone.{ended_stays}
use Rattle.split_collector.proofs.OnePage.{one_page}
use Rattle.node_run.specs.Calm.{IsStill}
use Rattle.node_run.specs.Turns.{calm, collecting_luck}
use Rattle.call_laws.proofs.CallMoves.{tried_kept}
use Rattle.node_run.proofs.Calming.{Same, Calms, asked_still, asking_calms, begun_is, begun_still, calm_risen, count_inside, create_still, file_got_calms, got_still, not_fails, risen_same, short_calms}
use Rattle.node_run.proofs.CollectorMoves.{alone_moves, called_moves}
use Rattle.call_laws.proofs.CollectingMoves.{answered_same, deleted_kept, doomed_kept, unmade_same}

true_is_false : true ≡ false → ⊥
true_is_false e = cc

-- ---- an entry where the state offers one

nothing_calms : {B : Type 0} (short : Bool) (none : B) (core : Core) → Calms (troubled no_memory) (nothing short none core) (nothing false none core)
nothing_calms true none core = inl refl
nothing_calms false none core = inr refl

module _ {B : Type 0} (none : B) (offered : Core → Option (Offer B)) where
  offer_count : (b : Bool) (effect : Effect) (second third : Call) (before : ℕ) (offer : Offer B) (entry : Entry) (core : Core) → core.standing ≡ None →
      (making_offer second third before none offered offer entry (made_at b effect entry core)).core.store_faults ≡ core.store_faults
  offer_count true effect second third before offer entry core e = ap (λ k. k.1) (tried_kept effect core.standing entry core)
  offer_count false effect second third before offer entry core e =
      subst (λ st. (making_offer second third before none offered offer entry (made_behind st entry core)).core.store_faults ≡ core.store_faults) (sym e) refl

  offer_by_none : (standing : Option Entry) (second third : Call) (before : ℕ) (offer : Offer B) (entry : Entry) (core : Core) → standing ≡ None →
      making_offer second third before none offered offer entry (made_behind standing entry core) ≡ making_offer calm_call calm_call before none offered offer entry (made_behind standing entry core)
  offer_by_none standing second third before offer entry core e =
      subst (λ st. making_offer second third before none offered offer entry (made_behind st entry core) ≡ making_offer calm_call calm_call before none offered offer entry (made_behind st entry core)) (sym e) refl

  offer_calms : (r : Result ⊤ Unmade) (first second third : Call) (offer : Offer B) (core : Core) → IsStill core → Same core (offer_unless r first second third none offered offer core).core →
      offer_unless r first second third none offered offer core ≡ offer_unless r calm_call calm_call calm_call none offered offer core
  offer_calms (Err e) first second third offer core s same = refl
  offer_calms (Ok done) first second third offer core s same =
      ap (making_offer second third core.store_faults none offered offer entry) (create_still first entry core s r)
      ∙ offer_by_none core.standing second third core.store_faults offer entry core s.standing
      ∙ ap (making_offer calm_call calm_call core.store_faults none offered offer entry) (sym (create_still calm_call entry core s (calm_risen core.store_faults s.below)))
    where
      entry : Entry
      entry = entry_of offer.act core

      stands : (begun first core).standing ≡ None
      stands = ap (λ c. c.standing) (begun_is first core s.late) ∙ s.standing

      r : risen core.store_faults first.rises ≡ core.store_faults
      r = risen_same first core (sym (offer_count (may_fail first core.store_faults) first.effect second third core.store_faults offer entry (begun first core) stands) ∙ same)

  first_offer_calms : (offer : Option (Offer B)) (first second third : Call) (core : Core) → IsStill core → Same core (first_offer offer first second third none offered core).core →
      Calms (troubled no_memory) (first_offer offer first second third none offered core) (first_offer offer calm_call calm_call calm_call none offered core)
  first_offer_calms None first second third core s same = nothing_calms first.short none core
  first_offer_calms (Some offer) first second third core s same =
      short_calms first.short (troubled no_memory) first core (offer_unless (may_append offer.act core) first second third none offered offer core)
      (offer_unless (may_append offer.act core) calm_call calm_call calm_call none offered offer core)
      (λ counted. inr (offer_calms (may_append offer.act core) first second third offer core s counted)) same

  transact_if_calms : (b : Bool) (first second third : Call) (core : Core) → b ≡ false → IsStill core → Same core (transact_if b first second third none offered core).core →
      Calms (troubled no_memory) (transact_if b first second third none offered core) (transact_if b calm_call calm_call calm_call none offered core)
  transact_if_calms true first second third core e s same = absurd (true_is_false e)
  transact_if_calms false first second third core e s same = first_offer_calms (offered core) first second third core s same

  appended_if_calms : (fate : Fate) (core : Core) → IsStill core → Same core (appended_if fate none offered core).core →
      Calms (troubled no_memory) (appended_if fate none offered core) (appended_if calm_fate none offered core)
  appended_if_calms fate core s same =
      asking_calms fate.unasked (troubled no_memory) core (λ c. transact_if c.unsure fate.first fate.second fate.third none offered c)
      (λ c. transact_if c.unsure calm_call calm_call calm_call none offered c)
      (λ counted. transact_if_calms core.unsure fate.first fate.second fate.third (asked_clock core) s.unsure (asked_still core s) counted) same

  -- with a calm fate the core is still again

  making_still : (standing : Option Entry) (before : ℕ) (offer : Offer B) (entry : Entry) (core : Core) → standing ≡ None → IsStill core →
      IsStill (making_offer calm_call calm_call before none offered offer entry (made_behind standing entry core)).core
  making_still None before offer entry core e s = record { late = s.late; standing = refl; unsure = refl; below = s.below }
  making_still (Some other) before offer entry core e s = absurd (some_is_none e)
    where
      some_is_none : Some other ≡ None → ⊥
      some_is_none e = cc

  offer_still : (r : Result ⊤ Unmade) (offer : Offer B) (core : Core) → IsStill core → IsStill (offer_unless r calm_call calm_call calm_call none offered offer core).core
  offer_still (Err e) offer core s = s
  offer_still (Ok done) offer core s =
      making_still core.standing core.store_faults offer (entry_of offer.act core) (begun calm_call core) s.standing
      (record { late = s.late; standing = s.standing; unsure = s.unsure; below = omega (arith, s.below) })

  first_offer_still : (offer : Option (Offer B)) (core : Core) → IsStill core → IsStill (first_offer offer calm_call calm_call calm_call none offered core).core
  first_offer_still None core s = s
  first_offer_still (Some offer) core s = offer_still (may_append offer.act core) offer core s

  transact_if_still : (b : Bool) (core : Core) → b ≡ false → IsStill core → IsStill (transact_if b calm_call calm_call calm_call none offered core).core
  transact_if_still true core e s = absurd (true_is_false e)
  transact_if_still false core e s = first_offer_still (offered core) core s

  appended_if_still : (core : Core) → IsStill core → IsStill (appended_if calm_fate none offered core).core
  appended_if_still core s = transact_if_still core.unsure (asked_clock core) s.unsure (asked_still core s)

-- ---- deletes and listings

deleted_still : (call : Call) (key : List ℕ) (core : Core) → IsStill core → risen core.store_faults call.rises ≡ core.store_faults →
    file_deleted call key core ≡ gives (Ok tt) (without_file key core)
deleted_still call key core s r =
    ap (λ b. deleted_by b (is_at_once call.effect) core.store_faults key (begun call core)) (not_fails call core.store_faults r s.below)
    ∙ ap (λ c. deleted_by false (is_at_once call.effect) core.store_faults key c) (begun_still call core s.late r)

calm_deleted : (key : List ℕ) (core : Core) → IsStill core → file_deleted calm_call key core ≡ gives (Ok tt) (without_file key core)
calm_deleted key core s = deleted_still calm_call key core s (calm_risen core.store_faults s.below)

deleted_calms : (call : Call) (key : List ℕ) (core : Core) → IsStill core → Same core (file_deleted call key core).core → file_deleted call key core ≡ file_deleted calm_call key core
deleted_calms call key core s same = deleted_still call key core s (risen_same call core (sym counted ∙ same)) ∙ sym (calm_deleted key core s)
  where
    counted : (file_deleted call key core).core.store_faults ≡ (begun call core).store_faults
    counted = ap (λ k. k.1) (deleted_kept (may_fail call core.store_faults) (is_at_once call.effect) core.store_faults key (begun call core))

without_still : (key : List ℕ) (core : Core) → IsStill core → IsStill (without_file key core)
without_still key core s = record { late = s.late; standing = s.standing; unsure = s.unsure; below = s.below }

doom_next_calms : (row : Option Row) (call : Call) (core : Core) → IsStill core → Same core (doom_next row call core).core → Calms no_memory (doom_next row call core) (doom_next row calm_call core)
doom_next_calms None call core s same = inr refl
doom_next_calms (Some row) call core s same =
    let given = file_deleted call (split_key row.number) core in
    inr (ap (dooming row.number) (deleted_calms call (split_key row.number) core s (sym (ap (λ k. k.1) (doomed_kept row.number given.answer given.core)) ∙ same)))

doom_calms : (fate : Fate) (core : Core) → IsStill core → Same core (doom_call fate core).core → Calms no_memory (doom_call fate core) (doom_call calm_fate core)
doom_calms fate core s same =
    asking_calms fate.unasked no_memory core (λ c. doom_next (next_doomed c) fate.first c) (λ c. doom_next (next_doomed c) calm_call c)
    (λ counted. doom_next_calms (next_doomed (asked_clock core)) fate.first (asked_clock core) (asked_still core s) counted) same

doom_next_still : (row : Option Row) (core : Core) → IsStill core → IsStill (doom_next row calm_call core).core
doom_next_still None core s = s
doom_next_still (Some row) core s =
    subst (λ (g : Gives Trouble ⊤). IsStill (dooming row.number g).core) (sym (calm_deleted (split_key row.number) core s))
    (record { late = s.late; standing = s.standing; unsure = s.unsure; below = s.below })

sweep_calms : (b : Bool) (call : Call) (number : ℕ) (core : Core) → IsStill core → Same core (sweep_if b call number core).core → Calms no_memory (sweep_if b call number core) (sweep_if b calm_call number core)
sweep_calms false call number core s same = inr refl
sweep_calms true call number core s same =
    let given = file_deleted call (split_key number) core in
    inr (ap (answers true) (deleted_calms call (split_key number) core s (sym (ap (λ c. c.store_faults) (answered_same true given.answer given.core)) ∙ same)))

sweep_call_calms : (number : ℕ) (fate : Fate) (core : Core) → IsStill core → Same core (sweep_call number fate core).core → Calms no_memory (sweep_call number fate core) (sweep_call number calm_fate core)
sweep_call_calms number fate core s same = by fate.unasked same
  where
    by : (unasked : Bool) → Same core (swept_unless unasked number fate core).core → Calms no_memory (swept_unless unasked number fate core) (sweep_call number calm_fate core)
    by true same' = inl refl
    by false same' = sweep_calms (is_swept core number) fate.first number core s same'

sweep_still : (b : Bool) (number : ℕ) (core : Core) → IsStill core → IsStill (sweep_if b calm_call number core).core
sweep_still false number core s = s
sweep_still true number core s =
    subst (λ (g : Gives Trouble ⊤). IsStill (answers true g).core) (sym (calm_deleted (split_key number) core s)) (without_still (split_key number) core s)

-- ---- a turn

-- a step ends without memory, or is as with a calm fate
abbrev StandCalms : Stand → Stand → Type 0
StandCalms left calm_left = (left.turn ≡ ended None) ⊎ (left ≡ calm_left)

unmade_calms : {A : Type 0} (g g' : Gives Trouble A) → Calms no_memory g g' → Calms (troubled no_memory) (as_unmade g) (as_unmade g')
unmade_calms g g' (inl e) = inl (ap (λ r. (troubled_by r g.core).answer) e)
unmade_calms g g' (inr e) = inr (ap as_unmade e)

called_calms : {A : Type 0} (behind : Result A Unmade → Turn (Option Outcome)) (g g' : Gives Unmade A) → behind (Err (troubled no_memory)) ≡ ended None → Calms (troubled no_memory) g g' →
    StandCalms (called behind g) (called behind g')
called_calms behind g g' h (inl e) = inl (ap behind e ∙ h)
called_calms behind g g' h (inr e) = inr (ap (called behind) e)

page_calms : (behind next : Option (List ℕ)) (g g' : Gives Unmade ⊤) → Calms (troubled no_memory) g g' → StandCalms (page_given behind next g) (page_given behind next g')
page_calms behind next g g' (inl e) = inl (ap (λ r. behind_list outcomes (page_by behind next g.core r)) e)
page_calms behind next g g' (inr e) = inr (ap (page_given behind next) e)

-- the count behind a call that is handed on
handed : {A : Type 0} (core : Core) (given : Gives Trouble A) → Same core (as_unmade given).core → Same core given.core
handed core given same = sym (ap (λ c. c.store_faults) (unmade_same given.answer given.core)) ∙ same

turned_calms : (turn : Turn (Option Outcome)) (fate : Fate) (end : Option (List ℕ)) (core : Core) → IsStill core → Same core (turned turn (record { fate = fate; end = end }) core).core →
    StandCalms (turned turn (record { fate = fate; end = end }) core) (turned turn (record { fate = calm_fate; end = end }) core)
turned_calms to_mark fate end core s same =
    called_calms (behind_mark outcomes) (mark_stale_call fate core) (mark_stale_call calm_fate core) refl (appended_if_calms 0 stale_offer fate core s same)
turned_calms to_doom fate end core s same =
    called_calms (behind_doom outcomes) (as_unmade (doom_call fate core)) (as_unmade (doom_call calm_fate core)) refl
    (unmade_calms (doom_call fate core) (doom_call calm_fate core) (doom_calms fate core s (handed core (doom_call fate core) same)))
turned_calms to_remove fate end core s same =
    called_calms (behind_remove outcomes) (remove_call fate core) (remove_call calm_fate core) refl (appended_if_calms 0 removal_offer fate core s same)
turned_calms (to_list behind) fate end core s same =
    page_calms behind (next_behind behind end) (as_unmade (list_call fate core)) (as_unmade (list_call calm_fate core))
    (unmade_calms (list_call fate core) (list_call calm_fate core) (file_got_calms fate.first core s (handed core (list_call fate core) same)))
turned_calms (to_sweep number next) fate end core s same =
    called_calms (behind_delete outcomes number next) (as_unmade (sweep_call number fate core)) (as_unmade (sweep_call number calm_fate core)) refl
    (unmade_calms (sweep_call number fate core) (sweep_call number calm_fate core) (sweep_call_calms number fate core s (handed core (sweep_call number fate core) same)))
turned_calms (ended outcome) fate end core s same = inr refl

unmade_still : {A : Type 0} (given : Gives Trouble A) → IsStill given.core → IsStill (as_unmade given).core
unmade_still given s = subst IsStill (sym (unmade_same given.answer given.core)) s

turned_still : (turn : Turn (Option Outcome)) (end : Option (List ℕ)) (core : Core) → IsStill core → IsStill (turned turn (record { fate = calm_fate; end = end }) core).core
turned_still to_mark end core s = appended_if_still 0 stale_offer core s
turned_still to_doom end core s = unmade_still (doom_call calm_fate core) (doom_next_still (next_doomed (asked_clock core)) (asked_clock core) (asked_still core s))
turned_still to_remove end core s = appended_if_still 0 removal_offer core s
turned_still (to_list behind) end core s =
    unmade_still (list_call calm_fate core)
    (subst (λ (g : Gives Trouble ⊤). IsStill g.core) (sym (got_still calm_call core s (calm_risen core.store_faults s.below))) s)
turned_still (to_sweep number next) end core s = unmade_still (sweep_call number calm_fate core) (sweep_still (is_swept core number) number core s)
turned_still (ended outcome) end core s = s

-- ---- a step

ended_alone : (calls : ℕ) (turn : Turn (Option Outcome)) (fates : List Fate) (ends : List (List ℕ)) (core : Core) → turn ≡ ended None → (alone calls turn fates ends core).turn ≡ ended None
ended_alone calls turn fates ends core e =
    ap (λ (t : Turn (Option Outcome)). (alone calls t fates ends core).turn) e ∙ ap (λ (s : Stand). s.turn) (ended_stays calls None fates ends core)

module _ (calls : ℕ) (turn : Turn (Option Outcome)) (fates : List Fate) (ends : List (List ℕ)) (core : Core) (s : IsStill core) where
  abbrev last_of : Stand → Stand
  last_of l = alone calls l.turn (other_fates fates) (ends_behind turn ends) l.core

  abbrev calm_last_of : Stand → Stand
  calm_last_of l = alone calls l.turn [] (ends_behind turn ends) l.core

  abbrev left : Stand
  left = turned turn (record { fate = first_fate fates; end = end_at turn ends }) core

  abbrev calm_left : Stand
  calm_left = turned turn (record { fate = calm_fate; end = end_at turn ends }) core

  -- behind its first call
  next_calms : Same core (last_of left).core → ((l : Stand) → IsStill l.core → Same l.core (last_of l).core → StandCalms (last_of l) (calm_last_of l)) → StandCalms (last_of left) (calm_last_of calm_left)
  next_calms same behind = by (turned_calms turn (first_fate fates) (end_at turn ends) core s left_same)
    where
      left_same : Same core left.core
      left_same =
          count_inside core.store_faults left.core.store_faults (last_of left).core.store_faults same s.below (called_moves turn (record { fate = first_fate fates; end = end_at turn ends }) core).later.rises
          (alone_moves calls left.turn (other_fates fates) (ends_behind turn ends) left.core).later.rises

      on : (l : Stand) → l ≡ left → IsStill l.core → StandCalms (last_of l) (calm_last_of l)
      on l e still =
          behind l still (ap (λ (x : Stand). (last_of x).core.store_faults) e ∙ (same ∙ sym (ap (λ (x : Stand). x.core.store_faults) e ∙ left_same)))

      by : StandCalms left calm_left → StandCalms (last_of left) (calm_last_of calm_left)
      by (inl none) = inl (ended_alone calls left.turn (other_fates fates) (ends_behind turn ends) left.core none)
      by (inr e) = subst (λ (l : Stand). StandCalms (last_of l) (calm_last_of calm_left)) (sym e) (on calm_left (sym e) (turned_still turn (end_at turn ends) core s))

alone_calms : (calls : ℕ) (turn : Turn (Option Outcome)) (fates : List Fate) (ends : List (List ℕ)) (core : Core) → IsStill core → Same core (alone calls turn fates ends core).core →
    StandCalms (alone calls turn fates ends core) (alone calls turn [] ends core)
alone_calms zero turn fates ends core s same = inr refl
alone_calms (suc calls) turn fates ends core s same =
    next_calms calls turn fates ends core s same (λ l still counted. alone_calms calls l.turn (other_fates fates) (ends_behind turn ends) l.core still counted)

abbrev pub CollectCalms : Stepped → Stepped → Type 0
CollectCalms step calm_step = (step.outcome ≡ None) ⊎ (step ≡ calm_step)

abbrev pub calm_collecting : CollectorLuck
calm_collecting = collecting_luck calm

alone_still : (calls : ℕ) (turn : Turn (Option Outcome)) (ends : List (List ℕ)) (core : Core) → IsStill core → IsStill (alone calls turn [] ends core).core
alone_still zero turn ends core s = s
alone_still (suc calls) turn ends core s =
    let left = turned turn (record { fate = calm_fate; end = end_at turn ends }) core in
    alone_still calls left.turn (ends_behind turn ends) left.core (turned_still turn (end_at turn ends) core s)

calm_first : (calls : ℕ) (turn : Turn (Option Outcome)) (ends : List (List ℕ)) (core : Core) → alone calls turn (calm_fate ∷ []) ends core ≡ alone calls turn [] ends core
calm_first zero turn ends core = refl
calm_first (suc calls) turn ends core = refl

-- a step that ends with a calm luck leaves the core still
pub collector_still : (core : Core) → IsStill core → IsStill (step_collector calm_collecting core).core
collector_still core s = subst (λ (l : Stand). IsStill l.core) (sym (calm_first 5 to_mark [] core)) (alone_still 5 to_mark [] core s)

enough : (ends : List (List ℕ)) (more : List Fate) → 5 + 2 * length ends ≤ 5 + 2 * length ends + length more
enough ends more = omega arith

-- wherever its pages end
pub collector_calms : (luck : CollectorLuck) (core : Core) → IsStill core → last_number (history (step_collector luck core).core.history) < 2 ^ 64 → Same core (step_collector luck core).core →
    CollectCalms (step_collector luck core) (step_collector calm_collecting core)
collector_calms luck core s small same = by luck.short (alone_calms (max_calls luck) to_mark (luck.world ∷ luck.more) luck.ends core s same)
  where
    whole : Stand
    whole = alone (max_calls luck) to_mark (luck.world ∷ luck.more) luck.ends core

    calm_whole : Stand
    calm_whole = alone (max_calls luck) to_mark [] luck.ends core

    by : (short : Bool) → StandCalms whole calm_whole → CollectCalms (stepped short whole) (step_collector calm_collecting core)
    by true h = inl refl
    by false (inl none) = inl (ap outcome_at none)
    by false (inr e) =
        inr (ap (stepped false) (e ∙ (one_page luck.ends core (max_calls luck) (enough luck.ends luck.more) (subst (λ (l : Stand). last_number (history l.core.history) < 2 ^ 64) e small) ∙ sym (calm_first 5 to_mark [] core))))
