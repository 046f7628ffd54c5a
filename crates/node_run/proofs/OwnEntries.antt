-- A core over a sound index: its entries are legal, what may still come to stand is allowed, and what this life doomed may be deleted. Each
-- call of the collector keeps it so, and no entry that it offers is refused.
use Rattle.std.proofs.Common.{◌≡◌, ℕ, ◌+◌, ◌<◌, ◌≤◌, ◌==◌, ◌&&◌, Bool, true, false, List, [], ◌∷◌, ◌++◌, length, max, inl, inr, refl, sym, ap, ◌∙◌, subst, arith}
use Rattle.std.proofs.lemmas.Bool.{and_parts, eqb-true, leb-true}
use Rattle.std.proofs.lemmas.List.{length-append}
use Rattle.std.specs.List.{AllByRecursion}
use Rattle.std.specs.Prelude.{Option, Some, None, Result, Ok, Err, IsOk, IsSomeAnd, ⊤, ◌⊎◌, ◌||◌, filter, map, remove, slice_get, is_some, nat_le}
use Rattle.index_config.specs.declared.config.IndexConfig.{IndexConfig}
use Rattle.meta_journal.specs.Places.{meta_key, split_key}
use Rattle.meta_journal.specs.Spelling.{CanSpell, Spells, spelling}
use Rattle.meta_journal.specs.declared.entry.Act.{Act}
use Rattle.meta_journal.specs.declared.entry.Act.TheVariants.{Fence, MarkStaged, Remove}
use Rattle.meta_journal.specs.declared.entry.Entry.{Entry}
use Rattle.meta_store.proofs.Answered.{answered}
use Rattle.meta_store.proofs.Numbers.{each_found}
use Rattle.meta_store.proofs.Sound.{sound}
use Rattle.meta_store.specs.Answers.{HasNumbers}
use Rattle.meta_store.specs.History.{History, history, moment_of}
use Rattle.meta_store.specs.Readings.{config_of, reading_of}
use Rattle.meta_store.specs.Rows.{rows}
use Rattle.meta_store.specs.State.{Legal, MayCome, state_of}
use Rattle.meta_store.specs.declared.config.Config.{Config}
use Rattle.meta_store.specs.declared.refusal.Refusal.{Refusal}
use Rattle.object_store.specs.Store.{State}
use Rattle.source_log.specs.Log.{Log}
use Rattle.split_states.specs.Answers.{MayMark, MayRemove}
use Rattle.split_states.specs.Due.{is_marked, is_staged, is_stale}
use Rattle.split_states.specs.Rows.{row_at, row_numbers}
use Rattle.split_states.specs.declared.rows.Row.{Row}
use Rattle.split_states.specs.declared.rows.RowState.{RowState}
use Rattle.split_states.specs.declared.rows.RowState.TheVariants.{Staged, Published, Marked}
use Rattle.index_world.specs.Calls.{Call, Effect, done_at_once, done_late, done_never, is_at_once, Fate, Gives, Made, made, exists, failed, Trouble, no_memory, Unmade, refused, troubled, all_landed, and_then, answer_behind, asked_clock, asking, begun, create_at_end, deleted_by, entry_lands, entry_of, fence_of, file_deleted, file_lands, full_answer, get_at_end, got_at, got_file, land_at, last_create, last_made, last_unless, made_at, made_behind, may_append, may_fail, or_full, or_short, risen, settle_made, settle_making, settle_with, settled, taken_in, taken_unless, tried, troubled_by, unless_short, without_file, without_late}
use Rattle.index_world.specs.Collecting.{Offer, adopted_offer, answered_by, appended_if, doom_call, doom_next, doomed_by, doomed_rows, first_offer, is_swept, last_offer, list_call, mark_stale_call, next_doomed, nothing, offer_unless, remove_call, removal_offer, stale_offer, sweep_call, sweep_if, swept_unless, transact_if, with_doomed}
use Rattle.index_world.specs.Config.{reads}
use Rattle.index_world.specs.Configuration.{config_or, configuration, index_of}
use Rattle.index_world.specs.Core.{Core, File, Late, late_entry, late_dead, late_file, file_at, is_in, with_unread}
use Rattle.index_world.specs.Index.{IsAllowed, IsBelowEnd, IsIndexOf, IsLateEntry, MayLand, max_entries}
use Rattle.index_world.specs.Releases.{MayFree}
use Rattle.index_world.specs.Standing.{IsCalled, late_object}
use Rattle.index_world.specs.World.{Keeping, WorldStands}
use Rattle.index_world.specs.declared.own.Own.TheVariants as owns
use Rattle.index_world.proofs.Asking.{Begun, asked_least, begun_history}
use Rattle.index_world.proofs.Creating.{offer_act}
use Rattle.index_world.proofs.Dooming.{doomed_is_free}
use Rattle.index_world.proofs.Indexing.{All-get, All-remove}
use Rattle.index_world.proofs.Journals.{once}
use Rattle.index_world.proofs.Numbers.{history-snoc, revision_is}
use Rattle.index_world.proofs.StoreChanges.{All-each, All-snoc}
use Rattle.index_world.proofs.StoreKeys.{meta_begins, meta_key-injective, none_some, true_is_false}
use Rattle.index_world.proofs.Taken.{legal_unread}
use Rattle.index_world.proofs.Timely.{free_later, frees_later, frees_taken}
use Rattle.index_world.proofs.Worlds.{journal_is_history}
use Rattle.call_laws.proofs.CallTells.{Gave, IsLow, IsLowCore, begun_history as begun_entries, called_low, taken_low}

-- ---- the core

-- a late entry that would land at the end of these may come there
abbrev pub IsAllowedLate : List Entry → Late → Type 0
IsAllowedLate entries (late_entry number entry bytes) = number ≡ length entries → IsAllowed entries entry
IsAllowedLate entries (late_dead key bytes) = Unit {0}
IsAllowedLate entries (late_file key bytes) = Unit {0}

pub record IsLawful (core : Core) : Type 0 where
  pub legal : Legal reads (history core.history)
  pub some : 0 < length core.history
  pub greatest : moment_of (history core.history) ≤ core.moment
  pub doomed : AllByRecursion (MayFree core) core.doomed
  pub low : IsLowCore core
  pub standing : (entry : Entry) → core.standing ≡ Some entry → IsAllowed core.history entry
  -- where an entry stands unread none lands
  pub late : core.standing ≡ None → AllByRecursion (IsAllowedLate core.history) core.late

-- the same history and moments, and other things that may still come
lawful_with : (core : Core) (faults : ℕ) (files : List File) (unsure : Bool) (standing : Option Entry) (late : List Late) → IsLawful core → AllByRecursion (IsLow (length core.history)) late →
    ((entry : Entry) → standing ≡ Some entry → IsAllowed core.history entry) → (standing ≡ None → AllByRecursion (IsAllowedLate core.history) late) →
    IsLawful (record core { store_faults = faults; files = files; unsure = unsure; standing = standing; late = late })
lawful_with core faults files unsure standing late l low stands lates =
    record {
      legal = l.legal;
      some = l.some;
      greatest = l.greatest;
      doomed = frees_later core (record core { store_faults = faults; files = files; unsure = unsure; standing = standing; late = late }) refl refl (omega arith) refl l.doomed;
      low = low;
      standing = stands;
      late = lates;
    }

-- what may come is as before
lawful_still : (core : Core) (faults : ℕ) (files : List File) (unsure : Bool) → IsLawful core → IsLawful (record core { store_faults = faults; files = files; unsure = unsure })
lawful_still core faults files unsure l = lawful_with core faults files unsure core.standing core.late l l.low l.standing l.late

-- an entry comes to stand
lawful_stands : (core : Core) (unsure : Bool) (entry : Entry) (late : List Late) → IsLawful core → AllByRecursion (IsLow (length core.history)) late → IsAllowed core.history entry →
    IsLawful (record core { unsure = unsure; standing = Some entry; late = late })
lawful_stands core unsure entry late l low allowed =
    lawful_with core core.store_faults core.files unsure (Some entry) late l low (λ other e. let same : entry ≡ other = cc e in subst (IsAllowed core.history) same allowed) (λ e. absurd (none_some entry (sym e)))

-- ---- a call of the store

lawful_over : (place : ℕ) (files : List File) (core : Core) → IsLawful core → IsLawful (record core { files = files; late = remove core.late place })
lawful_over place files core l =
    lawful_with core core.store_faults files core.unsure core.standing (remove core.late place) l (All-remove (IsLow (length core.history)) core.late place l.low) l.standing
    (λ none. All-remove (IsAllowedLate core.history) core.late place (l.late none))

lawful_land : (place : ℕ) (late : Option Late) (core : Core) → slice_get core.late place ≡ late → IsLawful core → IsLawful (land_at late place core)
lawful_land place None core at l = l
lawful_land place (Some (late_entry number entry bytes)) core at l = by core.standing (number == length core.history) refl refl
  where
    by : (standing : Option Entry) (test : Bool) → core.standing ≡ standing → (number == length core.history) ≡ test → IsLawful (without_late place (entry_lands standing test entry core))
    by None true none end =
        lawful_stands core core.unsure entry (remove core.late place) l (All-remove (IsLow (length core.history)) core.late place l.low)
        (All-get (IsAllowedLate core.history) core.late place (late_entry number entry bytes) (l.late none) at (eqb-true number (length core.history) end))
    by None false none end = lawful_over place core.files core l
    by (Some other) test stands end = lawful_over place core.files core l
lawful_land place (Some (late_dead key bytes)) core at l = lawful_over place core.files core l
lawful_land place (Some (late_file key bytes)) core at l = by _
  where
    by : (test : Bool) → IsLawful (without_late place (file_lands test key bytes core))
    by true = lawful_over place core.files core l
    by false = lawful_over place (core.files ++ record { key = key; bytes = bytes } ∷ []) core l

lawful_landed : (places : List ℕ) (core : Core) → IsLawful core → IsLawful (all_landed places core)
lawful_landed [] core l = l
lawful_landed (place ∷ places) core l = lawful_landed places (land_at (slice_get core.late place) place core) (lawful_land place (slice_get core.late place) core refl l)

pub lawful_begun : (call : Call) (core : Core) → IsLawful core → IsLawful (begun call core)
lawful_begun call core l = lawful_landed call.lands (record core { store_faults = risen core.store_faults call.rises }) (lawful_still core (risen core.store_faults call.rises) core.files core.unsure l)

lawful_asked : (core : Core) → IsLawful core → IsLawful (asked_clock core)
lawful_asked core l =
    let later = asked_least core.frozen core.moment core.clock in
    record {
      legal = l.legal;
      some = l.some;
      greatest = (let greatest = l.greatest in omega (arith, greatest, later));
      doomed = frees_later core (asked_clock core) refl refl later refl l.doomed;
      low = l.low;
      standing = l.standing;
      late = l.late;
    }

-- ---- an entry is taken in: behind it nothing lands

lawful_taken : (entry : Entry) (core : Core) → IsLawful core → IsAllowed core.history entry → IsLawful (taken_in entry core)
lawful_taken entry core l allowed =
    record {
      legal = subst (Legal reads) (sym (history-snoc core.history entry)) (l.legal, allowed);
      some = (let more = length-append core.history (entry ∷ []) in omega (arith, more));
      greatest = subst (λ h. moment_of h ≤ max core.moment entry.moment) (sym (history-snoc core.history entry)) (let greatest = l.greatest in omega (arith, greatest));
      doomed = frees_taken core entry l.legal allowed l.doomed;
      low = taken_low entry core l.low;
      standing = λ other e. absurd (none_some other e);
      late = λ none. All-each (IsLow (length core.history)) (IsAllowedLate (core.history ++ entry ∷ [])) core.late below l.low;
    }
  where
    below : (late : Late) → IsLow (length core.history) late → IsAllowedLate (core.history ++ entry ∷ []) late
    below (late_entry number other bytes) low = λ at. absurd (let more = length-append core.history (entry ∷ []) in omega (arith, low, more, at))
    below (late_dead key bytes) low = tt
    below (late_file key bytes) low = tt

-- ---- one create behind the end

-- what it made, or what stood there, may be taken in
abbrev MadeLawful : Entry → Made → Core → Type 0
MadeLawful entry made core = IsLawful core × IsAllowed core.history entry
MadeLawful entry (exists other) core = IsLawful core × IsAllowed core.history other
MadeLawful entry failed core = IsLawful core

tried_lawful : (effect : Effect) (standing : Option Entry) (entry : Entry) (core : Core) → core.standing ≡ standing → IsLawful core → IsAllowed core.history entry → IsLawful (tried effect standing entry core)
tried_lawful done_at_once None entry core e l allowed = lawful_stands core true entry core.late l l.low allowed
tried_lawful done_at_once (Some other) entry core e l allowed = lawful_still core core.store_faults core.files true l
tried_lawful done_late standing entry core e l allowed =
    lawful_with core core.store_faults core.files true core.standing (core.late ++ late_entry (length core.history) entry (spelling entry) ∷ []) l
    (All-snoc (IsLow (length core.history)) core.late (late_entry (length core.history) entry (spelling entry)) l.low (omega arith)) l.standing
    (λ none. All-snoc (IsAllowedLate core.history) core.late (late_entry (length core.history) entry (spelling entry)) (l.late none) (λ at. allowed))
tried_lawful done_never standing entry core e l allowed = lawful_still core core.store_faults core.files true l

behind_lawful : (standing : Option Entry) (entry : Entry) (core : Core) → core.standing ≡ standing → IsLawful core → IsAllowed core.history entry →
    MadeLawful entry (made_behind standing entry core).answer (made_behind standing entry core).core
behind_lawful None entry core e l allowed = (lawful_stands core core.unsure entry core.late l l.low allowed, allowed)
behind_lawful (Some other) entry core e l allowed = (l, l.standing other e)

made_lawful : (fails : Bool) (effect : Effect) (entry : Entry) (core : Core) → IsLawful core → IsAllowed core.history entry → MadeLawful entry (made_at fails effect entry core).answer (made_at fails effect entry core).core
made_lawful true effect entry core l allowed = tried_lawful effect core.standing entry core refl l allowed
made_lawful false effect entry core l allowed = behind_lawful core.standing entry core refl l allowed

create_lawful : (call : Call) (entry : Entry) (core : Core) → IsLawful core → IsAllowed core.history entry → MadeLawful entry (create_at_end call entry core).answer (create_at_end call entry core).core
create_lawful call entry core l allowed =
    made_lawful (may_fail call core.store_faults) call.effect entry (begun call core) (lawful_begun call core l) (subst (λ es. IsAllowed es entry) (sym (begun_entries call core)) allowed)

-- ---- what calls answer: nothing is refused

abbrev pub IsNoRefusal : Unmade → Type 0
IsNoRefusal (refused refusal) = ⊥
IsNoRefusal (troubled trouble) = Unit {0}

abbrev pub Fairly : {A : Type 0} → Gives Unmade A → Type 0
Fairly given = Gave IsNoRefusal IsLawful given.answer given.core

-- a call that asks for no entry
abbrev pub Lawfully : {A : Type 0} → Gives Trouble A → Type 0
Lawfully given = Gave (λ trouble. Unit {0}) IsLawful given.answer given.core

taken_lawfully : (short unsure : Bool) (entry : Entry) (core : Core) → IsLawful core → IsAllowed core.history entry → Lawfully (taken_unless short unsure entry core)
taken_lawfully true unsure entry core l allowed = tt
taken_lawfully false unsure entry core l allowed = lawful_taken entry core l allowed

got_lawfully : (fails : Bool) (call : Call) (before : ℕ) (entry : Entry) (core : Core) → IsLawful core → IsAllowed core.history entry → Lawfully (got_at fails call before entry core)
got_lawfully true call before entry core l allowed = tt
got_lawfully false call before entry core l allowed = taken_lawfully call.short (core.unsure || is_at_once call.effect) entry core l allowed

get_lawfully : (call : Call) (entry : Entry) (before : ℕ) (core : Core) → IsLawful core → IsAllowed core.history entry → Lawfully (get_at_end call entry before core)
get_lawfully call entry before core l allowed =
    got_lawfully (may_fail call core.store_faults) call before entry (begun call core) (lawful_begun call core l) (subst (λ es. IsAllowed es entry) (sym (begun_entries call core)) allowed)

settle_made_lawfully : (get : Call) (before : ℕ) (fence : Entry) (m : Made) (core : Core) → MadeLawful fence m core → Lawfully (settle_made get before fence m core)
settle_made_lawfully get before fence made core l = taken_lawfully get.short true fence core l.0 l.1
settle_made_lawfully get before fence (exists entry) core l = get_lawfully get entry before core l.0 l.1
settle_made_lawfully get before fence failed core l = tt

has_begun : (core : Core) → IsLawful core → Begun (history core.history)
has_begun core l = begun_history (history core.history) l.legal (let some = l.some in let revision = revision_is core.history in omega (arith, some, revision))

-- a Fence may always come
fence_allowed : (core : Core) → IsLawful core → IsAllowed core.history (fence_of core)
fence_allowed core l = (l.greatest, by (config_of reads (history core.history)) b.is)
  where
    b : Begun (history core.history)
    b = has_begun core l

    by : (c : Option Config) → c ≡ Some b.config → MayCome (reading_of reads c Fence) c (state_of reads (history core.history)) core.moment Fence
    by None e = absurd (none_some b.config e)
    by (Some c) e = tt

settle_lawfully : (unsure : Bool) (first second : Call) (core : Core) → IsLawful core → Lawfully (settle_with unsure first second core)
settle_lawfully false first second core l = by first.short
  where
    by : (short : Bool) → Lawfully (unless_short short core)
    by true = tt
    by false = l
settle_lawfully true first second core l = by first.short
  where
    rest : Lawfully (settle_making second core.store_faults (fence_of core) (create_at_end first (fence_of core) core))
    rest =
        settle_made_lawfully second core.store_faults (fence_of core) (create_at_end first (fence_of core) core).answer (create_at_end first (fence_of core) core).core
        (create_lawful first (fence_of core) core l (fence_allowed core l))

    by : (short : Bool) → Lawfully (or_short short no_memory first core (settle_making second core.store_faults (fence_of core) (create_at_end first (fence_of core) core)))
    by true = tt
    by false = rest

-- ---- an entry where the state offers one

-- it may come, and that is what it is answered
abbrev pub IsOwn : Core → Act → Type 0
IsOwn core act = IsAllowed core.history (entry_of act core) × IsOk (answer_behind core.history (entry_of act core))

last_made_fair : (before : ℕ) (entry : Entry) (m : Made) (core : Core) → MadeLawful entry m core → Fairly (last_made before entry m core)
last_made_fair before entry made core l = lawful_taken entry core l.0 l.1
last_made_fair before entry (exists other) core l = tt
last_made_fair before entry failed core l = tt

last_full_fair : (full : Bool) (call : Call) (before : ℕ) (act : Act) (core : Core) → IsLawful core → IsAllowed core.history (entry_of act core) → Fairly (last_unless (full_answer full) call before act core)
last_full_fair true call before act core l allowed = tt
last_full_fair false call before act core l allowed =
    last_made_fair before (entry_of act core) (create_at_end call (entry_of act core) core).answer (create_at_end call (entry_of act core) core).core (create_lawful call (entry_of act core) core l allowed)

last_by_fair : (r : Result (Unit {0}) Refusal) (call : Call) (before : ℕ) (act : Act) (core : Core) → IsOk r → IsLawful core → IsAllowed core.history (entry_of act core) → Fairly (last_unless (or_full r core) call before act core)
last_by_fair (Ok done) call before act core ok l allowed = last_full_fair (nat_le max_entries (length core.history)) call before act core l allowed
last_by_fair (Err refusal) call before act core ok l allowed = absurd (true_is_false (sym ok))

last_fair : (call : Call) (before : ℕ) (act : Act) (core : Core) → IsLawful core → IsOwn core act → Fairly (last_create call before act core)
last_fair call before act core l own = by call.short
  where
    by : (short : Bool) → Fairly (or_short short (troubled no_memory) call core (last_unless (may_append act core) call before act core))
    by true = tt
    by false = last_by_fair (answer_behind core.history (entry_of act core)) call before act core own.1 l own.0

nothing_fair : {B : Type 0} (short : Bool) (none : B) (core : Core) → IsLawful core → Fairly (nothing short none core)
nothing_fair true none core l = tt
nothing_fair false none core l = l

answered_fair : {A B : Type 0} (b : B) (r : Result A Unmade) (core : Core) → Gave IsNoRefusal IsLawful r core → Fairly (answered_by b r core)
answered_fair b (Ok a) core g = g
answered_fair b (Err e) core g = g

module _ {B : Type 0} (none : B) (offered : Core → Option (Offer B)) (own : (core : Core) (offer : Offer B) → IsLawful core → offered core ≡ Some offer → IsOwn core offer.act) where
  last_offer_fair : (call : Call) (before : ℕ) (core : Core) (offer : Option (Offer B)) → offered core ≡ offer → IsLawful core → Fairly (last_offer call before none offer core)
  last_offer_fair call before core None e l = nothing_fair call.short none core l
  last_offer_fair call before core (Some offer) e l =
      let given = last_create call before offer.act core in answered_fair offer.answer given.answer given.core (last_fair call before offer.act core l (own core offer l e))

  settled_fair : (r : Result ⊤ Trouble) (core : Core) (again : Call) (before : ℕ) → Gave (λ (trouble : Trouble). Unit {0}) IsLawful r core → Fairly (and_then (troubled_by r core) (λ c. last_offer again before none (offered c) c))
  settled_fair (Ok done) core again before l = last_offer_fair again before core (offered core) refl l
  settled_fair (Err trouble) core again before l = tt

  adopted_fair : (get again : Call) (before : ℕ) (offer : Offer B) (entry : Entry) (m : Made) (core : Core) → MadeLawful entry m core → Fairly (adopted_offer get again before none offered offer entry m core)
  adopted_fair get again before offer entry made core l = lawful_taken entry core l.0 l.1
  adopted_fair get again before offer entry (exists other) core l =
      let given = get_at_end get other before core in settled_fair given.answer given.core again before (get_lawfully get other before core l.0 l.1)
  adopted_fair get again before offer entry failed core l = tt

  offer_full_fair : (full : Bool) (first second third : Call) (offer : Offer B) (core : Core) → IsLawful core → IsAllowed core.history (entry_of offer.act core) →
      Fairly (offer_unless (full_answer full) first second third none offered offer core)
  offer_full_fair true first second third offer core l allowed = tt
  offer_full_fair false first second third offer core l allowed =
      let making = create_at_end first (entry_of offer.act core) core in
      adopted_fair second third core.store_faults offer (entry_of offer.act core) making.answer making.core (create_lawful first (entry_of offer.act core) core l allowed)

  offer_by_fair : (r : Result (Unit {0}) Refusal) (first second third : Call) (offer : Offer B) (core : Core) → IsOk r → IsLawful core → IsAllowed core.history (entry_of offer.act core) →
      Fairly (offer_unless (or_full r core) first second third none offered offer core)
  offer_by_fair (Ok done) first second third offer core ok l allowed = offer_full_fair (nat_le max_entries (length core.history)) first second third offer core l allowed
  offer_by_fair (Err refusal) first second third offer core ok l allowed = absurd (true_is_false (sym ok))

  first_fair : (offer : Option (Offer B)) (first second third : Call) (core : Core) → offered core ≡ offer → IsLawful core → Fairly (first_offer offer first second third none offered core)
  first_fair None first second third core e l = nothing_fair first.short none core l
  first_fair (Some offer) first second third core e l = by first.short (own core offer l e)
    where
      by : (short : Bool) → IsOwn core offer.act → Fairly (or_short short (troubled no_memory) first core (offer_unless (may_append offer.act core) first second third none offered offer core))
      by true o = tt
      by false o = offer_by_fair (answer_behind core.history (entry_of offer.act core)) first second third offer core o.1 l o.0

  transact_fair : (unsure : Bool) (first second third : Call) (core : Core) → IsLawful core → Fairly (transact_if unsure first second third none offered core)
  transact_fair true first second third core l =
      let given = settled first second core in settled_fair given.answer given.core third core.store_faults (settle_lawfully core.unsure first second core l)
  transact_fair false first second third core l = first_fair (offered core) first second third core refl l

  appended_fair : (fate : Fate) (core : Core) → IsLawful core → Fairly (appended_if fate none offered core)
  appended_fair fate core l = by fate.unasked
    where
      by : (unasked : Bool) → Fairly (asking unasked (troubled no_memory) core (λ c. transact_if c.unsure fate.first fate.second fate.third none offered c))
      by true = tt
      by false = transact_fair core.unsure fate.first fate.second fate.third (asked_clock core) (lawful_asked core l)

-- ---- what the collector offers

-- each row that is named stands under its number
named_rows : (test : Row → Bool) (P : ℕ → Type 0) (whole list : List Row) → ((row : Row) → test row ≡ true → row_at whole row.number ≡ Some row → P row.number) →
    AllByRecursion (λ row. row_at whole row.number ≡ Some row) list → AllByRecursion P (row_numbers (filter test list))
named_rows test P whole [] each found = tt
named_rows test P whole (row ∷ list) each found = by (test row) refl (named_rows test P whole list each found.1)
  where
    by : (b : Bool) → test row ≡ b → AllByRecursion P (row_numbers (filter test list)) → AllByRecursion P (row_numbers (filter test (row ∷ list)))
    by true t rest = rw t (each row t found.0, rest)
    by false t rest = rw t rest

staged_state : (state : RowState) → is_staged state ≡ true → state ≡ Staged
staged_state Staged e = refl
staged_state Published e = absurd (true_is_false (sym e))
staged_state Marked e = absurd (true_is_false (sym e))

among : (P : ℕ → Type 0) (numbers : List ℕ) (n : ℕ) → AllByRecursion P numbers → is_in numbers n ≡ true → P n
among P [] n all e = absurd (true_is_false (sym e))
among P (k ∷ numbers) n all e = by (k == n) refl (among P numbers n all.1)
  where
    by : (b : Bool) → (k == n) ≡ b → (is_in numbers n ≡ true → P n) → P n
    by true t more = subst P (eqb-true k n t) all.0
    by false t more = more (rw t at e)

module _ (core : Core) (l : IsLawful core) where
  abbrev entries : History
  entries = history core.history

  found : AllByRecursion (λ row. row_at (rows entries) row.number ≡ Some row) (rows entries)
  found = each_found (rows entries) (sound reads entries l.legal).held.apart

  -- a stale row may be marked
  stale_may : (grace : ℕ) → AllByRecursion (MayMark core.moment grace (rows entries)) (row_numbers (filter (is_stale core.moment grace) (rows entries)))
  stale_may grace = named_rows (is_stale core.moment grace) (MayMark core.moment grace (rows entries)) (rows entries) (rows entries) each found
    where
      each : (row : Row) → is_stale core.moment grace row ≡ true → row_at (rows entries) row.number ≡ Some row → MayMark core.moment grace (rows entries) row.number
      each row stale at =
          let both = and_parts (is_staged row.state) (nat_le (row.staged_at + grace) core.moment) stale in
          let old : row.staged_at + grace ≤ core.moment = leb-true (row.staged_at + grace) core.moment both.1 in
          subst (λ (o : Option Row). IsSomeAnd o (λ x. (x.state ≡ Staged) × (x.staged_at + grace ≤ core.moment))) (sym at) (staged_state row.state both.0, old)

  -- and a doomed one be removed
  doomed_may : (config : IndexConfig) → configuration core.history ≡ Some config →
      AllByRecursion (MayRemove core.moment config.deletion_grace (rows entries)) (doomed_rows core.doomed (rows entries))
  doomed_may config is = named_rows (λ row. is_marked row.state && is_in core.doomed row.number) (MayRemove core.moment config.deletion_grace (rows entries)) (rows entries) (rows entries) each found
    where
      each : (row : Row) → (is_marked row.state && is_in core.doomed row.number) ≡ true → row_at (rows entries) row.number ≡ Some row → MayRemove core.moment config.deletion_grace (rows entries) row.number
      each row wanted at =
          let both = and_parts (is_marked row.state) (is_in core.doomed row.number) wanted in
          let free = among (MayFree core) core.doomed row.number l.doomed both.1 in
          let one : ◌≡◌ {A = Option IndexConfig} (Some free.config) (Some config) = sym free.configured ∙ is in
          let same : free.config ≡ config = cc one in
          let may = free.free row at in
          let old : row.marked_at + free.config.deletion_grace ≤ core.moment = let released = may.1 in omega (arith, released) in
          let due = subst (λ (c : IndexConfig). row.marked_at + c.deletion_grace ≤ core.moment) same old in
          subst (λ (o : Option Row). IsSomeAnd o (λ x. (x.state ≡ Marked) × (x.marked_at + config.deletion_grace ≤ core.moment))) (sym at) (may.0, due)

  own_of : (act act' : Act) → act ≡ act' → HasNumbers act' → MayCome (reading_of reads (config_of reads entries) act') (config_of reads entries) (state_of reads entries) core.moment act' → IsOwn core act
  own_of act act' e numbers may =
      subst (IsOwn core) (sym e)
      ((l.greatest, may), (answered (reading_of reads (config_of reads entries) act') (state_of reads entries) (entry_of act' core) numbers).1 (l.greatest, may))

  b : Begun entries
  b = has_begun core l

  abbrev stale_under : Option Config → List ℕ
  stale_under c = row_numbers (filter (is_stale core.moment (config_or (index_of c)).staged_grace) (rows entries))

  -- no entry that it offers is refused
  stale_own : (offer : Offer ℕ) → stale_offer core ≡ Some offer → IsOwn core offer.act
  stale_own offer e = own_of offer.act (MarkStaged (stale_under (config_of reads entries))) (offer_act owns.MarkStale core.moment core.doomed (state_of reads entries) offer e) tt (by (config_of reads entries) b.is refl)
    where
      by : (c : Option Config) → c ≡ Some b.config → stale_under (config_of reads entries) ≡ stale_under c →
          MayCome (reading_of reads c (MarkStaged (stale_under (config_of reads entries)))) c (state_of reads entries) core.moment (MarkStaged (stale_under (config_of reads entries)))
      by None is same = absurd (none_some b.config is)
      by (Some c) is same = subst (AllByRecursion (MayMark core.moment c.settings.index.staged_grace (rows entries))) (sym same) (stale_may c.settings.index.staged_grace)

  removal_own : (offer : Offer ℕ) → removal_offer core ≡ Some offer → IsOwn core offer.act
  removal_own offer e = own_of offer.act (Remove (doomed_rows core.doomed (rows entries))) (offer_act owns.Remove core.moment core.doomed (state_of reads entries) offer e) tt (by (config_of reads entries) b.is refl)
    where
      by : (c : Option Config) → c ≡ Some b.config → configuration core.history ≡ index_of c →
          MayCome (reading_of reads c (Remove (doomed_rows core.doomed (rows entries)))) c (state_of reads entries) core.moment (Remove (doomed_rows core.doomed (rows entries)))
      by None is same = absurd (none_some b.config is)
      by (Some c) is same = doomed_may c.settings.index same

pub mark_stale_fair : (fate : Fate) (core : Core) → IsLawful core → Fairly (mark_stale_call fate core)
mark_stale_fair fate core l = appended_fair 0 stale_offer (λ c offer k e. stale_own c k offer e) fate core l

pub remove_fair : (fate : Fate) (core : Core) → IsLawful core → Fairly (remove_call fate core)
remove_fair fate core l = appended_fair 0 removal_offer (λ c offer k e. removal_own c k offer e) fate core l

-- ---- the other calls

deleted_lawful : (fails at_once : Bool) (before : ℕ) (key : List ℕ) (core : Core) → IsLawful core → IsLawful (deleted_by fails at_once before key core).core
deleted_lawful true true before key core l = lawful_still core core.store_faults (without_file key core).files core.unsure l
deleted_lawful true false before key core l = l
deleted_lawful false at_once before key core l = lawful_still core core.store_faults (without_file key core).files core.unsure l

file_deleted_lawful : (call : Call) (key : List ℕ) (core : Core) → IsLawful core → IsLawful (file_deleted call key core).core
file_deleted_lawful call key core l = deleted_lawful (may_fail call core.store_faults) (is_at_once call.effect) core.store_faults key (begun call core) (lawful_begun call core l)

-- what doomed numbers are judged by is as it was
record IsNoted (core after : Core) : Type 0 where
  history : after.history ≡ core.history
  marks : after.marks ≡ core.marks
  moment : after.moment ≡ core.moment

noted_on : (a b c : Core) → IsNoted a b → IsNoted b c → IsNoted a c
noted_on a b c first next = record { history = next.history ∙ first.history; marks = next.marks ∙ first.marks; moment = next.moment ∙ first.moment }

entry_noted : (place : ℕ) (standing : Option Entry) (test : Bool) (entry : Entry) (core : Core) → IsNoted core (without_late place (entry_lands standing test entry core))
entry_noted place None true entry core = record { history = refl; marks = refl; moment = refl }
entry_noted place None false entry core = record { history = refl; marks = refl; moment = refl }
entry_noted place (Some other) test entry core = record { history = refl; marks = refl; moment = refl }

file_noted : (place : ℕ) (test : Bool) (key bytes : List ℕ) (core : Core) → IsNoted core (without_late place (file_lands test key bytes core))
file_noted place true key bytes core = record { history = refl; marks = refl; moment = refl }
file_noted place false key bytes core = record { history = refl; marks = refl; moment = refl }

land_noted : (late : Option Late) (place : ℕ) (core : Core) → IsNoted core (land_at late place core)
land_noted None place core = record { history = refl; marks = refl; moment = refl }
land_noted (Some (late_entry number entry bytes)) place core = entry_noted place core.standing (number == length core.history) entry core
land_noted (Some (late_dead key bytes)) place core = record { history = refl; marks = refl; moment = refl }
land_noted (Some (late_file key bytes)) place core = file_noted place (is_some (file_at core.files key)) key bytes core

landed_noted : (places : List ℕ) (core : Core) → IsNoted core (all_landed places core)
landed_noted [] core = record { history = refl; marks = refl; moment = refl }
landed_noted (place ∷ places) core =
    let mid = land_at (slice_get core.late place) place core in
    noted_on core mid (all_landed places mid) (land_noted (slice_get core.late place) place core) (landed_noted places mid)

deleted_noted : (fails at_once : Bool) (before : ℕ) (key : List ℕ) (core : Core) → IsNoted core (deleted_by fails at_once before key core).core
deleted_noted true true before key core = record { history = refl; marks = refl; moment = refl }
deleted_noted true false before key core = record { history = refl; marks = refl; moment = refl }
deleted_noted false at_once before key core = record { history = refl; marks = refl; moment = refl }

file_deleted_noted : (call : Call) (key : List ℕ) (core : Core) → IsNoted core (file_deleted call key core).core
file_deleted_noted call key core =
    let risen_core : Core = record core { store_faults = risen core.store_faults call.rises } in
    let landed = landed_noted call.lands risen_core in
    noted_on core (begun call core) (file_deleted call key core).core (record { history = landed.history; marks = landed.marks; moment = landed.moment })
    (deleted_noted (may_fail call core.store_faults) (is_at_once call.effect) core.store_faults key (begun call core))

lawful_doomed : (number : ℕ) (core : Core) → IsLawful core → MayFree core number → IsLawful (with_doomed number core)
lawful_doomed number core l free =
    let on = λ (n : ℕ) (f : MayFree core n). free_later core (with_doomed number core) n refl refl (omega arith) f in
    record {
      legal = l.legal;
      some = l.some;
      greatest = l.greatest;
      doomed = All-snoc (MayFree (with_doomed number core)) core.doomed number (All-each (MayFree core) (MayFree (with_doomed number core)) core.doomed on l.doomed) (on number free);
      low = l.low;
      standing = l.standing;
      late = l.late;
    }

doomed_lawfully : (number : ℕ) (r : Result ⊤ Trouble) (core : Core) → IsLawful core → MayFree core number → Lawfully (doomed_by number r core)
doomed_lawfully number (Ok done) core l free = lawful_doomed number core l free
doomed_lawfully number (Err trouble) core l free = tt

doom_next_lawfully : (row : Option Row) (call : Call) (core : Core) → next_doomed core ≡ row → IsLawful core → Lawfully (doom_next row call core)
doom_next_lawfully None call core e l = l
doom_next_lawfully (Some row) call core e l =
    let given = file_deleted call (split_key row.number) core in
    let b = has_begun core l in
    let same = file_deleted_noted call (split_key row.number) core in
    let moment = same.moment in
    doomed_lawfully row.number given.answer given.core (file_deleted_lawful call (split_key row.number) core l)
    (free_later core given.core row.number same.history same.marks (omega (arith, moment)) (doomed_is_free core b.config.settings.index (ap index_of b.is) l.legal row e))

pub doom_lawfully : (fate : Fate) (core : Core) → IsLawful core → Lawfully (doom_call fate core)
doom_lawfully fate core l = by fate.unasked
  where
    by : (unasked : Bool) → Lawfully (asking unasked no_memory core (λ c. doom_next (next_doomed c) fate.first c))
    by true = tt
    by false = doom_next_lawfully (next_doomed (asked_clock core)) fate.first (asked_clock core) refl (lawful_asked core l)

swept_lawfully : (r : Result ⊤ Trouble) (core : Core) → IsLawful core → Lawfully (answered_by true r core)
swept_lawfully (Ok done) core l = l
swept_lawfully (Err trouble) core l = tt

sweep_if_lawfully : (swept : Bool) (call : Call) (number : ℕ) (core : Core) → IsLawful core → Lawfully (sweep_if swept call number core)
sweep_if_lawfully false call number core l = l
sweep_if_lawfully true call number core l =
    let given = file_deleted call (split_key number) core in swept_lawfully given.answer given.core (file_deleted_lawful call (split_key number) core l)

pub sweep_lawfully : (number : ℕ) (fate : Fate) (core : Core) → IsLawful core → Lawfully (sweep_call number fate core)
sweep_lawfully number fate core l = by fate.unasked
  where
    by : (unasked : Bool) → Lawfully (swept_unless unasked number fate core)
    by true = tt
    by false = sweep_if_lawfully (is_swept core number) fate.first number core l

got_file_lawfully : (fails : Bool) (before : ℕ) (core : Core) → IsLawful core → Lawfully (got_file fails before core)
got_file_lawfully true before core l = tt
got_file_lawfully false before core l = l

pub list_lawfully : (fate : Fate) (core : Core) → IsLawful core → Lawfully (list_call fate core)
list_lawfully fate core l = by fate.first.short
  where
    by : (short : Bool) → Lawfully (or_short short no_memory fate.first core (got_file (may_fail fate.first core.store_faults) core.store_faults (begun fate.first core)))
    by true = tt
    by false = got_file_lawfully (may_fail fate.first core.store_faults) core.store_faults (begun fate.first core) (lawful_begun fate.first core l)

-- ---- a world

module _ (kept : State) (core : Core) (log : Log) (i : IsIndexOf kept core.history log) where
  at_end : (number : ℕ) (entry : Entry) (bytes : List ℕ) → CanSpell entry → Spells bytes entry → number ≡ length core.history → IsBelowEnd core.history (meta_key number, bytes) ⊎ MayLand kept core.history log (meta_key number, bytes) →
      IsAllowed core.history entry
  at_end number entry bytes can spells at (inl below) =
      let within : length core.history ≤ max_entries = i.stands.within in
      let lower : below.0 < length core.history = below.1 in
      let same : number ≡ below.0 = meta_key-injective number below.0 (omega (arith, at, within)) (omega (arith, lower, within)) below.2 in
      absurd (omega (arith, at, lower, same))
  at_end number entry bytes can spells at (inr may) =
      subst (IsAllowed core.history) (once bytes may.entry entry may.enters.can can may.spelled spells) may.enters.legal

  lates_allowed : (lates : List Late) → AllByRecursion (IsCalled core.history) lates → AllByRecursion (IsLateEntry kept core.history log) (map late_object lates) → AllByRecursion (IsAllowedLate core.history) lates
  lates_allowed [] called may = tt
  lates_allowed (late_entry number entry bytes ∷ lates) called may =
      (λ at. at_end number entry bytes called.0.1 called.0.2 at (may.0 (meta_begins number)), lates_allowed lates called.1 may.1)
  lates_allowed (late_dead key bytes ∷ lates) called may = (tt, lates_allowed lates called.1 may.1)
  lates_allowed (late_file key bytes ∷ lates) called may = (tt, lates_allowed lates called.1 may.1)

pub world_lawful : (keeping : Keeping) (core : Core) (log : Log) → WorldStands keeping core log → IsLawful core
world_lawful keeping core log s =
    record {
      legal = legal_unread core.history core.standing s.world.index.stands.legal;
      some = s.opened;
      greatest = s.timely.greatest;
      doomed = s.timely.doomed;
      low = called_low core.history core.late s.world.stands_for.called;
      standing = λ entry e.
          (subst (Legal reads) (history-snoc core.history entry) (subst (λ (o : Option Entry). Legal reads (history (with_unread core.history o))) e s.world.index.stands.legal)).1;
      late = λ none.
          let i = subst (λ es. IsIndexOf s.kept es log) (journal_is_history core none) s.world.index in
          lates_allowed s.kept core log i core.late s.world.stands_for.called (subst (AllByRecursion (IsLateEntry s.kept core.history log)) (sym s.world.stands_for.late) i.late_entries);
    }
