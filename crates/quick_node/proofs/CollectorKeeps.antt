-- What a step of the collector did before it deletes a file: it took in one entry at most, and what that marked is noted at the step's own moment. And
-- what it appends is its own entry.
use Rattle.std.proofs.Common.{◌≡◌, ◌⊎◌, ℕ, ◌+◌, ◌≤◌, ◌==◌, Bool, true, false, List, [], ◌∷◌, ◌++◌, length, max, refl, sym, ap, ◌∙◌, subst, inl, inr, arith}
use Rattle.std.proofs.lemmas.List.{append-nil, length-append}
use Rattle.std.specs.Prelude.{Option, Some, None, Result, Ok, Err, ⊤, ◌||◌}
use Rattle.meta_journal.specs.declared.entry.Act.{Act}
use Rattle.meta_journal.specs.declared.entry.Act.TheVariants.{MarkStaged, Remove}
use Rattle.meta_journal.specs.declared.entry.Entry.{Entry}
use Rattle.meta_store.specs.History.{history}
use Rattle.meta_store.specs.Rows.{rows}
use Rattle.meta_store.specs.declared.refusal.Refusal.{Refusal}
use Rattle.split_states.specs.Answers.{Repeats}
use Rattle.split_states.specs.Due.{stale_rows}
use Rattle.index_world.specs.Calls.{Effect, is_at_once, Call, Fate, Gives, Made, made, exists, failed, Trouble, no_memory, Unmade, troubled, and_then_by, asked_clock, asked_moment, asking, begun, create_at_end, entry_of, fence_of, get_at_end, got_at, last_create, last_made, last_unless, made_at, made_behind, marked_by, marks_of, may_append, may_fail, or_short, risen, settle_made, settle_making, settle_with, settled, taken_in, taken_unless, troubled_by, unless_short}
use Rattle.index_world.specs.Calls as calls
use Rattle.index_world.specs.Collecting.{Offer, adopted_offer, answered_by, appended_if, config_taken, doomed_rows, first_offer, last_offer, marks_offer, nothing, offer_unless, removal_of, removal_offer, stale_offer, transact_if}
use Rattle.index_world.specs.Core.{Core, clock_of, taken_at}
use Rattle.index_world.specs.Onward.{SameLife}
use Rattle.index_world.proofs.Lasting.{taken-append}
use Rattle.index_world.proofs.StoreKeys.{none_some, true_is_false}
use Rattle.index_world.proofs.Worlds.{same-landed}
use Rattle.call_laws.proofs.CallTells.{AreLow, Gave, begun_low, landed_none}
use Rattle.call_laws.proofs.CollectingMoves.{answered_same, unmade_same}
use Rattle.quick_node.proofs.Files.{Few, Fits, Grown, IsOwn, IsTimed, One, Stay, Still, Takes, and_own, before, begun_some, begun_still, behind, comes, create_fits, create_still, get_one, grown_on, last_own, one_few, same, same_journal, settled_one, taken_journal, taken_own, takes_none, timed_asked, timed_taken, weaker}

-- whatever an error is
abbrev Any : {E : Type 0} → E → Type 0
Any e = ⊤

-- ---- a step that took in one entry at most

abbrev pub IfAny : List Entry → Type 0 → Type 0
IfAny [] fact = ⊤
IfAny (entry ∷ more) fact = fact

-- what the first of these entries marks
abbrev pub first_marked : List Entry → List ℕ
first_marked [] = []
first_marked (entry ∷ more) = marked_by entry.act

-- From the one core to the other these entries were taken in, one at most, and nothing was deleted. Behind one nothing more lands. The clock was
-- asked, and what the entry marks is noted no earlier than the moment is.
pub record Ready (start core : Core) (more : List Entry) : Type 0 where
  pub files : Stay start.files core.files
  pub grown : core.history ≡ start.history ++ more
  pub one : One more
  pub journal : Grown start core
  pub low : AreLow (length start.history) core
  pub alone : IfAny more (core.standing ≡ None)
  pub asked : asked_moment core.frozen core.moment core.clock ≡ core.moment
  pub timed : IsTimed start → IsTimed core
  pub noted : (n : ℕ) → Repeats (first_marked more) n ≡ true → core.moment ≤ taken_at core.marks n

-- a step that has appended and deleted nothing
pub record Idle (start core : Core) : Type 0 where
  pub more : List Entry
  pub ready : Ready start core more
  pub sure : core.unsure ≡ false

none_repeats : (n : ℕ) → Repeats [] n ≡ true → ⊥
none_repeats n e = cc

pub takes_one : {start core : Core} {more : List Entry} → Ready start core more → Takes One start core
takes_one {start} {core} {more} r = record { files = r.files; more = more; grown = r.grown; few = r.one; journal = r.journal; timed = r.timed }

pub takes_few : {start core : Core} {more : List Entry} → Ready start core more → Takes Few start core
takes_few r = weaker One Few one_few (takes_one r)

asked_again : (frozen : Bool) (moment clock : ℕ) → asked_moment frozen (asked_moment frozen moment clock) clock ≡ asked_moment frozen moment clock
asked_again true moment clock = refl
asked_again false moment clock = omega arith

asked_later : (frozen : Bool) (moment clock later : ℕ) → asked_moment frozen moment clock ≡ moment → asked_moment frozen (max moment later) clock ≡ max moment later
asked_later true moment clock later e = refl
asked_later false moment clock later e = omega (arith, e)

pub same_asked : {start core : Core} {more : List Entry} → Ready start core more → asked_clock core ≡ core
same_asked {start} {core} {more} r = ap (λ (m : ℕ). record core { moment = m }) r.asked

-- what is noted of an entry that is taken in
noted_now : (now : ℕ) (numbers : List ℕ) (n : ℕ) → Repeats numbers n ≡ true → now ≤ taken_at (marks_of (MarkStaged numbers) now) n
noted_now now [] n e = absurd (none_repeats n e)
noted_now now (k ∷ numbers) n e = by (k == n) refl (noted_now now numbers n)
  where
    by : (b : Bool) → (k == n) ≡ b → (Repeats numbers n ≡ true → now ≤ taken_at (marks_of (MarkStaged numbers) now) n) → now ≤ taken_at (marks_of (MarkStaged (k ∷ numbers)) now) n
    by true eb more = rw eb (omega arith)
    by false eb more = let rest : Repeats numbers n ≡ true = rw eb at e in rw eb (more rest)

module _ (start : Core) where
  pub start_ready : AreLow (length start.history) start → Ready start (asked_clock start) []
  start_ready low =
      record {
        files = λ key bytes e. e;
        grown = sym (append-nil start.history);
        one = tt;
        journal = same_journal start (asked_clock start) refl;
        low = low;
        alone = tt;
        asked = asked_again start.frozen start.moment start.clock;
        timed = timed_asked start;
        noted = λ n e. absurd (none_repeats n e);
      }

  moved : (core after : Core) (more : List Entry) → Ready start core more → Still core after → AreLow (length start.history) after → (IfAny more (core.standing ≡ None) → IfAny more (after.standing ≡ None)) →
      after.moment ≡ core.moment → clock_of after ≡ clock_of core → after.marks ≡ core.marks → Ready start after more
  moved core after more r s low quiet moment clock marks =
      record {
        files = λ key bytes e. s.files key bytes (r.files key bytes e);
        grown = s.history ∙ r.grown;
        one = r.one;
        journal = grown_on start core after r.journal s.journal;
        low = low;
        alone = quiet r.alone;
        asked = ap (λ (c : ℕ × Bool). asked_moment c.1 after.moment c.0) clock ∙ ap (λ (m : ℕ). asked_moment core.frozen m core.clock) moment ∙ r.asked ∙ sym moment;
        timed = λ k. s.timed (r.timed k);
        noted = λ n e. subst (λ (m : ℕ). m ≤ taken_at after.marks n) (sym moment) (subst (λ ms. core.moment ≤ taken_at ms n) (sym marks) (r.noted n e));
      }

  landed_same : (call : Call) (core : Core) → SameLife (record core { store_faults = risen core.store_faults call.rises }) (begun call core)
  landed_same call core = same-landed call.lands (record core { store_faults = risen core.store_faults call.rises })

  pub begun_ready : (call : Call) (core : Core) (more : List Entry) → Ready start core more → Ready start (begun call core) more
  begun_ready call core more r =
      let s = landed_same call core in
      moved core (begun call core) more r (begun_still call core) (begun_low (length start.history) call core r.low) (quiet more r.grown) s.moment s.clock s.marks
    where
      quiet : (es : List Entry) → core.history ≡ start.history ++ es → IfAny es (core.standing ≡ None) → IfAny es ((begun call core).standing ≡ None)
      quiet [] g a = tt
      quiet (entry ∷ es) g a =
          landed_none (length start.history) call.lands (record core { store_faults = risen core.store_faults call.rises }) r.low
          (let l : length core.history ≡ length start.history + length (entry ∷ es) = ap length g ∙ length-append start.history (entry ∷ es) in omega (arith, l)) a

  pub begun_idle : (call : Call) (core : Core) → Idle start core → Idle start (begun call core)
  begun_idle call core i = record { more = i.more; ready = begun_ready call core i.more i.ready; sure = (landed_same call core).unsure ∙ i.sure }

  taken_ready : (entry : Entry) (core : Core) → Ready start core [] → core.standing ≡ Some entry → Ready start (taken_in entry core) (entry ∷ [])
  taken_ready entry core r s =
      record {
        files = r.files;
        grown = ap (λ (es : List Entry). es ++ entry ∷ []) (r.grown ∙ append-nil start.history);
        one = tt;
        journal = grown_on start core (taken_in entry core) r.journal (taken_journal entry core s);
        low = r.low;
        alone = refl;
        asked = asked_later core.frozen core.moment core.clock entry.moment r.asked;
        timed = λ k. timed_taken entry core (r.timed k);
        noted = λ n e.
            let now = noted_now (max core.moment entry.moment) (marked_by entry.act) n e in
            let whole : taken_at (core.marks ++ marks_of entry.act (max core.moment entry.moment)) n ≡ max (taken_at core.marks n) (taken_at (marks_of entry.act (max core.moment entry.moment)) n) =
            taken-append core.marks (marks_of entry.act (max core.moment entry.moment)) n in
            omega (arith, now, whole);
      }

  -- where an entry stands behind the history, none was taken in
  met_ready : (core : Core) (more : List Entry) (entry : Entry) → Ready start core more → core.standing ≡ Some entry → Ready start core []
  met_ready core more entry r s = subst (Ready start core) (none_of more r.alone) r
    where
      none_of : (es : List Entry) → IfAny es (core.standing ≡ None) → es ≡ []
      none_of [] a = refl
      none_of (x ∷ es) a = absurd (none_some entry (sym a ∙ s))

  still_of : {core : Core} → Ready start core [] → Still start core
  still_of r = record { files = r.files; history = r.grown ∙ append-nil start.history; journal = r.journal; timed = r.timed }

  -- ---- settling

  -- where it is answered, the step is idle behind it
  abbrev Left : {E A : Type 0} → Gives E A → Type 0
  Left given = Gave Any (Idle start) given.answer given.core

  unless_left : (b : Bool) (core : Core) → Idle start core → Left (unless_short b core)
  unless_left true core i = tt
  unless_left false core i = i

  taken_left : (b unsure : Bool) (entry : Entry) (core : Core) → Ready start core [] → core.standing ≡ Some entry → Left (taken_unless b unsure entry core)
  taken_left true unsure entry core r s = tt
  taken_left false unsure entry core r s = record { more = entry ∷ []; ready = taken_ready entry core r s; sure = refl }

  got_left : (b : Bool) (call : Call) (count : ℕ) (entry : Entry) (core : Core) → Ready start core [] → core.standing ≡ Some entry → Left (got_at b call count entry core)
  got_left true call count entry core r s = tt
  got_left false call count entry core r s = taken_left call.short (core.unsure || is_at_once call.effect) entry core r s

  get_left : (call : Call) (entry : Entry) (count : ℕ) (core : Core) → Ready start core [] → core.standing ≡ Some entry → Left (get_at_end call entry count core)
  get_left call entry count core r s = got_left (may_fail call core.store_faults) call count entry (begun call core) (begun_ready call core [] r) (begun_some call entry core s)

  -- a create that didn't fail, where nothing was taken in
  abbrev IsReady : Made → Core → Type 0
  IsReady made core = Ready start core []
  IsReady (exists other) core = Ready start core []
  IsReady failed core = ⊤

  behind_ready : (standing : Option Entry) (entry : Entry) (core : Core) → core.standing ≡ standing → Ready start core [] → IsReady (made_behind standing entry core).answer (made_behind standing entry core).core
  behind_ready None entry core q r =
      moved core (record core { standing = Some entry }) [] r (comes core entry q (record core { standing = Some entry }) refl refl refl refl) r.low (λ a. tt) refl refl refl
  behind_ready (Some other) entry core q r = r

  made_ready : (b : Bool) (c : Effect) (entry : Entry) (core : Core) → Ready start core [] → IsReady (made_at b c entry core).answer (made_at b c entry core).core
  made_ready true c entry core r = tt
  made_ready false c entry core r = behind_ready core.standing entry core refl r

  create_ready : (call : Call) (entry : Entry) (core : Core) → Ready start core [] → IsReady (create_at_end call entry core).answer (create_at_end call entry core).core
  create_ready call entry core r = made_ready (may_fail call core.store_faults) call.effect entry (begun call core) (begun_ready call core [] r)

  settle_made_left : (get : Call) (count : ℕ) (fence : Entry) (m : Made) (core : Core) → IsReady m core → Fits m fence core → Left (settle_made get count fence m core)
  settle_made_left get count fence made core r f = taken_left get.short true fence core r f
  settle_made_left get count fence (exists entry) core r f = get_left get entry count core r f
  settle_made_left get count fence failed core r f = tt

  settle_left : (b : Bool) (first second : Call) (core : Core) → core.unsure ≡ b → Ready start core [] → Left (settle_with b first second core)
  settle_left false first second core e r = unless_left first.short core (record { more = []; ready = r; sure = e })
  settle_left true first second core e r = by first.short
    where
      rest : Left (settle_making second core.store_faults (fence_of core) (create_at_end first (fence_of core) core))
      rest =
          settle_made_left second core.store_faults (fence_of core) (create_at_end first (fence_of core) core).answer (create_at_end first (fence_of core) core).core
          (create_ready first (fence_of core) core r) (create_fits first (fence_of core) core)

      by : (b : Bool) → Left (or_short b no_memory first core (settle_making second core.store_faults (fence_of core) (create_at_end first (fence_of core) core)))
      by true = tt
      by false = rest

  unmade_left : (r : Result ⊤ Trouble) (core : Core) → Gave Any (Idle start) r core → Left (troubled_by r core)
  unmade_left (Ok done) core i = i
  unmade_left (Err e) core i = tt

-- ---- an entry where the state offers one

-- The last entry that was taken in is one of this kind, with this count.
pub record Appended (start core : Core) (IsOf : Act → ℕ → Type 0) (count : ℕ) : Type 0 where
  pub earlier : List Entry
  pub entry : Entry
  pub whole : core.history ≡ earlier ++ entry ∷ []
  pub more : List Entry
  pub longer : earlier ≡ start.history ++ more
  pub is : IsOf entry.act count

-- by its answer: nothing was left to do, or such an entry was appended
abbrev pub Counts : Core → (Act → ℕ → Type 0) → Result ℕ Unmade → Core → Type 0
Counts start IsOf (Ok count) core = (Idle start core × (count ≡ 0)) ⊎ Appended start core IsOf count
Counts start IsOf (Err e) core = ⊤

pub record Tried (start : Core) (IsOf : Act → ℕ → Type 0) (given : Gives Unmade ℕ) : Type 0 where
  pub few : Takes Few start given.core
  pub says : Counts start IsOf given.answer given.core

-- what is offered is of the kind
abbrev pub IsOffered : (Act → ℕ → Type 0) → Option (Offer ℕ) → Type 0
IsOffered IsOf None = ⊤
IsOffered IsOf (Some offer) = IsOwn offer.act × IsOf offer.act offer.answer

-- an entry of one's own that was made is the last one
abbrev Lasts : List Entry → Entry → Gives Unmade ⊤ → Type 0
Lasts entries entry given = Gave Any (λ (c : Core). c.history ≡ entries ++ entry ∷ []) given.answer given.core

last_made_lasts : (count : ℕ) (entries : List Entry) (entry : Entry) (m : Made) (core : Core) → core.history ≡ entries → Lasts entries entry (last_made count entry m core)
last_made_lasts count entries entry made core e = ap (λ (es : List Entry). es ++ entry ∷ []) e
last_made_lasts count entries entry (exists other) core e = tt
last_made_lasts count entries entry failed core e = tt

last_unless_lasts : (r : Result ⊤ Unmade) (call : Call) (count : ℕ) (act : Act) (core : Core) → Lasts core.history (entry_of act core) (last_unless r call count act core)
last_unless_lasts (Err e) call count act core = tt
last_unless_lasts (Ok done) call count act core =
    last_made_lasts count core.history (entry_of act core) (create_at_end call (entry_of act core) core).answer (create_at_end call (entry_of act core) core).core (create_still call (entry_of act core) core).history

last_lasts : (call : Call) (count : ℕ) (act : Act) (core : Core) → Lasts core.history (entry_of act core) (last_create call count act core)
last_lasts call count act core = by call.short
  where
    by : (b : Bool) → Lasts core.history (entry_of act core) (or_short b (troubled no_memory) call core (last_unless (may_append act core) call count act core))
    by true = tt
    by false = last_unless_lasts (may_append act core) call count act core

module _ (start : Core) (IsOf : Act → ℕ → Type 0) (offered : Core → Option (Offer ℕ)) (fits : (c : Core) → IsOffered IsOf (offered c)) where
  nothing_tried : (b : Bool) (core : Core) → Idle start core → Tried start IsOf (nothing b 0 core)
  nothing_tried true core i = record { few = takes_few i.ready; says = tt }
  nothing_tried false core i = record { few = takes_few i.ready; says = inl (i, refl) }

  last_offer_tried : (call : Call) (count : ℕ) (offer : Option (Offer ℕ)) (core : Core) → IsOffered IsOf offer → Idle start core → Tried start IsOf (last_offer call count 0 offer core)
  last_offer_tried call count None core f i = nothing_tried call.short core i
  last_offer_tried call count (Some offer) core f i =
      let given = last_create call count offer.act core in
      record {
        few = and_own (takes_one i.ready) (same (last_own call count offer.act core f.0) (answered_same offer.answer given.answer given.core));
        says = by given.answer given.core (last_lasts call count offer.act core);
      }
    where
      by : (r : Result ⊤ Unmade) (c : Core) → Gave Any (λ (x : Core). x.history ≡ core.history ++ entry_of offer.act core ∷ []) r c → Counts start IsOf (answered_by offer.answer r c).answer (answered_by offer.answer r c).core
      by (Ok done) c whole = inr (record { earlier = core.history; entry = entry_of offer.act core; whole = whole; more = i.more; longer = i.ready.grown; is = f.1 })
      by (Err e) c whole = tt

  then_tried : (r : Result ⊤ Unmade) (core : Core) (again : Call) (count : ℕ) → Takes One start core → Gave Any (Idle start) r core →
      Tried start IsOf (and_then_by r core (λ c. last_offer again count 0 (offered c) c))
  then_tried (Ok done) core again count t i = last_offer_tried again count (offered core) core (fits core) i
  then_tried (Err e) core again count t i = record { few = weaker One Few one_few t; says = tt }

  -- what a create met, if it met something: then nothing was taken in before
  abbrev IsMet : Made → Core → Type 0
  IsMet made core = ⊤
  IsMet (exists other) core = Ready start core []
  IsMet failed core = ⊤

  behind_met : (standing : Option Entry) (entry : Entry) (core : Core) (more : List Entry) → core.standing ≡ standing → Ready start core more → IsMet (made_behind standing entry core).answer (made_behind standing entry core).core
  behind_met None entry core more q r = tt
  behind_met (Some other) entry core more q r = met_ready start core more other r q

  made_met : (b : Bool) (c : Effect) (entry : Entry) (core : Core) (more : List Entry) → Ready start core more → IsMet (made_at b c entry core).answer (made_at b c entry core).core
  made_met true c entry core more r = tt
  made_met false c entry core more r = behind_met core.standing entry core more refl r

  adopted_tried : (get again : Call) (count : ℕ) (offer : Offer ℕ) (entry : Entry) (m : Made) (core : Core) (more : List Entry) → IsOwn entry.act → IsOf entry.act offer.answer → Takes One start core →
      core.history ≡ start.history ++ more → IsMet m core → Fits m entry core → Tried start IsOf (adopted_offer get again count 0 offered offer entry m core)
  adopted_tried get again count offer entry made core more own is t grown met f =
      record {
        few = and_own t (taken_own entry core f own);
        says = inr (record { earlier = core.history; entry = entry; whole = refl; more = more; longer = grown; is = is });
      }
  adopted_tried get again count offer entry (exists other) core more own is t grown met f =
      let given = get_at_end get other count core in
      then_tried (troubled_by given.answer given.core).answer (troubled_by given.answer given.core).core again count
      (same (behind (still_of start met) (get_one get other count core f)) (unmade_same given.answer given.core)) (unmade_left start given.answer given.core (get_left start get other count core met f))
  adopted_tried get again count offer entry failed core more own is t grown met f = record { few = weaker One Few one_few t; says = tt }

  module _ (first second third : Call) where
    offer_ok_tried : (offer : Offer ℕ) (core : Core) (more : List Entry) → IsOwn offer.act → IsOf offer.act offer.answer → Ready start core more → Tried start IsOf (offer_unless (Ok tt) first second third 0 offered offer core)
    offer_ok_tried offer core more own is r =
        let entry = entry_of offer.act core in
        let s = create_still first entry core in
        adopted_tried second third core.store_faults offer entry (create_at_end first entry core).answer (create_at_end first entry core).core more own is (before (takes_one r) s) (s.history ∙ r.grown)
        (made_met (may_fail first core.store_faults) first.effect entry (begun first core) more (begun_ready start first core more r)) (create_fits first entry core)

    offer_full_tried : (b : Bool) (offer : Offer ℕ) (core : Core) (more : List Entry) → IsOwn offer.act → IsOf offer.act offer.answer → Ready start core more →
        Tried start IsOf (offer_unless (calls.full_answer b) first second third 0 offered offer core)
    offer_full_tried true offer core more own is r = record { few = takes_few r; says = tt }
    offer_full_tried false offer core more own is r = offer_ok_tried offer core more own is r

    offer_by_tried : (a : Result (Unit {0}) Refusal) (offer : Offer ℕ) (core : Core) (more : List Entry) → IsOwn offer.act → IsOf offer.act offer.answer → Ready start core more →
        Tried start IsOf (offer_unless (calls.or_full a core) first second third 0 offered offer core)
    offer_by_tried (Err refusal) offer core more own is r = record { few = takes_few r; says = tt }
    offer_by_tried (Ok done) offer core more own is r = offer_full_tried _ offer core more own is r

    first_offer_tried : (offer : Option (Offer ℕ)) (core : Core) → IsOffered IsOf offer → Idle start core → Tried start IsOf (first_offer offer first second third 0 offered core)
    first_offer_tried None core f i = nothing_tried first.short core i
    first_offer_tried (Some offer) core f i = by first.short
      where
        by : (b : Bool) → Tried start IsOf (or_short b (troubled no_memory) first core (offer_unless (may_append offer.act core) first second third 0 offered offer core))
        by true = record { few = weaker One Few one_few (before (takes_one i.ready) (begun_still first core)); says = tt }
        by false = offer_by_tried (calls.answer_behind core.history (entry_of offer.act core)) offer core i.more f.0 f.1 i.ready

    transact_tried : (b : Bool) (core : Core) (more : List Entry) → core.unsure ≡ b → Ready start core more → (b ≡ true → more ≡ []) → Tried start IsOf (transact_if b first second third 0 offered core)
    transact_tried true core more e r nil =
        let given = settled first second core in
        let none : Ready start core [] = subst (Ready start core) (nil refl) r in
        then_tried (troubled_by given.answer given.core).answer (troubled_by given.answer given.core).core third core.store_faults
        (same (behind (still_of start none) (settled_one first second core)) (unmade_same given.answer given.core))
        (unmade_left start given.answer given.core (settle_left start core.unsure first second core refl none))
    transact_tried false core more e r nil = first_offer_tried (offered core) core (fits core) (record { more = more; ready = r; sure = e })

  appended_tried : (fate : Fate) (core : Core) (more : List Entry) → Takes Few start core → Ready start (asked_clock core) more → (core.unsure ≡ true → more ≡ []) → Tried start IsOf (appended_if fate 0 offered core)
  appended_tried fate core more t r nil = by fate.unasked
    where
      by : (b : Bool) → Tried start IsOf (asking b (troubled no_memory) core (λ c. transact_if c.unsure fate.first fate.second fate.third 0 offered c))
      by true = record { few = t; says = tt }
      by false = transact_tried fate.first fate.second fate.third core.unsure (asked_clock core) more refl r nil

  -- as a step begins
  pub begins_tried : (fate : Fate) → AreLow (length start.history) start → Tried start IsOf (appended_if fate 0 offered start)
  begins_tried fate low = appended_tried fate start [] (takes_none start) (start_ready start low) (λ unsure. refl)

  -- and behind calls that had nothing to do
  pub idle_tried : (fate : Fate) (core : Core) → Idle start core → Tried start IsOf (appended_if fate 0 offered core)
  idle_tried fate core i =
      appended_tried fate core i.more (takes_few i.ready) (subst (λ (c : Core). Ready start c i.more) (sym (same_asked i.ready)) i.ready) (λ unsure. absurd (true_is_false (sym unsure ∙ i.sure)))

-- ---- what the collector offers

-- a MarkStaged of some numbers, so many
abbrev pub IsMarks : Act → ℕ → Type 0
IsMarks act count = (numbers : List ℕ) × (act ≡ MarkStaged numbers) × (length numbers ≡ count) × (count ≡ 0 → ⊥)

abbrev pub IsRemovals : Act → ℕ → Type 0
IsRemovals act count = (numbers : List ℕ) × (act ≡ Remove numbers) × (length numbers ≡ count) × (count ≡ 0 → ⊥)

cons_some : (n : ℕ) (numbers : List ℕ) → length (n ∷ numbers) ≡ 0 → ⊥
cons_some n numbers e = omega (arith, e)

marks_are : (numbers : List ℕ) → IsOffered IsMarks (marks_offer numbers)
marks_are [] = tt
marks_are (n ∷ numbers) = (tt, (n ∷ numbers, refl, refl, cons_some n numbers))

pub stale_fits : (core : Core) → IsOffered IsMarks (stale_offer core)
stale_fits core = marks_are (stale_rows core.moment (config_taken core).staged_grace (rows (history core.history)))

removal_is : (numbers : List ℕ) → IsOffered IsRemovals (removal_of numbers)
removal_is [] = tt
removal_is (n ∷ numbers) = (tt, (n ∷ numbers, refl, refl, cons_some n numbers))

pub removal_fits : (core : Core) → IsOffered IsRemovals (removal_offer core)
removal_fits core = removal_is (doomed_rows core.doomed (rows (history core.history)))
