-- The clauses of one call, from the turn that it took.
use Rattle.std.proofs.Common.{◌≡◌, ◌<◌, ◌≤◌, ◌-◌, ℕ, List, ◌++◌, length, slice_get, refl, sym, ap, ◌∙◌, subst, inl, inr}
use Rattle.std.specs.Prelude.{Option, Some, None, Result, ⊤}
use Rattle.std.specs.declared.alloc.AllocError.{AllocError}
use mathlib.Core.List.{IsPrefix}
use Rattle.source_log.specs.Log.{Log}
use Rattle.turn_lock.specs.Counts.{Rises, run_of, times}
use Rattle.turn_lock.specs.Passes.{built, left, parts, places, seen}
use Rattle.turn_lock.specs.declared.history.HasHistory.{Ghosts}
use Rattle.turn_lock.specs.declared.lock.TurnLock.{TurnLock}
use Rattle.turn_lock.specs.declared.lock.Pass.{Pass}
use Rattle.index_config.specs.declared.config.IndexConfig.{IndexConfig}
use Rattle.index_world.specs.Answering.{Answered}
use Rattle.index_world.specs.Calls.{Fate, Gives}
use Rattle.index_world.specs.CallsMade.{Ask}
use Rattle.index_world.specs.Core.{Core, IsUnusedIn, last_count}
use Rattle.index_world.specs.Gate.{Does, DoesWith}
use Rattle.index_world.specs.declared.tokens.SweepPage.{SweepPage}
use Rattle.index_world.specs.declared.world_error.WorldError.{WorldError}
use Rattle.shared_gate.specs.Recording.{Acting, ActingWith, Always, Answering, IsStanding, RanBy, Records, WasStagedBy, base_of}
use Rattle.shared_gate.specs.Sharing.{IsHome, Passes, Seat, SeatAdds, SeatBegins, SeatOwns, SeatStands, seat_of}
use Rattle.shared_gate.specs.SharedLaws.{staged_on}
use Rattle.shared_gate.specs.declared.recorded.Event.{Event}
use Rattle.shared_gate.specs.declared.recorded.Opening.{Opening}
use Rattle.shared_gate.specs.declared.recorded.Recorded.{Recorded}
use Rattle.shared_gate.proofs.Doing.{Short, Took, acting_with, does_of, does_with, given_back}
use Rattle.shared_gate.proofs.Owners.{IsLent}
use Rattle.shared_gate.proofs.Premises.{Stays, always_stays, carries, carries_unused, sure_of}
use Rattle.shared_gate.proofs.Turning.{GivenBack, none_fresh, none_listed}

-- ---- a turn

module _ {S K L : Type 0} {g : Ghosts (Recorded S K L) (Opening S L) (Event S)} where
  pub lent_by : (told : L → Option Log) (lock : TurnLock (Recorded S K L) (Opening S L) (Event S)) (pass : Pass (Recorded S K L) (Opening S L) (Event S) g) (config : IndexConfig) (home : Option ℕ) (lent : Recorded S K L)
      → IsStanding told lent → ◌≡◌ {A = Opening S L} (record { world = lent.opened.value; source = lent.source.value }) (record { world = (built lock).opened.value; source = (built lock).source.value })
      → IsPrefix (seen pass) lent.events.items → ((k : ℕ) (e : Event S) → length (seen pass) ≤ k → slice_get lent.events.items k ≡ Some e → times e.base (places pass) ≡ 0)
      → IsHome home (places pass) → IsLent told (seat_of lock pass config home) lent
  lent_by told lock pass config home lent standing start before apart homed = record {
    standing = standing;
    opened = ap (λ (o : Opening S L). o.world) start;
    source = ap (λ (o : Opening S L). o.source) start;
    seen = before;
    apart = apart;
    home = homed;
  }

  pub took_by : (told : L → Option Log) (lock : TurnLock (Recorded S K L) (Opening S L) (Event S)) (old mid new : Pass (Recorded S K L) (Opening S L) (Event S) g) (config : IndexConfig) (home new_home : Option ℕ) (lent last : Recorded S K L)
      → seen mid ≡ lent.events.items → (places mid ≡ places old) × (parts mid ≡ parts old) × (left mid ≡ left old)
      → seen new ≡ last.events.items → places new ≡ places mid ++ run_of (length (seen mid)) (length (seen new) - length (seen mid)) → (Rises (places mid) → Rises (places new))
      → (parts new ≡ parts mid) × (left new ≡ left mid) → Took told (seat_of lock old config home) (seat_of lock new config new_home) new_home lent last
  took_by told lock old mid new config home new_home lent last saw same sees has rises same' = record {
    lock = refl;
    opened = refl;
    source = refl;
    config = refl;
    seen = sees;
    places = has ∙ (λ i. same.0 i ++ run_of (length (saw i)) (length (sees i) - length (saw i)));
    parts = same'.0 ∙ same.1;
    left = same'.1 ∙ same.2;
    home = refl;
    rises = λ r. rises (subst Rises (sym same.0) r);
  }

  -- what the lock asks of the new events, of the pass that has the turn
  pub rests_by_turn : (told : L → Option Log) (lock : TurnLock (Recorded S K L) (Opening S L) (Event S)) (old mid : Pass (Recorded S K L) (Opening S L) (Event S) g) (config : IndexConfig) (home new_home : Option ℕ) (lent last : Recorded S K L)
      → seen mid ≡ lent.events.items → places mid ≡ places old → GivenBack told (seat_of lock old config home) new_home lent last
      → (k : ℕ) (e : Event S) → length (seen mid) ≤ k → slice_get last.events.items k ≡ Some e → 0 < times e.base (places mid ++ run_of (length (seen mid)) (length last.events.items - length (seen mid)))
  rests_by_turn told lock old mid config home new_home lent last saw had back k e =
      subst (λ (x : List (Event S) × List ℕ). length x.0 ≤ k → slice_get last.events.items k ≡ Some e → 0 < times e.base (x.1 ++ run_of (length x.0) (length last.events.items - length x.0))) (λ i. (sym saw i, sym had i)) (back.rests k e)

  -- its home is one of its places again
  pub home_by_turn : (told : L → Option Log) (lock : TurnLock (Recorded S K L) (Opening S L) (Event S)) (old new : Pass (Recorded S K L) (Opening S L) (Event S) g) (config : IndexConfig) (home new_home : Option ℕ) (lent last : Recorded S K L)
      → GivenBack told (seat_of lock old config home) new_home lent last → Took told (seat_of lock old config home) (seat_of lock new config new_home) new_home lent last → IsHome new_home (places new)
  home_by_turn told lock old new config home new_home lent last back took = subst (λ (ps : List ℕ). IsHome new_home ps) (sym took.places) back.home

-- ---- calls without a further answer

module _ {S K L : Type 0} where
  pub records_with : {E A : Type 0} {tells : K → Option ℕ} (Given : Log → Core → Type 0) (one : Option ℕ) (call : Fate → Core → Gives E ⊤) (is : WorldError → E → Type 0) (holds : Core → A → Core → Type 0) (ask : Ask) (staged : Option ℕ) (listed : Option SweepPage) (answered : Answered) (result : Result A WorldError) (home new_home : Option ℕ) (old new : Recorded S K L)
      → Records tells ask staged one listed (Answering answered (Acting Given one call is holds result)) result home new_home old new
      → Records tells ask staged one listed (Answering answered (ActingWith Given one call is (λ core a done after. holds core a after) result)) result home new_home old new
  records_with Given one call is holds ask staged listed answered result home new_home old new (inl u) = inl u
  records_with Given one call is holds ask staged listed answered result home new_home old new (inr x) = inr (record {
    clock = x.clock;
    asked = x.asked;
    acts = (acting_with Given one call is holds result _ _ x.acts.0, x.acts.1);
    event = x.event;
    called = x.called;
    base_is = x.base_is;
    home_is = x.home_is;
    left_is = x.left_is;
    events = x.events;
    opened = x.opened;
    source = x.source;
  })

-- ---- plain calls: they need nothing of the index, stage nothing and upload nothing

module _ {Lock S K L : Type 0} (told : L → Option Log) where
  pub plain_back_with : {E A B : Type 0} {tells : K → Option ℕ} (seat : Seat Lock S L) (new_home : Option ℕ) (lent last : Recorded S K L) (ask : Ask) (call : Fate → Core → Gives E B) (is : WorldError → E → Type 0) (holds : Core → A → B → Core → Type 0) (answered : Answered) (result : Result A WorldError)
      (l : IsLent told seat lent) → Records tells ask None None None (Answering answered (ActingWith Always None call is holds result)) result seat.home new_home lent last
      → ((fate : Fate) (core : Core) → RanBy ask fate core (call fate core).core) → GivenBack told seat new_home lent last
  plain_back_with seat new_home lent last ask call is holds answered result l r ran =
      given_back told (λ (x : Seat Lock S L). x) seat seat new_home lent last ask None None None call is holds Always answered result l r
      (carries told seat lent Always always_stays) (λ log b core s. tt) ran (λ mid after answer says number bad. none_fresh mid after number bad) (λ mid after answer says page bad. none_listed ask after page bad) (λ number bad. absurd (cc bad))

  pub plain_back : {E A : Type 0} {tells : K → Option ℕ} (seat : Seat Lock S L) (new_home : Option ℕ) (lent last : Recorded S K L) (ask : Ask) (call : Fate → Core → Gives E ⊤) (is : WorldError → E → Type 0) (holds : Core → A → Core → Type 0) (answered : Answered) (result : Result A WorldError)
      (l : IsLent told seat lent) → Records tells ask None None None (Answering answered (Acting Always None call is holds result)) result seat.home new_home lent last
      → ((fate : Fate) (core : Core) → RanBy ask fate core (call fate core).core) → GivenBack told seat new_home lent last
  plain_back seat new_home lent last ask call is holds answered result l r ran =
      plain_back_with seat new_home lent last ask call is (λ core a done after. holds core a after) answered result l (records_with Always None call is holds ask None None answered result seat.home new_home lent last r) ran

  -- a call that needs something of the index
  pub back_given : {E A : Type 0} {tells : K → Option ℕ} (seat : Seat Lock S L) (new_home : Option ℕ) (lent last : Recorded S K L) (ask : Ask) (call : Fate → Core → Gives E ⊤) (is : WorldError → E → Type 0) (holds : Core → A → Core → Type 0) (Given : Log → Core → Type 0) (answered : Answered) (result : Result A WorldError)
      (l : IsLent told seat lent) → Records tells ask None None None (Answering answered (Acting Given None call is holds result)) result seat.home new_home lent last
      → Stays Given → ((log : Log) → SeatBegins told seat log → (core : Core) × SeatStands told seat core log × Given log core)
      → ((fate : Fate) (core : Core) → RanBy ask fate core (call fate core).core) → GivenBack told seat new_home lent last
  back_given seat new_home lent last ask call is holds Given answered result l r stays begun ran =
      given_back told (λ (x : Seat Lock S L). x) seat seat new_home lent last ask None None None call is (λ core a done after. holds core a after) Given answered result l (records_with Given None call is holds ask None None answered result seat.home new_home lent last r)
      (carries told seat lent Given stays) (sure_of told seat lent l Given (carries told seat lent Given stays) begun) ran (λ mid after answer says number bad. none_fresh mid after number bad) (λ mid after answer says page bad. none_listed ask after page bad) (λ number bad. absurd (cc bad))

  -- an upload, of a number that the seat owns
  pub back_upload : {E A : Type 0} {tells : K → Option ℕ} (seat : Seat Lock S L) (new_home : Option ℕ) (lent last : Recorded S K L) (number : ℕ) (ask : Ask) (call : Fate → Core → Gives E ⊤) (is : WorldError → E → Type 0) (holds : Core → A → Core → Type 0) (answered : Answered) (result : Result A WorldError)
      (l : IsLent told seat lent) → Records tells ask None (Some number) None (Answering answered (Acting (λ log core. IsUnusedIn core number) (Some number) call is holds result)) result seat.home new_home lent last
      → SeatOwns seat number → ((log : Log) → SeatBegins told seat log → (core : Core) × SeatStands told seat core log × IsUnusedIn core number)
      → ((fate : Fate) (core : Core) → RanBy ask fate core (call fate core).core) → GivenBack told seat new_home lent last
  back_upload seat new_home lent last number ask call is holds answered result l r own begun ran =
      given_back told (λ (x : Seat Lock S L). x) seat seat new_home lent last ask None (Some number) None call is (λ core a done after. holds core a after) (λ log core. IsUnusedIn core number) answered result l
      (records_with (λ log core. IsUnusedIn core number) (Some number) call is holds ask None None answered result seat.home new_home lent last r)
      (carries_unused told seat lent number own) (sure_of told seat lent l (λ log core. IsUnusedIn core number) (carries_unused told seat lent number own) begun) ran
      (λ mid after answer says n bad. none_fresh mid after n bad) (λ mid after answer says page bad. none_listed ask after page bad) mine
    where
      mine : (n : ℕ) → Some number ≡ Some n → WasStagedBy lent.events.items (base_of seat.home (length lent.events.items)) n
      mine n e =
          let same : number ≡ n = cc e in
          let home : own.home ≡ base_of seat.home (length lent.events.items) = sym (ap (λ (o : Option ℕ). base_of o (length lent.events.items)) own.is) in
          subst (λ (x : ℕ × ℕ). WasStagedBy lent.events.items x.0 x.1) (λ i. (home i, same i)) (staged_on seat.seen lent.events.items own.home number l.seen own.staged)

  -- ---- what they say

  module _ {W : Type 0} (seat : W → Seat Lock S L) (old new : W) (new_home : Option ℕ) (lent last : Recorded S K L) (l : IsLent told (seat old) lent) (back : GivenBack told (seat old) new_home lent last) (t : Took told (seat old) (seat new) new_home lent last) where
    pub plain_does_with : {E A B : Type 0} {tells : K → Option ℕ} (ask : Ask) (call : Fate → Core → Gives E B) (is : WorldError → E → Type 0) (holds : A → B → Core → Type 0) (answered : Answered) (result : Result A WorldError)
        → Records tells ask None None None (Answering answered (ActingWith Always None call is (λ core. holds) result)) result (seat old).home new_home lent last
        → ((error : AllocError) (core : Core) → core.store_faults ≤ last_count → Short call is error core) → (core : Core) (log : Log) → SeatStands told (seat old) core log
        → DoesWith (λ w c g. SeatStands told (seat w) c g) Passes (λ w n. SeatOwns (seat w) n) (λ a made b. SeatAdds (seat a) made (seat b)) None ask call is holds result core log old new
    plain_does_with ask call is holds answered result r short core log s =
        does_with told seat old new new_home lent last ask None None None call is (λ core. holds) Always answered result l r back t (carries told (seat old) lent Always always_stays) holds short core log s tt (λ met clock a b after e h. h)

    -- a call that needs something of the index, or nothing
    pub does_given : {E A : Type 0} {tells : K → Option ℕ} (ask : Ask) (call : Fate → Core → Gives E ⊤) (is : WorldError → E → Type 0) (holds : A → Core → Type 0) (Given : Log → Core → Type 0) (answered : Answered) (result : Result A WorldError)
        → Records tells ask None None None (Answering answered (Acting Given None call is (λ core. holds) result)) result (seat old).home new_home lent last
        → Stays Given → ((error : AllocError) (core : Core) → core.store_faults ≤ last_count → Short call is error core) → (core : Core) (log : Log) → SeatStands told (seat old) core log → Given log core
        → Does (λ w c g. SeatStands told (seat w) c g) Passes (λ w n. SeatOwns (seat w) n) (λ a made b. SeatAdds (seat a) made (seat b)) None ask call is holds result core log old new
    does_given ask call is holds Given answered result r stays short core log s given =
        does_of _ Passes _ _ None ask call is holds result core log old new
        (does_with told seat old new new_home lent last ask None None None call is (λ c a done after. holds a after) Given answered result l
        (records_with Given None call is (λ core. holds) ask None None answered result (seat old).home new_home lent last r) back t (carries told (seat old) lent Given stays) (λ a done after. holds a after) short core log s given (λ met clock a b after e h. h))

    pub does_upload : {E A : Type 0} {tells : K → Option ℕ} (number : ℕ) (ask : Ask) (call : Fate → Core → Gives E ⊤) (is : WorldError → E → Type 0) (holds : A → Core → Type 0) (answered : Answered) (result : Result A WorldError)
        → Records tells ask None (Some number) None (Answering answered (Acting (λ log core. IsUnusedIn core number) (Some number) call is (λ core. holds) result)) result (seat old).home new_home lent last
        → SeatOwns (seat old) number → ((error : AllocError) (core : Core) → core.store_faults ≤ last_count → Short call is error core) → (core : Core) (log : Log) → SeatStands told (seat old) core log → IsUnusedIn core number
        → Does (λ w c g. SeatStands told (seat w) c g) Passes (λ w n. SeatOwns (seat w) n) (λ a made b. SeatAdds (seat a) made (seat b)) (Some number) ask call is holds result core log old new
    does_upload number ask call is holds answered result r own short core log s given =
        does_of _ Passes _ _ (Some number) ask call is holds result core log old new
        (does_with told seat old new new_home lent last ask None (Some number) None call is (λ c a done after. holds a after) (λ log core. IsUnusedIn core number) answered result l
        (records_with (λ log core. IsUnusedIn core number) (Some number) call is (λ core. holds) ask None None answered result (seat old).home new_home lent last r) back t (carries_unused told (seat old) lent number own) (λ a done after. holds a after) short core log s given (λ met clock a b after e h. h))
