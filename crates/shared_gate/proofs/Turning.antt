-- A call of one of many: its turn, from what the lock lent to what it was given back.
use Rattle.std.proofs.Common.{◌≡◌, ◌⊎◌, ◌<◌, ◌≤◌, ◌+◌, ◌-◌, ℕ, zero, suc, List, [], ◌∷◌, ◌++◌, length, slice_get, refl, sym, ap, ◌∙◌, subst, inl, inr, arith, append-nil, length-append, eqb}
use Rattle.std.specs.Prelude.{Option, Some, None}
use Rattle.std.proofs.lemmas.Option.{slice_get_within}
use mathlib.Core.List.{IsPrefix}
use Rattle.source_log.specs.Log.{Log}
use Rattle.turn_lock.specs.Counts.{one_if, run_of, times}
use Rattle.turn_lock.proofs.Counting.{total_append}
use Rattle.turn_lock.proofs.Places.{rests_new}
use Rattle.index_world.specs.Calls.{Fate}
use Rattle.index_world.specs.CallsMade.{Ask}
use Rattle.index_world.specs.Core.{Core, IsOther}
use Rattle.index_world.specs.World.{GoesOn, Keeping, WorldStands}
use Rattle.index_world.specs.declared.tokens.SweepPage.{SweepPage}
use Rattle.index_world.proofs.InCore.{goes_both}
use Rattle.shared_gate.specs.Recording.{AreOwners, Begun, Entered, IsLinked, IsNewNumber, IsPageOf, IsStanding, Leads, RanBy, TellsOn, Untouched, WasStagedBy, clocked_at, last_world, base_of, uploaded_by}
use Rattle.shared_gate.specs.Sharing.{IsHome, Seat, SeatBegins}
use Rattle.shared_gate.specs.SharedLaws.{clock_goes, staged_on}
use Rattle.shared_gate.specs.declared.recorded.Event.{Event}
use Rattle.shared_gate.specs.declared.recorded.Recorded.{Recorded}
use Rattle.shared_gate.proofs.Lives.{last_append, linked_snoc}
use Rattle.shared_gate.proofs.Owners.{IsLent, linked}

-- ---- lists

pub last_at : {A : Type 0} (xs : List A) (x : A) → slice_get (xs ++ x ∷ []) (length xs) ≡ Some x
last_at [] x = refl
last_at (y ∷ xs) x = last_at xs x

-- one more at the end
pub snoc_get : {A : Type 0} (xs : List A) (x y : A) (k : ℕ) → slice_get (xs ++ x ∷ []) k ≡ Some y → (slice_get xs k ≡ Some y) ⊎ (y ≡ x)
snoc_get [] x y zero h = let same : x ≡ y = cc h in inr (sym same)
snoc_get [] x y (suc k) h = let bad : ◌≡◌ {A = Option _} None (Some y) = h in absurd (cc bad)
snoc_get (z ∷ xs) x y zero h = inl h
snoc_get (z ∷ xs) x y (suc k) h = snoc_get xs x y k h

both_times : (q : ℕ) (xs ys : List ℕ) → times q (xs ++ ys) ≡ times q xs + times q ys
both_times q xs ys = total_append (λ (y : ℕ). one_if (eqb q y)) xs ys

in_front : (q : ℕ) (xs ys : List ℕ) → 0 < times q xs → 0 < times q (xs ++ ys)
in_front q xs ys some = let sum = both_times q xs ys in omega (arith, some, sum)

-- ---- what a call went through

-- with some fate it led from the one core to one of the world that it left
pub record Went (ask : Ask) (staged one : Option ℕ) (listed : Option SweepPage) (mid : Core) (new : Keeping) (log : Log) : Type 0 where
  pub fate : Fate
  pub after : Core
  pub ran : RanBy ask fate mid after
  pub goes_on : GoesOn one mid after
  pub fresh : (number : ℕ) → staged ≡ Some number → IsNewNumber mid after number
  pub lists : (page : SweepPage) → listed ≡ Some page → IsPageOf ask page after
  pub stands : WorldStands new after log

-- nothing was staged
pub none_fresh : (mid after : Core) (number : ℕ) → ◌≡◌ {A = Option ℕ} None (Some number) → IsNewNumber mid after number
none_fresh mid after number bad = absurd (cc bad)

-- nor a page given
pub none_listed : (ask : Ask) (after : Core) (page : SweepPage) → ◌≡◌ {A = Option SweepPage} None (Some page) → IsPageOf ask page after
none_listed ask after page bad = absurd (cc bad)

home_on : (home : Option ℕ) (places more : List ℕ) → IsHome home places → IsHome home (places ++ more)
home_on home places more h = λ place is. in_front place places more (h place is)

home_at : (base : ℕ) (home : Option ℕ) (places : List ℕ) → home ≡ Some base → 0 < times base places → IsHome home places
home_at base home places at some = λ place is. (
    let both : ◌≡◌ {A = Option ℕ} (Some base) (Some place) = sym at ∙ is in
    let same : base ≡ place = cc both in
    subst (λ (n : ℕ). 0 < times n places) same some)

rests_by : (home : Option ℕ) (n : ℕ) (places more : List ℕ) → 0 < times n (places ++ more) → IsHome home places → 0 < times (base_of home n) (places ++ more)
rests_by None n places more here h = here
rests_by (Some home) n places more here h = in_front home places more (h home refl)

module _ {Lock S K L : Type 0} (told : L → Option Log) where
  -- ---- the turn ends

  -- what the lock asks of the value that it is given back
  pub record GivenBack (seat : Seat Lock S L) (new_home : Option ℕ) (lent last : Recorded S K L) : Type 0 where
    pub standing : IsStanding told last
    pub opened : last.opened.value ≡ seat.opened
    pub source : last.source.value ≡ seat.source
    pub seen : IsPrefix lent.events.items last.events.items
    pub rests : (k : ℕ) (e : Event S) → length lent.events.items ≤ k → slice_get last.events.items k ≡ Some e
        → 0 < times e.base (seat.places ++ run_of (length lent.events.items) (length last.events.items - length lent.events.items))
    pub home : IsHome new_home (seat.places ++ run_of (length lent.events.items) (length last.events.items - length lent.events.items))
    pub home_stays : (home : ℕ) → seat.home ≡ Some home → new_home ≡ Some home

  module _ (seat : Seat Lock S L) (new_home : Option ℕ) (lent last : Recorded S K L) (l : IsLent told seat lent) where
    pub untouched_back : Untouched seat.home new_home lent last → GivenBack seat new_home lent last
    untouched_back u =
        let long : length last.events.items ≡ length lent.events.items = ap length u.events in
        record {
          standing = record {
            linked = subst (λ (x : (Keeping × L) × List (Event S)). IsLinked (Begun told x.0.0 x.0.1) x.0.0 x.1) (λ i. ((sym u.opened i, sym u.source i), sym u.events i)) l.standing.linked;
            last = u.world ∙ l.standing.last ∙ (λ i. last_world (sym u.opened i) (sym u.events i));
            owners = subst AreOwners (sym u.events) l.standing.owners;
          };
          opened = u.opened ∙ l.opened;
          source = u.source ∙ l.source;
          seen = ([], append-nil lent.events.items ∙ sym u.events);
          rests = λ k e behind there. absurd (let within = slice_get_within last.events.items k e there in omega (arith, within, behind, long));
          home = subst (λ (o : Option ℕ). IsHome o (seat.places ++ run_of (length lent.events.items) (length last.events.items - length lent.events.items))) (sym u.home_is) (home_on seat.home seat.places _ l.home);
          home_stays = λ home is. u.home_is ∙ is;
        }

    module _ {tells : K → Option ℕ} (ask : Ask) (staged one : Option ℕ) (listed : Option SweepPage) (Act : Keeping → Keeping → Type 0) (x : Entered tells ask staged one listed Act seat.home new_home lent last)
        (sure : (log : Log) → SeatBegins told seat log → (core : Core) → WorldStands lent.world core log → Went ask staged one listed (clocked_at x.clock core) last.world log)
        (goes_on_telling : TellsOn lent.world last.world)
        (mine : (number : ℕ) → one ≡ Some number → WasStagedBy lent.events.items (base_of seat.home (length lent.events.items)) number) where
      leads : Leads (SeatBegins told seat) lent.world x.event
      leads log b core s =
          let w = sure log b core s in
          record {
            ask = ask;
            is = x.called.is;
            clock = x.clock;
            low = x.asked.low;
            fate = w.fate;
            after = w.after;
            ran = w.ran;
            goes_on = subst (λ (o : Option ℕ). GoesOn o core w.after) (sym x.called.uploaded_is)
                (goes_both (IsOther one) (IsOther one) (IsOther one) core (clocked_at x.clock core) w.after (λ n other. (other, other)) (clock_goes (IsOther one) core x.clock) w.goes_on);
            staged = λ number is. (let f = w.fresh number (sym x.called.staged_is ∙ is) in record { apart = f.apart; delta = f.delta; facts = f.facts; staged = f.staged });
            listed = λ page is. (let p = w.lists page (sym x.called.listed_is ∙ is) in record { behind = p.behind; is = p.is; page_is = p.page_is });
            stands = subst (λ (k : Keeping). WorldStands k w.after log) (sym x.left_is) w.stands;
          }

      end_is : lent.world ≡ last_world seat.opened lent.events.items
      end_is = l.standing.last ∙ ap (λ (k : Keeping). last_world k lent.events.items) l.opened

      on_linked : IsLinked (SeatBegins told seat) seat.opened (lent.events.items ++ x.event ∷ [])
      on_linked = linked_snoc (SeatBegins told seat) seat.opened lent.events.items x.event (linked told seat lent l)
          (subst (λ (k : Keeping). Leads (SeatBegins told seat) k x.event) end_is leads)
          (subst (λ (k : Keeping × Keeping). TellsOn k.0 k.1) (λ i. (end_is i, sym x.left_is i)) goes_on_telling)

      last_is : last_world seat.opened (lent.events.items ++ x.event ∷ []) ≡ last.world
      last_is = last_append seat.opened lent.events.items (x.event ∷ []) ∙ x.left_is

      opened_is : last.opened.value ≡ seat.opened
      opened_is = x.opened ∙ l.opened

      source_is : last.source.value ≡ seat.source
      source_is = x.source ∙ l.source

      owners_on : AreOwners (lent.events.items ++ x.event ∷ [])
      owners_on k e number there up = by (snoc_get lent.events.items x.event e k there)
        where
          by : (slice_get lent.events.items k ≡ Some e) ⊎ (e ≡ x.event) → WasStagedBy (lent.events.items ++ x.event ∷ []) e.base number
          by (inl before) = staged_on lent.events.items (lent.events.items ++ x.event ∷ []) e.base number (x.event ∷ [], refl) (l.standing.owners k e number before up)
          by (inr new) =
              let base : base_of seat.home (length lent.events.items) ≡ e.base = sym x.base_is ∙ ap (λ (y : Event S). y.base) (sym new) in
              let is : one ≡ Some number = sym x.called.uploaded_is ∙ ap (λ (y : Event S). uploaded_by y.call) (sym new) ∙ up in
              subst (λ (b : ℕ). WasStagedBy (lent.events.items ++ x.event ∷ []) b number) base
              (staged_on lent.events.items (lent.events.items ++ x.event ∷ []) (base_of seat.home (length lent.events.items)) number (x.event ∷ [], refl) (mine number is))

      pub entered_back : GivenBack seat new_home lent last
      entered_back =
          let n : ℕ = length lent.events.items in
          let long : length last.events.items ≡ n + 1 = ap length x.events ∙ length-append lent.events.items (x.event ∷ []) in
          let here : slice_get last.events.items n ≡ Some x.event = ap (λ (es : List (Event S)). slice_get es n) x.events ∙ last_at lent.events.items x.event in
          let new = rests_new seat.places n last.events.items n x.event (omega arith) here in
          record {
            standing = record {
              linked = subst (λ (y : (Keeping × L) × List (Event S)). IsLinked (Begun told y.0.0 y.0.1) y.0.0 y.1) (λ i. ((sym opened_is i, sym source_is i), sym x.events i)) on_linked;
              last = sym last_is ∙ (λ i. last_world (sym opened_is i) (sym x.events i));
              owners = subst AreOwners (sym x.events) owners_on;
            };
            opened = opened_is;
            source = source_is;
            seen = (x.event ∷ [], sym x.events);
            rests = λ k e behind there. (
                let within = slice_get_within last.events.items k e there in
                let at : k ≡ n = omega (arith, within, behind, long) in
                let found : Some x.event ≡ Some e = sym here ∙ ap (slice_get last.events.items) (sym at) ∙ there in
                let is : x.event ≡ e = cc found in
                let base : base_of seat.home n ≡ e.base = sym x.base_is ∙ ap (λ (y : Event S). y.base) is in
                subst (λ (b : ℕ). 0 < times b (seat.places ++ run_of n (length last.events.items - n))) base
                (rests_by seat.home n seat.places (run_of n (length last.events.items - n)) new l.home));
            home = home_at (base_of seat.home n) new_home (seat.places ++ run_of n (length last.events.items - n)) (x.home_is ∙ ap Some x.base_is)
                (rests_by seat.home n seat.places (run_of n (length last.events.items - n)) new l.home);
            home_stays = λ home is. x.home_is ∙ ap Some (x.base_is ∙ ap (λ (o : Option ℕ). base_of o n) is);
          }
