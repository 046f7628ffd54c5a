-- What is seen of the index behind a call that was made meanwhile.
use Rattle.std.proofs.Common.{◌≡◌, ℕ, zero, suc, List, [], ◌∷◌, ◌++◌, length, take, slice_get, refl, sym, ap, ◌∙◌, subst, arith}
use Rattle.std.specs.List.{AllByRecursion}
use Rattle.std.specs.Prelude.{Option, Some}
use Rattle.meta_journal.specs.declared.entry.Entry.{Entry}
use Rattle.meta_store.specs.History.{history, moment_of}
use Rattle.source_log.specs.Log.{Log}
use Rattle.index_world.specs.Alike.{AreAlike}
use Rattle.index_world.specs.CallsMade.{CallMade}
use Rattle.index_world.specs.Core.{Core, IsOther, Nobody}
use Rattle.index_world.specs.World.{GoesFor, Keeping, WorldStands}
use Rattle.index_world.proofs.Agreement.{alike_of}
use Rattle.index_world.proofs.InCore.{goes_less}
use Rattle.index_world.proofs.Ran.{goes_then}
use Rattle.root_search.proofs.NextReplies.{begins_same}
use Rattle.root_search.proofs.Stretches.{longer}
use Rattle.shared_gate.specs.Recording.{IsLinked, Led, last_world, uploaded_by}
use Rattle.shared_gate.specs.Sharing.{AtPlaces, HasCall, last_core}
use Rattle.shared_gate.specs.SharedLaws.{life_goes}
use Rattle.shared_gate.specs.declared.recorded.Event.{Event}
use Rattle.shared_gate.proofs.Lives.{follow}
use Rattle.thread_run.specs.Meanwhile.{IsBefore, IsCalled}
use Rattle.thread_run.proofs.Replies.{before_then, goes_before}

-- cores for which one world stands are each no later than the other
pub alike_before : (core other exit : Core) → AreAlike core other → IsBefore other exit → IsBefore core exit
alike_before core other exit same on =
    let faults = same.store_faults in
    let moment = same.moment in
    let low = on.faults in
    let least = on.moment in
    record {
      grown = subst (λ (es : List Entry). (more : List Entry) × (exit.history ≡ es ++ more)) (sym same.history) on.grown;
      faults = omega (arith, faults, low);
      moment = omega (arith, moment, least);
    }

-- a world stands for a core on the way to one for which the last world stands
pub record OnTheWay (log : Log) (first : Core) (world last : Keeping) : Type 0 where
  pub core : Core
  pub from : GoesFor Nobody first core
  pub stands : WorldStands world core log
  pub end : Core
  pub to : GoesFor Nobody core end
  pub ends : WorldStands last end log

led_goes : (one : Option ℕ) (core after : Core) → GoesFor (IsOther one) core after → GoesFor Nobody core after
led_goes one core after on = goes_less (IsOther one) Nobody core after (λ n none. absurd none) on

-- the same, from an earlier core
way_from : (log : Log) (first mid : Core) (world last : Keeping) → GoesFor Nobody first mid → OnTheWay log mid world last → OnTheWay log first world last
way_from log first mid world last to way =
    record { core = way.core; from = goes_then first mid way.core to way.from; stands = way.stands; end = way.end; to = way.to; ends = way.ends }

nothing_there : {A : Type 0} (x : A) (place : ℕ) → slice_get [] place ≡ Some x → ⊥
nothing_there x place there = cc

same_there : {A : Type 0} (x y : A) (xs : List A) → slice_get (x ∷ xs) 0 ≡ Some y → x ≡ y
same_there x y xs there = cc

module _ {S : Type 0} (begun : Log → Type 0) (log : Log) (begins : begun log) where
  -- behind the call that led there
  led_way : (first : Core) (one : Event S) (events : List (Event S)) → IsLinked begun one.left.value events → Led one first log → OnTheWay log first one.left.value (last_world one.left.value events)
  led_way first one events linked led =
      let rest = follow begun log begins one.left.value events led.after linked led.stands in
      record {
        core = led.after;
        from = led_goes (uploaded_by one.call) first led.after led.goes_on;
        stands = led.stands;
        end = last_core led.after rest.steps;
        to = life_goes led.after rest.steps rest.life;
        ends = rest.stands;
      }

  pub left_on : (first : Core) (world : Keeping) (events : List (Event S)) → IsLinked begun world events → WorldStands world first log → (place : ℕ) (event : Event S) → slice_get events place ≡ Some event →
      OnTheWay log first event.left.value (last_world world events)
  left_on first world [] linked stands place event there = absurd (nothing_there event place there)
  left_on first world (one ∷ events) linked stands zero event there =
      subst (λ (e : Event S). OnTheWay log first e.left.value (last_world one.left.value events)) (same_there one event events there) (led_way first one events linked.2 (linked.0 log begins first stands))
  left_on first world (one ∷ events) linked stands (suc place) event there =
      let led = linked.0 log begins first stands in
      way_from log first led.after event.left.value (last_world one.left.value events) (led_goes (uploaded_by one.call) first led.after led.goes_on) (left_on led.after one.left.value events linked.2 led.stands place event there)

  -- From a core of the first world up to one of the last world, behind which the journal went on up to the exit.
  module _ (first last exit : Core) (world : Keeping) (events : List (Event S)) (linked : IsLinked begun world events) (stands : WorldStands world first log) (ends : WorldStands (last_world world events) last log) (on : IsBefore last exit) where
    pub is_called : (place : ℕ) (made : CallMade) → HasCall events place made → IsCalled first exit made
    is_called place made h =
        let way = left_on first world events linked stands place h.event h.there in
        let shown = h.shows.core in
        let alike = alike_of h.event.left.value way.core shown log h.shows.log way.stands h.shows.stands in
        let same_end = alike_of (last_world world events) way.end last log log way.ends ends in
        let to_exit = before_then way.core way.end exit (goes_before way.core way.end way.to) (alike_before way.end last exit same_end on) in
        let history_is : made.history ≡ way.core.history = ap (λ (c : CallMade). c.history) h.shows.is ∙ sym alike.history in
        let moment_is : made.moment ≡ way.core.moment = ap (λ (c : CallMade). c.moment) h.shows.is ∙ sym alike.moment in
        let P : List Entry → Type 0 = λ es. es ≡ take (length es) exit.history in
        let long : length made.history ≡ length way.core.history = ap (λ (es : List Entry). length es) history_is in
        let low = longer first.history way.core.history way.from.grown in
        let high = longer way.core.history exit.history to_exit.grown in
        let since = way.from.moment in
        let until = to_exit.moment in
        let greatest = way.stands.timely.greatest in
        let greatest_is : moment_of (history made.history) ≡ moment_of (history way.core.history) = ap (λ (es : List Entry). moment_of (history es)) history_is in
        record {
          front = subst P (sym history_is) (sym (begins_same way.core.history exit.history to_exit.grown));
          begins = omega (arith, long, low);
          ends = omega (arith, long, high);
          since = omega (arith, moment_is, since);
          until = omega (arith, moment_is, until);
          greatest = omega (arith, moment_is, greatest_is, greatest);
        }

    -- ALL CALLS that stand at places of the list
    pub are_called : (places : List ℕ) (made : List CallMade) → AtPlaces events places made → AllByRecursion (IsCalled first exit) made
    are_called [] [] at = tt
    are_called [] (call ∷ made) at = absurd at
    are_called (place ∷ places) [] at = absurd at
    are_called (place ∷ places) (call ∷ made) at = (is_called place call at.0, are_called places made at.1)

-- as many calls as places
pub as_many : {S : Type 0} (events : List (Event S)) (places : List ℕ) (made : List CallMade) → AtPlaces events places made → length made ≡ length places
as_many events [] [] at = refl
as_many events [] (call ∷ made) at = absurd at
as_many events (place ∷ places) [] at = absurd at
as_many events (place ∷ places) (call ∷ made) at = ap suc (as_many events places made at.1)
