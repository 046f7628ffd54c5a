-- What a call of a recorded world leaves.
use Rattle.std.proofs.Common.{◌≡◌, ◌≤◌, ℕ, List, [], ◌∷◌, ◌++◌, length, refl, sym, ap, ◌∙◌, subst}
use Rattle.std.specs.Prelude.{Option, Some, None, IsSome, Err}
use Rattle.std.specs.declared.alloc.AllocError.{AllocError}
use Rattle.source_log.specs.Log.{Log}
use Rattle.index_world.specs.CallsMade.{Ask}
use Rattle.index_world.specs.Core.{last_count}
use Rattle.index_world.specs.World.{Keeping}
use Rattle.index_world.specs.declared.tokens.SweepPage.{SweepPage}
use Rattle.index_world.specs.declared.world_error.WorldError.TheVariants as errors
use Rattle.shared_gate.specs.Recording.{AreOwners, Begun, Entered, IsCalled, IsLinked, IsNoted, IsStanding, IsTimed, Unheard, base_of, last_world, set_to}
use Rattle.shared_gate.specs.declared.call.Call.{Call}
use Rattle.shared_gate.specs.declared.recorded.Event.{Event}
use Rattle.shared_gate.specs.declared.recorded.Recorded.{Recorded}

none_there : {S : Type 0} → AreOwners {S = S} []
none_there k event number there up = let bad : ◌≡◌ {A = Option (Event _)} None (Some event) = there in absurd (cc bad)

module _ {S K L : Type 0} where
  -- a list that begins
  pub begun : (told : L → Option Log) (recorded : Recorded S K L) → recorded.events.items ≡ [] → recorded.world ≡ recorded.opened.value → IsStanding told recorded
  begun told recorded none same = record {
    linked = subst (λ (es : List (Event S)). IsLinked (Begun told recorded.opened.value recorded.source.value) recorded.opened.value es) (sym none) tt;
    last = same ∙ ap (λ (es : List (Event S)). last_world recorded.opened.value es) (sym none);
    owners = subst (λ (es : List (Event S)). AreOwners es) (sym none) none_there;
  }

  pub unheard : {A : Type 0} (error : AllocError) (home : Option ℕ) (old new : Recorded S K L) → old.world.store_faults ≤ last_count → new.world ≡ old.world
      → new.clock ≡ old.clock → (new.events.items ≡ old.events.items) × (new.opened.value ≡ old.opened.value) × (new.source.value ≡ old.source.value) → Unheard {A = A} (Err (errors.Memory error)) home home old new
  unheard error home old new within world clock same = record {
    error = error;
    is = refl;
    within = within;
    nothing = record { world = world; clock = clock; events = same.0; opened = same.1; source = same.2; home_is = refl };
  }

  pub entered : {tells : K → Option ℕ} (ask : Ask) (staged uploaded : Option ℕ) (listed : Option SweepPage) (Act : Keeping → Keeping → Type 0) (call : Call) (home new_home : Option ℕ) (old ready before new : Recorded S K L)
      → IsNoted call home new_home before new → IsTimed tells old ready
      → (ready.events.items ≡ old.events.items) × (ready.opened.value ≡ old.opened.value) × (ready.source.value ≡ old.source.value)
      → (before.clock ≡ ready.clock) × (before.events.items ≡ ready.events.items) × (before.opened.value ≡ ready.opened.value) × (before.source.value ≡ ready.source.value)
      → Act ready.world before.world → IsCalled ask staged uploaded listed call → Entered tells ask staged uploaded listed Act home new_home old new
  entered {tells} ask staged uploaded listed Act call home new_home old ready before new noted timed same stays acts called =
      let world : before.world ≡ new.world = sym noted.world in
      let clock : new.clock ≡ ready.clock = noted.clock ∙ stays.0 in
      let events : before.events.items ≡ old.events.items = stays.1 ∙ same.0 in
      record {
        clock = timed.clock;
        asked = record {
          low = timed.asked.low;
          as_told = timed.asked.as_told;
          still_tells = λ some. subst (λ (k : K). IsSome (tells k)) (sym clock) (timed.asked.still_tells some);
        };
        acts = subst (λ (w : Keeping). Act (set_to timed.clock old.world) w) world (subst (λ (w : Keeping). Act w before.world) timed.world acts);
        event = noted.event;
        called = subst (λ (c : Call). IsCalled ask staged uploaded listed c) (sym noted.call_is) called;
        base_is = noted.base_is ∙ ap (λ (l : List (Event S)). base_of home (length l)) events;
        home_is = noted.home_is;
        left_is = noted.left_is ∙ world;
        events = noted.events ∙ ap (λ (l : List (Event S)). l ++ noted.event ∷ []) events;
        opened = noted.opened ∙ stays.2 ∙ same.1;
        source = noted.source ∙ stays.3 ∙ same.2;
      }
