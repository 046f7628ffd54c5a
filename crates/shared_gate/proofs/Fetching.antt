-- A fetch of one of many, under the configuration that the world has.
use Rattle.std.proofs.Common.{◌≡◌, ◌⊎◌, ℕ, refl, sym, ◌∙◌, subst, inl, inr}
use Rattle.std.specs.Prelude.{Option, Some, None, Result}
use Rattle.index_config.specs.declared.config.IndexConfig.{IndexConfig}
use Rattle.object_store.specs.declared.store.Piece.{Piece}
use Rattle.source_log.specs.Log.{Log}
use Rattle.index_world.specs.Answering.{Answered}
use Rattle.index_world.specs.Calls.{fetched_from}
use Rattle.index_world.specs.CallsMade.{of_fetch}
use Rattle.index_world.specs.Core.{Core, IsConfigured}
use Rattle.index_world.specs.Gate.{Does, grace_of, IsPieceGiven, IsUnfetched}
use Rattle.index_world.specs.World.{Keeping}
use Rattle.index_world.specs.declared.tokens.Plan.{Plan}
use Rattle.index_world.specs.declared.world_error.WorldError.{WorldError}
use Rattle.index_world.proofs.Gates.{clocked}
use Rattle.shared_gate.specs.Acts.{FetchActs}
use Rattle.shared_gate.specs.Recording.{Acting, Always, Answering, Entered, Records, Unheard, clocked_at, set_to}
use Rattle.shared_gate.specs.Sharing.{Passes, Seat, SeatAdds, SeatOwns, SeatStands, last_core}
use Rattle.shared_gate.specs.declared.recorded.Recorded.{Recorded}
use Rattle.shared_gate.proofs.Doing.{Took}
use Rattle.shared_gate.proofs.Owners.{IsLent, meets}
use Rattle.shared_gate.proofs.Plain.{does_given, plain_back}
use Rattle.shared_gate.proofs.Premises.{always_stays}
use Rattle.shared_gate.proofs.Rooms.{no_room_to_fetch}
use Rattle.shared_gate.proofs.Turning.{GivenBack, untouched_back}

-- under one configuration
abbrev FetchedUnder : Plan → (number from len : ℕ) → Result Piece WorldError → IndexConfig → Keeping → Keeping → Type 0
FetchedUnder plan number from len result config = Acting Always None (fetched_from (grace_of config plan) number) IsUnfetched (λ core. IsPieceGiven number from len) result

module _ {S K L : Type 0} (plan : Plan) (number from len : ℕ) (answered : Answered) (result : Result Piece WorldError) where
  under : {tells : K → Option ℕ} (config : IndexConfig) (home new_home : Option ℕ) (old new : Recorded S K L) (x : Entered tells (of_fetch number from len) None None None (Answering answered (FetchActs plan number from len result)) home new_home old new) → x.acts.0.config ≡ config
      → Entered tells (of_fetch number from len) None None None (Answering answered (FetchedUnder plan number from len result config)) home new_home old new
  under config home new_home old new x same = record {
    clock = x.clock;
    asked = x.asked;
    acts = (subst (λ (c : IndexConfig). FetchedUnder plan number from len result c (set_to x.clock old.world) new.world) same x.acts.0.acts, x.acts.1);
    event = x.event;
    called = x.called;
    base_is = x.base_is;
    home_is = x.home_is;
    left_is = x.left_is;
    events = x.events;
    opened = x.opened;
    source = x.source;
  }

module _ {Lock S K L : Type 0} (told : L → Option Log) (plan : Plan) (number from len : ℕ) (answered : Answered) (result : Result Piece WorldError) where
  pub back_fetch : {tells : K → Option ℕ} (seat : Seat Lock S L) (new_home : Option ℕ) (lent last : Recorded S K L) (l : IsLent told seat lent)
      → Records tells (of_fetch number from len) None None None (Answering answered (FetchActs plan number from len result)) result seat.home new_home lent last → GivenBack told seat new_home lent last
  back_fetch seat new_home lent last l (inl u) = untouched_back told seat new_home lent last l u.nothing
  back_fetch seat new_home lent last l (inr x) =
      let config = x.acts.0.config in
      plain_back told seat new_home lent last (of_fetch number from len) (fetched_from (grace_of config plan) number) IsUnfetched (λ core. IsPieceGiven number from len) answered result l
      (inr (under plan number from len answered result config seat.home new_home lent last x refl)) (λ fate core. (grace_of config plan, refl))

  pub does_fetch : {W : Type 0} {tells : K → Option ℕ} (seat : W → Seat Lock S L) (old new : W) (new_home : Option ℕ) (lent last : Recorded S K L) (l : IsLent told (seat old) lent) (back : GivenBack told (seat old) new_home lent last) (t : Took told (seat old) (seat new) new_home lent last)
      → Records tells (of_fetch number from len) None None None (Answering answered (FetchActs plan number from len result)) result (seat old).home new_home lent last
      → (core : Core) (log : Log) (config : IndexConfig) → SeatStands told (seat old) core log → IsConfigured config core
      → Does (λ w c g. SeatStands told (seat w) c g) Passes (λ w n. SeatOwns (seat w) n) (λ a made b. SeatAdds (seat a) made (seat b)) None (of_fetch number from len) (fetched_from (grace_of config plan) number) IsUnfetched (IsPieceGiven number from len) result core log old new
  does_fetch {W} {tells} seat old new new_home lent last l back t r core log config s configured =
      does_given told seat old new new_home lent last l back t (of_fetch number from len) (fetched_from (grace_of config plan) number) IsUnfetched (IsPieceGiven number from len) Always answered result
      (by r) always_stays (λ error c within. no_room_to_fetch (grace_of config plan) number error c within) core log s tt
    where
      by : Unheard result (seat old).home new_home lent last ⊎ Entered tells (of_fetch number from len) None None None (Answering answered (FetchActs plan number from len result)) (seat old).home new_home lent last
          → Records tells (of_fetch number from len) None None None (Answering answered (FetchedUnder plan number from len result config)) result (seat old).home new_home lent last
      by (inl u) = inl u
      by (inr x) =
          let met = meets told (seat old) lent l core log s in
          let there = last_core core met.steps in
          let one = x.acts.0.configured (clocked_at x.clock there) log (clocked lent.world there log x.clock x.clock met.stands x.asked.low refl) in
          let two = met.goes.keeps.configured config configured in
          let both : ◌≡◌ {A = Option IndexConfig} (Some x.acts.0.config) (Some config) = sym one ∙ two in
          let same : x.acts.0.config ≡ config = cc both in
          inr (under plan number from len answered result config (seat old).home new_home lent last x same)
