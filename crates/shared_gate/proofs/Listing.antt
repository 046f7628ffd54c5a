-- A listing of one of many: its event keeps the page that it gave.
use Rattle.std.proofs.Common.{◌≡◌, ℕ, List, refl, subst}
use Rattle.std.specs.Prelude.{Option, Some, None, Result, Ok, Err, ⊤}
use Rattle.source_log.specs.Log.{Log}
use Rattle.index_world.specs.Answering.{Answered}
use Rattle.index_world.specs.Calls.{Trouble}
use Rattle.index_world.specs.CallsMade.{of_sweep_list}
use Rattle.index_world.specs.Collecting.{IsSweepPage, list_call}
use Rattle.index_world.specs.Core.{Core}
use Rattle.index_world.specs.Gate.{Does, IsTrouble, SaysWith}
use Rattle.index_world.specs.declared.tokens.SweepPage.{SweepPage}
use Rattle.index_world.specs.declared.world_error.WorldError.{WorldError}
use Rattle.shared_gate.specs.Acts.{page_given}
use Rattle.shared_gate.specs.Recording.{Acting, Always, Answering, IsPageOf, Records}
use Rattle.shared_gate.specs.Sharing.{Passes, Seat, SeatAdds, SeatOwns, SeatStands}
use Rattle.shared_gate.specs.declared.recorded.Recorded.{Recorded}
use Rattle.shared_gate.proofs.Doing.{Took, does_of, does_with, given_back}
use Rattle.shared_gate.proofs.Owners.{IsLent}
use Rattle.shared_gate.proofs.Plain.{records_with}
use Rattle.shared_gate.proofs.Premises.{always_stays, carries}
use Rattle.shared_gate.proofs.Rooms.{no_room_to_list}
use Rattle.shared_gate.proofs.Turning.{GivenBack, none_fresh}

-- the page is one of the core that the call left
page_listed : (behind : Option (List ℕ)) (result : Result SweepPage WorldError) (after : Core) (answer : Result ⊤ Trouble)
    → SaysWith IsTrouble (λ (a : SweepPage) (done : ⊤) (c : Core). IsSweepPage behind a c) result answer after → (page : SweepPage) → page_given result ≡ Some page → IsPageOf (of_sweep_list behind) page after
page_listed behind (Ok given) after (Ok done) says page is =
    let same : given ≡ page = cc is in
    record { behind = behind; is = refl; page_is = subst (λ (p : SweepPage). IsSweepPage behind p after) same says }
page_listed behind (Ok given) after (Err e) says page is = absurd says
page_listed behind (Err error) after answer says page is = absurd (cc is)

module _ {Lock S K L : Type 0} (told : L → Option Log) where
  pub back_list : {tells : K → Option ℕ} (seat : Seat Lock S L) (new_home : Option ℕ) (lent last : Recorded S K L) (behind : Option (List ℕ)) (answered : Answered) (result : Result SweepPage WorldError)
      (l : IsLent told seat lent) → Records tells (of_sweep_list behind) None None (page_given result) (Answering answered (Acting Always None list_call IsTrouble (λ core. IsSweepPage behind) result)) result seat.home new_home lent last
      → GivenBack told seat new_home lent last
  back_list seat new_home lent last behind answered result l r =
      given_back told (λ (x : Seat Lock S L). x) seat seat new_home lent last (of_sweep_list behind) None None (page_given result) list_call IsTrouble (λ core a done after. IsSweepPage behind a after) Always answered result l
      (records_with Always None list_call IsTrouble (λ core. IsSweepPage behind) (of_sweep_list behind) None (page_given result) answered result seat.home new_home lent last r)
      (carries told seat lent Always always_stays) (λ log b core s. tt) (λ fate core. refl) (λ mid after answer says number bad. none_fresh mid after number bad)
      (λ mid after answer says page is. page_listed behind result after answer says page is) (λ number bad. absurd (cc bad))

  pub does_list : {W : Type 0} {tells : K → Option ℕ} (seat : W → Seat Lock S L) (old new : W) (new_home : Option ℕ) (lent last : Recorded S K L) (l : IsLent told (seat old) lent) (back : GivenBack told (seat old) new_home lent last) (t : Took told (seat old) (seat new) new_home lent last)
      (behind : Option (List ℕ)) (answered : Answered) (result : Result SweepPage WorldError)
      → Records tells (of_sweep_list behind) None None (page_given result) (Answering answered (Acting Always None list_call IsTrouble (λ core. IsSweepPage behind) result)) result (seat old).home new_home lent last
      → (core : Core) (log : Log) → SeatStands told (seat old) core log
      → Does (λ w c g. SeatStands told (seat w) c g) Passes (λ w n. SeatOwns (seat w) n) (λ a made b. SeatAdds (seat a) made (seat b)) None (of_sweep_list behind) list_call IsTrouble (IsSweepPage behind) result core log old new
  does_list seat old new new_home lent last l back t behind answered result r core log s =
      does_of _ Passes _ _ None (of_sweep_list behind) list_call IsTrouble (IsSweepPage behind) result core log old new
      (does_with told seat old new new_home lent last (of_sweep_list behind) None None (page_given result) list_call IsTrouble (λ c a done after. IsSweepPage behind a after) Always answered result l
      (records_with Always None list_call IsTrouble (λ core. IsSweepPage behind) (of_sweep_list behind) None (page_given result) answered result (seat old).home new_home lent last r) back t
      (carries told (seat old) lent Always always_stays) (λ a done after. IsSweepPage behind a after) no_room_to_list core log s tt (λ met clock a b after e h. h))
