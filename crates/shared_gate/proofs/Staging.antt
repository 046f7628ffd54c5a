-- A Stage of one of many: its number is above all that were staged before, and its own.
use Rattle.std.proofs.Common.{◌≡◌, ◌⊎◌, ◌<◌, ◌≤◌, ℕ, List, [], ◌∷◌, ◌++◌, length, slice_get, refl, sym, ap, ◌∙◌, subst, inl, inr, true}
use Rattle.std.specs.Prelude.{Option, Some, None, Result, Ok, Err, ⊤, IfOk}
use Rattle.std.specs.declared.alloc.AllocError.{AllocError}
use Rattle.meta_journal.specs.declared.entry.Entry.{Entry}
use Rattle.meta_store.specs.History.{history, delta_of}
use Rattle.meta_store.specs.Rows.{rows}
use Rattle.source_log.specs.Log.{Log}
use Rattle.source_checkpoint.specs.declared.delta.Part.{Part}
use Rattle.split_states.specs.Rows.{row_at}
use Rattle.split_states.specs.declared.facts.RowFacts.{RowFacts}
use Rattle.split_states.specs.declared.rows.Row.{Row}
use Rattle.index_world.specs.Answering.{Answered}
use Rattle.index_world.specs.CallsMade.{of_stage}
use Rattle.index_world.specs.Core.{Core, HasStagedIn, journal_of, last_count}
use Rattle.index_world.specs.Calls.{Unmade}
use Rattle.index_world.specs.Gate.{Does, IsUnmade, SaysWith, WasStaged, stage_call}
use Rattle.index_world.specs.Index.{has_staged, HasStaged}
use Rattle.index_world.specs.declared.tokens.Staged.{Staged}
use Rattle.index_world.specs.declared.world_error.WorldError.{WorldError}
use Rattle.index_world.specs.declared.world_error.WorldError.TheVariants as errors
use Rattle.shared_gate.specs.Acts.{number_given}
use Rattle.shared_gate.specs.Recording.{Acting, Always, Answering, Entered, IsNewNumber, Records, Unheard}
use Rattle.shared_gate.specs.Sharing.{Passes, Seat, SeatAdds, SeatOwns, SeatStands}
use Rattle.shared_gate.specs.declared.recorded.Event.{Event}
use Rattle.shared_gate.specs.declared.recorded.Recorded.{Recorded}
use Rattle.shared_gate.proofs.Doing.{Short, Took, does_of, does_with, given_back}
use Rattle.shared_gate.proofs.Owners.{IsLent}
use Rattle.shared_gate.proofs.Plain.{records_with}
use Rattle.shared_gate.proofs.Premises.{always_stays, carries}
use Rattle.shared_gate.proofs.Turning.{GivenBack, last_at, none_listed}

-- what a number that was staged was staged with: of one without a row, any facts
staged_with : (entries : List Entry) (n : ℕ) (facts : RowFacts) → has_staged entries n ≡ true → (f : RowFacts) × HasStaged entries n (delta_of (history entries) n) f
staged_with entries n facts staged = by (row_at (rows (history entries)) n) refl
  where
    by : (o : Option Row) → row_at (rows (history entries)) n ≡ o → (f : RowFacts) × HasStaged entries n (delta_of (history entries) n) f
    by None e = (facts, record { staged = staged; noted = refl; kept = λ row found. (let bad : ◌≡◌ {A = Option Row} None (Some row) = sym e ∙ found in absurd (cc bad)) })
    by (Some r) e = (r.facts, record { staged = staged; noted = refl; kept = λ row found. (let both : ◌≡◌ {A = Option Row} (Some r) (Some row) = sym e ∙ found in let same : r ≡ row = cc both in ap (λ (x : Row). x.facts) (sym same)) })

-- the number is new at its turn
pub stage_fresh : (delta : List Part) (facts : RowFacts) (result : Result Staged WorldError) (mid after : Core) (answer : Result ⊤ Unmade)
    → SaysWith IsUnmade (λ (a : Staged) (done : ⊤) (c : Core). WasStaged mid delta facts a c) result answer after → (number : ℕ) → number_given result ≡ Some number → IsNewNumber mid after number
stage_fresh delta facts (Ok staged) mid after (Ok done) says number is =
    let same : staged.number ≡ number = cc is in
    record {
      apart = λ n h. subst (λ (k : ℕ). n < k) same (says.apart n h);
      delta = delta;
      facts = facts;
      staged = subst (λ (k : ℕ). HasStagedIn after k delta facts) same says.in_hand.staged;
    }
stage_fresh delta facts (Ok staged) mid after (Err e) says number is = absurd says
stage_fresh delta facts (Err error) mid after answer says number is = absurd (cc is)

module _ {Lock S K L : Type 0} (told : L → Option Log) where
  pub back_stage : {tells : K → Option ℕ} (seat : Seat Lock S L) (new_home : Option ℕ) (lent last : Recorded S K L) (delta : List Part) (facts : RowFacts) (answered : Answered) (result : Result Staged WorldError)
      (l : IsLent told seat lent) → Records tells (of_stage delta facts) (number_given result) None None (Answering answered (Acting Always None (stage_call delta facts) IsUnmade (λ core. WasStaged core delta facts) result)) result seat.home new_home lent last
      → GivenBack told seat new_home lent last
  back_stage seat new_home lent last delta facts answered result l r =
      given_back told (λ (x : Seat Lock S L). x) seat seat new_home lent last (of_stage delta facts) (number_given result) None None (stage_call delta facts) IsUnmade (λ core a done after. WasStaged core delta facts a after) Always answered result l
      (records_with Always None (stage_call delta facts) IsUnmade (λ core. WasStaged core delta facts) (of_stage delta facts) (number_given result) None answered result seat.home new_home lent last r)
      (carries told seat lent Always always_stays) (λ log b core s. tt) (λ fate core. refl) (λ mid after answer says number is. stage_fresh delta facts result mid after answer says number is) (λ mid after answer says page bad. none_listed (of_stage delta facts) after page bad) (λ number bad. absurd (cc bad))

  module _ {W : Type 0} {tells : K → Option ℕ} (seat : W → Seat Lock S L) (old new : W) (new_home : Option ℕ) (lent last : Recorded S K L) (l : IsLent told (seat old) lent) (back : GivenBack told (seat old) new_home lent last) (t : Took told (seat old) (seat new) new_home lent last)
      (delta : List Part) (facts : RowFacts) (answered : Answered) (result : Result Staged WorldError)
      (r : Records tells (of_stage delta facts) (number_given result) None None (Answering answered (Acting Always None (stage_call delta facts) IsUnmade (λ core. WasStaged core delta facts) result)) result (seat old).home new_home lent last) where
    -- THE NUMBER IS ITS OWN
    pub owns_staged : IfOk result (λ staged. SeatOwns (seat new) staged.number)
    owns_staged = by result refl r
      where
        by : (x : Result Staged WorldError) → result ≡ x → Unheard result (seat old).home new_home lent last ⊎ Entered tells (of_stage delta facts) (number_given result) None None (Answering answered (Acting Always None (stage_call delta facts) IsUnmade (λ core. WasStaged core delta facts) result)) (seat old).home new_home lent last
            → IfOk x (λ staged. SeatOwns (seat new) staged.number)
        by (Err error) e y = tt
        by (Ok staged) e (inl u) = absurd (let bad : ◌≡◌ {A = Result Staged WorldError} (Ok staged) (Err (errors.Memory u.error)) = sym e ∙ u.is in cc bad)
        by (Ok staged) e (inr x) =
            let n : ℕ = length lent.events.items in
            let grew : (seat new).seen ≡ lent.events.items ++ x.event ∷ [] = t.seen ∙ x.events in
            record {
              home = x.event.base;
              is = t.home ∙ x.home_is;
              staged = record {
                place = n;
                event = x.event;
                there = ap (λ (es : List (Event S)). slice_get es n) grew ∙ last_at lent.events.items x.event;
                number_is = x.called.staged_is ∙ ap number_given e;
                base_is = refl;
              };
            }

    pub does_stage : ((error : AllocError) (core : Core) → core.store_faults ≤ last_count → Short (stage_call delta facts) IsUnmade error core) → (core : Core) (log : Log) → SeatStands told (seat old) core log
        → Does (λ w c g. SeatStands told (seat w) c g) Passes (λ w n. SeatOwns (seat w) n) (λ a made b. SeatAdds (seat a) made (seat b)) None (of_stage delta facts) (stage_call delta facts) IsUnmade (WasStaged core delta facts) result core log old new
    does_stage short core log s =
        does_of _ Passes _ _ None (of_stage delta facts) (stage_call delta facts) IsUnmade (WasStaged core delta facts) result core log old new
        (does_with told seat old new new_home lent last (of_stage delta facts) (number_given result) None None (stage_call delta facts) IsUnmade (λ c a done after. WasStaged c delta facts a after) Always answered result l
        (records_with Always None (stage_call delta facts) IsUnmade (λ c. WasStaged c delta facts) (of_stage delta facts) (number_given result) None answered result (seat old).home new_home lent last r) back t
        (carries told (seat old) lent Always always_stays) (λ a done after. WasStaged core delta facts a after) short core log s tt
        (λ met clock a done after e h. record {
          number = h.number;
          apart = λ n was. (let with = staged_with (journal_of core) n facts was in h.apart n ((met.staged n (delta_of (history (journal_of core)) n) with.0 with.1).staged));
          opstamp = h.opstamp;
          in_hand = h.in_hand;
        }))
