-- A delete worker and a merger, one after the other, until neither finds anything to do.
use Rattle.std.proofs.Common.{◌≡◌, ◌⊎◌, inl, inr, ℕ, ◌+◌, ◌≤◌, max, Bool, true, false, List, [], ◌∷◌, ◌++◌, length, refl, sym, ap, ◌∙◌, subst, append_assoc, arith}
use Rattle.std.proofs.lemmas.List.{append-nil, length-append}
use Rattle.std.specs.Prelude.{Ok, Err, ⊤}
use Rattle.meta_journal.specs.declared.entry.Entry.{Entry}
use Rattle.meta_store.proofs.Numbers.{history-snoc}
use Rattle.meta_store.specs.History.{history, moment_of}
use Rattle.source_log.specs.Log.{Log}
use Rattle.index_world.specs.Core.{Core, Nobody}
use Rattle.index_world.specs.DirectLaws.{stays_as_is}
use Rattle.index_world.specs.World.{GoesFor, Keeping, WorldStands}
use Rattle.index_world.specs.declared.world_error.WorldError.{WorldError}
use Rattle.index_world.specs.declared.world_error.WorldError.TheVariants as errors
use Rattle.index_world.proofs.Ran.{goes_then, steps_more}
use Rattle.index_world.specs.Ran.{AreSteps}
use Rattle.upkeep_run.proofs.Holding.{sound_legal}
use Rattle.upkeep_run.specs.Steps.{rows_in}
use Rattle.upkeep_run.specs.declared.work.Aim.{Aim}
use Rattle.upkeep_run.specs.declared.work.Aim.TheVariants.{Deleting, Merging}
use Rattle.thread_run.specs.Resting.{IsStop, Rests, RestsAll, Worked}
use Rattle.thread_run.specs.Settling.{AreTurns, HadWork, IsAtRest, IsHindered, IsUnasked, WorksByTurns, WorksFrom, moment_behind}
use Rattle.thread_run.specs.declared.settling.Stop.{Stop}
use Rattle.thread_run.specs.declared.settling.Stop.TheVariants as stops
use Rattle.thread_run.proofs.AtRest.{at_rest}
use Rattle.thread_run.proofs.Resting.{had_on, sound_core}

-- ---- what is said from a core on is said from an earlier one on

-- the greatest moment of entries falls nowhere
moment_grows : (es more : List Entry) → moment_of (history es) ≤ moment_of (history (es ++ more))
moment_grows es [] = let same = ap (λ (xs : List Entry). moment_of (history xs)) (append-nil es) in omega (arith, same)
moment_grows es (entry ∷ more) =
    let one : moment_of (history (es ++ entry ∷ [])) ≡ max (moment_of (history es)) entry.moment = ap moment_of (history-snoc es entry) in
    let rest = moment_grows (es ++ entry ∷ []) more in
    let same : moment_of (history ((es ++ entry ∷ []) ++ more)) ≡ moment_of (history (es ++ entry ∷ more)) = ap (λ (xs : List Entry). moment_of (history xs)) (append_assoc es (entry ∷ []) more) in
    omega (arith, one, rest, same)

module _ (start core : Core) (on : GoesFor Nobody start core) (u : IsUnasked start.moment core) where
  abbrev before : List Entry
  before = on.grown.0

  grown : core.history ≡ start.history ++ before
  grown = on.grown.1

  -- no clock was asked in between
  moment_same : (more : List Entry) → moment_behind core.moment (core.history ++ more) ≡ moment_behind start.moment (core.history ++ more)
  moment_same more =
      let up = moment_grows core.history more in
      let here = u.moment_is in
      omega (arith, up, here)

  unasked_from : (after : Core) → GoesFor Nobody core after → IsUnasked core.moment after → IsUnasked start.moment after
  unasked_from after goes v =
      let P : List Entry → Type 0 = λ es. moment_behind core.moment es ≡ moment_behind start.moment es in
      record { frozen = v.frozen; moment_is = v.moment_is ∙ subst P (sym goes.grown.1) (moment_same goes.grown.0) }

  had_from : (after : Core) → HadWork core after → HadWork start after
  had_from after h =
      let front : core.history ++ h.more ≡ start.history ++ (before ++ h.more) = ap (λ es. es ++ h.more) grown ∙ append_assoc start.history before h.more in
      record {
        more = before ++ h.more;
        behind = h.behind;
        history_is = h.history_is ∙ ap (λ es. es ++ h.behind) front;
        restless = λ r.
            let P : List Entry → Type 0 = λ es. IsAtRest es (moment_behind start.moment es) in
            h.restless (subst (IsAtRest (core.history ++ h.more)) (sym (moment_same h.more)) (subst P (sym front) r));
      }

  hindered_from : (after : Core) (error : WorldError) → IsHindered error core after → IsHindered error start after
  hindered_from after (errors.StoreFault low high) h = let up = on.faults in let past = h.0 in (omega (arith, up, past), h.1, h.2)
  hindered_from after errors.Full h = (had_from after h.0, h.1)
  hindered_from after (errors.Expired planned_at now) h = absurd h
  hindered_from after (errors.Memory refused) h = absurd h
  hindered_from after (errors.Refused refusal) h = absurd h
  hindered_from after (errors.Missing key) h = absurd h
  hindered_from after (errors.Corrupt key) h = absurd h
  hindered_from after (errors.Foreign key) h = absurd h
  hindered_from after errors.NoIndex h = absurd h
  hindered_from after errors.IndexExists h = absurd h
  hindered_from after (errors.BadConfig bad) h = absurd h

  stop_from : (after : Core) (stop : Stop) → IsStop stop core after → IsStop stop start after
  stop_from after (stops.Refused refusal) h = (had_from after h.0, h.1)
  stop_from after (stops.Fault error) h = hindered_from after error h
  stop_from after (stops.Memory refused) h = tt

-- ---- a delete worker and a merger by turns

-- whole rounds of both
abbrev AreWhole : List Aim → Type 0
AreWhole [] = ⊤
AreWhole (aim ∷ []) = ⊥
AreWhole (aim ∷ next ∷ more) = (aim ≡ Deleting) × (next ≡ Merging) × AreWhole more

whole_turns : (aims : List Aim) → AreWhole aims → AreTurns aims
whole_turns [] w = tt
whole_turns (aim ∷ []) w = absurd w
whole_turns (aim ∷ next ∷ more) w = (w.0, w.1, whole_turns more w.2)

one_turn : (aims : List Aim) → AreWhole aims → AreTurns (aims ++ Deleting ∷ [])
one_turn [] w = refl
one_turn (aim ∷ []) w = absurd w
one_turn (aim ∷ next ∷ more) w = (w.0, w.1, one_turn more w.2)

both_turns : (aims : List Aim) → AreWhole aims → AreWhole ((aims ++ Deleting ∷ []) ++ Merging ∷ [])
both_turns [] w = (refl, refl, tt)
both_turns (aim ∷ []) w = absurd w
both_turns (aim ∷ next ∷ more) w = (w.0, w.1, both_turns more w.2)

module _ (log : Log) where
  abbrev pub ByTurns : Core → List Aim → Core → Type 0
  ByTurns core aims after = AreSteps (λ from aim to. WorksFrom aim log from to) core aims after

  by_more : (core mid after : Core) (aims : List Aim) (aim : Aim) → ByTurns core aims mid → WorksFrom aim log mid after → ByTurns core (aims ++ aim ∷ []) after
  by_more core mid after aims aim are works = steps_more (λ from a to. WorksFrom a log from to) core mid after aims aim are works

-- ---- rounds

-- so many rounds from a core on, in each of which there was something to do
pub record Rounds (start : Core) (log : Log) (rounds : ℕ) (world : Keeping) : Type 0 where
  pub core : Core
  pub stands : WorldStands world core log
  pub aims : List Aim
  pub whole : AreWhole aims
  pub are : ByTurns log start aims core
  pub goes_on : GoesFor Nobody start core
  pub unasked : IsUnasked start.moment core
  pub longer : length start.history + rounds ≤ length core.history
  pub had : (rounds ≡ 0) ⊎ HadWork start core

pub no_round : (start : Core) (log : Log) (world : Keeping) → start.frozen ≡ true → WorldStands world start log → Rounds start log 0 world
no_round start log world frozen s =
    let greatest = s.timely.greatest in
    record {
      core = start;
      stands = s;
      aims = [];
      whole = tt;
      are = refl;
      goes_on = stays_as_is Nobody start;
      unasked = record { frozen = frozen; moment_is = omega (arith, greatest) };
      longer = omega arith;
      had = inl refl;
    }

module _ (start : Core) (log : Log) (rounds : ℕ) (world : Keeping) (r : Rounds start log rounds world) where
  pub deleting_stops : (stop : Stop) (new : Keeping) → Rests Deleting (Err stop) r.core log new → RestsAll (Err stop) start log new
  deleting_stops stop new d =
      record {
        after = d.after;
        works = record { aims = r.aims ++ Deleting ∷ []; turns = one_turn r.aims r.whole; are = by_more log start r.core d.after r.aims Deleting r.are d.works };
        goes_on = goes_then start r.core d.after r.goes_on d.goes_on;
        stands = d.stands;
        unasked = unasked_from start r.core r.goes_on r.unasked d.after d.goes_on d.unasked;
        ended = stop_from start r.core r.goes_on r.unasked d.after stop d.ended;
      }

  module _ (mid : Keeping) (deleted : Bool) (d : Rests Deleting (Ok deleted) r.core log mid) where
    mid_on : GoesFor Nobody start d.after
    mid_on = goes_then start r.core d.after r.goes_on d.goes_on

    mid_are : ByTurns log start (r.aims ++ Deleting ∷ []) d.after
    mid_are = by_more log start r.core d.after r.aims Deleting r.are d.works

    both_are : (m : Core) → WorksFrom Merging log d.after m → ByTurns log start ((r.aims ++ Deleting ∷ []) ++ Merging ∷ []) m
    both_are m works = by_more log start d.after m (r.aims ++ Deleting ∷ []) Merging mid_are works

    both_work : (m : Core) → WorksFrom Merging log d.after m → WorksByTurns log start m
    both_work m works = record { aims = (r.aims ++ Deleting ∷ []) ++ Merging ∷ []; turns = whole_turns ((r.aims ++ Deleting ∷ []) ++ Merging ∷ []) (both_turns r.aims r.whole); are = both_are m works }

    pub mid_unasked : IsUnasked start.moment d.after
    mid_unasked = unasked_from start r.core r.goes_on r.unasked d.after d.goes_on d.unasked

    pub merging_stops : (stop : Stop) (new : Keeping) → Rests Merging (Err stop) d.after log new → RestsAll (Err stop) start log new
    merging_stops stop new m =
        record {
          after = m.after;
          works = both_work m.after m.works;
          goes_on = goes_then start d.after m.after mid_on m.goes_on;
          stands = m.stands;
          unasked = unasked_from start d.after mid_on mid_unasked m.after m.goes_on m.unasked;
          ended = stop_from start d.after mid_on mid_unasked m.after stop m.ended;
        }

    module _ (new : Keeping) (merged : Bool) (m : Rests Merging (Ok merged) d.after log new) where
      last_on : GoesFor Nobody start m.after
      last_on = goes_then start d.after m.after mid_on m.goes_on

      last_unasked : IsUnasked start.moment m.after
      last_unasked = unasked_from start d.after mid_on mid_unasked m.after m.goes_on m.unasked

      -- NEITHER HAD ANYTHING TO DO
      pub both_rest : deleted ≡ false → merged ≡ false → RestsAll (Ok tt) start log new
      both_rest no_delete no_merge =
          let still : m.after ≡ d.after = (subst (λ b. Worked b d.after m.after) no_merge m.ended.worked_is) d.ended.sure in
          let s = sound_core new m.after log m.stands in
          record {
            after = m.after;
            works = both_work m.after m.works;
            goes_on = last_on;
            stands = m.stands;
            unasked = last_unasked;
            ended = (at_rest m.after (sound_legal m.after log s) s.opened (ap (λ (c : Core). rows_in Deleting c) still ∙ d.ended.none) m.ended.none, m.ended.sure);
          }

      grows : (a b : Core) → GoesFor Nobody a b → length a.history ≤ length b.history
      grows a b on = let e = ap (λ (es : List Entry). length es) on.grown.1 ∙ length-append a.history on.grown.0 in omega (arith, e)

      by_deletes : Worked true r.core d.after → Rounds start log (rounds + 1) new
      by_deletes did =
          let was = r.longer in
          let more = did.1 in
          let up = grows d.after m.after m.goes_on in
          record {
            core = m.after;
            stands = m.stands;
            aims = (r.aims ++ Deleting ∷ []) ++ Merging ∷ [];
            whole = both_turns r.aims r.whole;
            are = both_are m.after m.works;
            goes_on = last_on;
            unasked = last_unasked;
            longer = omega (arith, was, more, up);
            had = inr (had_on start d.after m.after m.goes_on.grown.0 m.goes_on.grown.1 (had_from start r.core r.goes_on r.unasked d.after did.0));
          }

      by_merges : Worked true d.after m.after → Rounds start log (rounds + 1) new
      by_merges did =
          let was = r.longer in
          let up = grows r.core d.after d.goes_on in
          let more = did.1 in
          record {
            core = m.after;
            stands = m.stands;
            aims = (r.aims ++ Deleting ∷ []) ++ Merging ∷ [];
            whole = both_turns r.aims r.whole;
            are = both_are m.after m.works;
            goes_on = last_on;
            unasked = last_unasked;
            longer = omega (arith, was, more, up);
            had = inr (had_from start d.after mid_on mid_unasked m.after did.0);
          }

      pub round_more : (deleted ≡ true) ⊎ (merged ≡ true) → Rounds start log (rounds + 1) new
      round_more (inl some) = by_deletes (subst (λ b. Worked b r.core d.after) some d.ended.worked_is)
      round_more (inr some) = by_merges (subst (λ b. Worked b d.after m.after) some m.ended.worked_is)

  -- so many rounds fill a journal
  pub rounds_fill : 10000000 ≤ rounds → RestsAll (Err (stops.Fault errors.Full)) start log world
  rounds_fill many =
      let long = r.longer in
      record { after = r.core; works = record { aims = r.aims; turns = whole_turns r.aims r.whole; are = r.are }; goes_on = r.goes_on; stands = r.stands; unasked = r.unasked; ended = (had_some r.had, omega (arith, many, long)) }
    where
      had_some : (rounds ≡ 0) ⊎ HadWork start r.core → HadWork start r.core
      had_some (inl none) = absurd (omega (arith, many, none))
      had_some (inr had) = had
