-- What a worker holds, from one call of a world to the next.
use Rattle.std.proofs.Common.{◌≡◌, ℕ, List, [], ◌∷◌, sym, ◌∙◌, subst}
use Rattle.meta_store.specs.History.{history}
use Rattle.meta_store.specs.Ledgers.{ledger}
use Rattle.meta_store.specs.State.{Legal}
use Rattle.source_log.specs.Log.{Log}
use Rattle.split_bundle.specs.declared.placed.Placed.{Placed}
use Rattle.split_states.specs.declared.rows.Row.{Row}
use Rattle.index_config.specs.declared.config.IndexConfig.{IndexConfig}
use Rattle.index_world.proofs.Replaced.{fetched_on, known_on, made_alike, marks_on, planned_on, same_cover}
use Rattle.index_world.proofs.Taken.{legal_unread}
use Rattle.index_world.specs.Config.{reads}
use Rattle.index_world.specs.Core.{Core, IsUploadedIn, Nobody}
use Rattle.index_world.specs.Gate.{IsSoundCore}
use Rattle.index_world.specs.Replacing.{IsReplaceable, WerePlanned, joined}
use Rattle.index_world.specs.SplitFile.{file_of}
use Rattle.index_world.specs.World.{GoesFor}
use Rattle.upkeep_run.specs.Standing.{HoldsNone, HoldsOwn}
use Rattle.upkeep_run.specs.declared.work.WorkerPlace.{WorkerPlace as HeldPlace}
use Rattle.upkeep_run.specs.declared.work.WorkerPlace.TheVariants as places
use Rattle.upkeep_run.specs.Places.{WorkerHeld, IsHeldMade, IsRowInHand, IsStagedHeld, IsUploadedHeld, IsWork, Work, held_facts, held_file, marks_of, until_of}
use Rattle.meta_store.specs.Left.{HasMarks}
use Rattle.std.specs.List.{AllZip}

pub sound_legal : (core : Core) (log : Log) → IsSoundCore core log → Legal reads (history core.history)
sound_legal core log s = legal_unread core.history core.standing s.world.index.stands.legal

module _ (core after : Core) (log : Log) (g : GoesFor Nobody core after) (legal : Legal reads (history after.history)) where
  pub row_stays : (config : IndexConfig) (until : ℕ) (row : Row) (documents : List Placed) → IsRowInHand config until log core row documents → IsRowInHand config until log after row documents
  row_stays config until row documents i =
      record {
        planned = g.planned until row.number (file_of config documents) i.planned;
        found = g.keeps.uploaded row.number (file_of config documents) i.found;
        marks = subst (λ es. HasMarks es row.number (marks_of row)) (sym g.grown.1)
            (marks_on core.history g.grown.0 row.number (marks_of row) (subst (λ es. Legal reads (history es)) g.grown.1 legal) i.marks);
        facts = i.facts;
        split = i.split;
      }

  rows_stay : (config : IndexConfig) (until : ℕ) (rows : List Row) (lists : List (List Placed)) → AllZip (IsRowInHand config until log core) rows lists → AllZip (IsRowInHand config until log after) rows lists
  rows_stay config until [] [] h = tt
  rows_stay config until [] (ds ∷ lists) h = absurd h
  rows_stay config until (row ∷ rows) [] h = absurd h
  rows_stay config until (row ∷ rows) (ds ∷ lists) h = (row_stays config until row ds h.0, rows_stay config until rows lists h.1)

  pub work_stays : (work : Work) → IsWork log core work → IsWork log after work
  work_stays work w =
      record {
        configured = g.keeps.configured work.config w.configured;
        each = rows_stay work.config (until_of work) work.rows work.contents w.each;
        fits = w.fits;
        few = w.few;
        known = known_on Nobody core after g.grown.0 g.grown.1 legal g.keeps work.upto w.known;
        numbered = w.numbered;
        asked = w.asked;
        covers = λ x n. w.covers x n ∙ sym (same_cover Nobody core after g.grown.0 g.grown.1 legal g.keeps work.config work.upto w.known x n);
      }

  pub made_stays : (held : WorkerHeld) → IsHeldMade log core held → IsHeldMade log after held
  made_stays held m =
      record {
        some = m.some;
        apart = m.apart;
        files = m.files;
        marks = m.marks;
        fetched = fetched_on Nobody core after held.old m.files g.keeps m.fetched;
        planned = subst (λ es. WerePlanned es held.old m.marks) (sym g.grown.1)
            (planned_on core.history g.grown.0 held.old m.marks (subst (λ es. Legal reads (history es)) g.grown.1 legal) m.planned);
        known = known_on Nobody core after g.grown.0 g.grown.1 legal g.keeps held.upto m.known;
        made = made_alike held.config log (ledger reads (history core.history)).tasks (ledger reads (history after.history)).tasks held.upto (joined m.marks) m.files (held_facts held) (held_file held)
            (same_cover Nobody core after g.grown.0 g.grown.1 legal g.keeps held.config held.upto m.known) m.made;
      }

  -- an upload that was Ok makes it uploaded
  pub uploaded_is_held : (held : WorkerHeld) → IsStagedHeld log core held → IsUploadedIn after held.number (held_file held) → IsUploadedHeld log after held
  uploaded_is_held held s u =
      record { configured = g.keeps.configured held.config s.configured; uploaded = u; staged = g.keeps.staged held.number [] (held_facts held) s.staged; made = made_stays held s.made }

  pub uploaded_stays : (held : WorkerHeld) → IsUploadedHeld log core held → IsUploadedHeld log after held
  uploaded_stays held u =
      record {
        configured = g.keeps.configured held.config u.configured;
        uploaded = g.keeps.uploaded held.number (held_file held) u.uploaded;
        staged = g.keeps.staged held.number [] (held_facts held) u.staged;
        made = made_stays held u.made;
      }

-- WHAT A REPLACE NEEDS of an uploaded replacement
pub held_is_replaceable : (log : Log) (core : Core) (held : WorkerHeld) → IsUploadedHeld log core held → IsReplaceable log core held.number held.old held.upto
held_is_replaceable log core held u =
    record {
      config = held.config;
      configured = u.configured;
      facts = held_facts held;
      bytes = held_file held;
      files = u.made.files;
      marks = u.made.marks;
      staged = u.staged;
      uploaded = u.uploaded;
      fetched = u.made.fetched;
      planned = u.made.planned;
      known = u.made.known;
      made = u.made.made;
    }

-- by other words
pub may_replace : (log : Log) (core : Core) (held : WorkerHeld) (number : ℕ) (olds : List ℕ) (upto : ℕ) → number ≡ held.number → olds ≡ held.old → upto ≡ held.upto → IsUploadedHeld log core held → IsReplaceable log core number olds upto
may_replace log core held number olds upto same rows last u =
    subst (λ n. IsReplaceable log core n olds upto) (sym same)
    (subst (λ os. IsReplaceable log core held.number os upto) (sym rows) (subst (λ l. IsReplaceable log core held.number held.old l) (sym last) (held_is_replaceable log core held u)))

-- ---- a staged number that is held

-- is its own at a later gate
pub own_later : {W : Type 0} (Owns : W → ℕ → Type 0) (since : W → W → Type 0) → ((first last : W) (number : ℕ) → since first last → Owns first number → Owns last number) → (old new : W) (place : HeldPlace) → since old new →
    HoldsOwn Owns old place → HoldsOwn Owns new place
own_later Owns since law old new places.Idle later h = tt
own_later Owns since law old new (places.Fetching work) later h = tt
own_later Owns since law old new (places.Staged plan token bytes) later h = law old new token.number later h
own_later Owns since law old new (places.Uploaded plan token) later h = tt

-- an idle worker holds none
pub idle_owns : {W : Type 0} (Owns : W → ℕ → Type 0) (gate : W) (place : HeldPlace) → place ≡ places.Idle → HoldsOwn Owns gate place
idle_owns Owns gate place is = subst (HoldsOwn Owns gate) (sym is) tt

pub none_owns : {W : Type 0} (Owns : W → ℕ → Type 0) (gate : W) (place : HeldPlace) → HoldsNone place → HoldsOwn Owns gate place
none_owns Owns gate places.Idle h = tt
none_owns Owns gate (places.Fetching work) h = tt
none_owns Owns gate (places.Staged plan token bytes) h = absurd h
none_owns Owns gate (places.Uploaded plan token) h = tt
