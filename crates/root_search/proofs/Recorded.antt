-- How the calls of a step are recorded.
use Rattle.std.proofs.Common.{◌≡◌, inl, inr, ℕ, List, [], ◌∷◌, ◌++◌, refl, sym, ap, ◌∙◌, subst, append_assoc, None, Result, Ok, Err}
use Rattle.std.specs.Prelude.{⊤}
use Rattle.source_log.specs.Log.{Log}
use Rattle.object_store.specs.Store.{IsPieceOf}
use Rattle.object_store.specs.declared.store.Piece.{Piece}
use Rattle.index_world.specs.Calls.{Gives, Grace, Trouble, fetched, fetched_from, no_memory}
use Rattle.index_world.specs.CallsMade.{Ask, CallMade, IsRecorded, IsShort, made_of, of_fetch}
use Rattle.index_world.specs.Core.{Core, IsPlannedIn, Nobody}
use Rattle.index_world.specs.Gate.{Acts, Does, IsPieceGiven, IsTrouble, IsUnfetched, Says}
use Rattle.index_world.specs.Taking.{IsWant}
use Rattle.index_world.specs.World.{GoesFor}
use Rattle.index_world.specs.declared.world_error.WorldError.{WorldError}
use Rattle.index_world.specs.declared.world_error.WorldError.TheVariants as errors
use Rattle.index_world.proofs.FetchLaws.{fetch_planned}
use Rattle.index_world.proofs.InCore.{planned_goes}
use Rattle.root_search.specs.Recorded.{AreRecorded}
use Rattle.root_search.specs.Steps.{Passage}

-- fetches behind others
pub recorded_more : (grace : Grace) (number : ℕ) (xs ys : List Passage) (made more : List CallMade) → AreRecorded grace number xs made → AreRecorded grace number ys more → AreRecorded grace number (xs ++ ys) (made ++ more)
recorded_more grace number [] ys made more a b = subst (λ (l : List CallMade). AreRecorded grace number ys (l ++ more)) (sym a) b
recorded_more grace number (x ∷ xs) ys made more a b =
    (a.0, a.1, a.2, a.3 ++ more, ap (λ (l : List CallMade). l ++ more) a.4 ∙ append_assoc a.2 a.3 more, a.5, recorded_more grace number xs ys a.3 more a.6 b)

-- ---- want of memory

pub want_is : (error : WorldError) (trouble : Trouble) → IsWant error → IsTrouble error trouble → trouble ≡ no_memory
want_is (errors.Memory e) trouble w is = is
want_is (errors.Refused refusal) trouble w is = absurd w
want_is (errors.StoreFault before after) trouble w is = absurd w
want_is (errors.Missing key) trouble w is = absurd w
want_is (errors.Corrupt key) trouble w is = absurd w
want_is (errors.Foreign key) trouble w is = absurd w
want_is errors.Full trouble w is = absurd w
want_is (errors.Expired planned_at reached) trouble w is = absurd w
want_is errors.NoIndex trouble w is = absurd w
want_is errors.IndexExists trouble w is = absurd w
want_is (errors.BadConfig bad) trouble w is = absurd w

short_is : {A : Type 0} (holds : A → Core → Type 0) (result : Result A WorldError) (answer : Result ⊤ Trouble) (after : Core) → Says IsTrouble holds result answer after → IsShort result → answer ≡ Err no_memory
short_is holds (Ok a) answer after s short = absurd short
short_is holds (Err error) (Ok done) after s short = absurd s
short_is holds (Err error) (Err trouble) after s short = ap (λ (t : Trouble). Err t) (want_is error trouble short s)

-- a call left the same, by another word
pub record_as : (ask : Ask) (mid after left : Core) (short other : Type 0) (made : List CallMade) → left ≡ after → (short → other) → IsRecorded ask mid after short made → IsRecorded ask mid left other made
record_as ask mid after left short other made same more (inl e) = inl (e ∙ ap (λ (c : Core). made_of ask c ∷ []) (sym same))
record_as ask mid after left short other made same more (inr x) = inr (x.0, same ∙ x.1, more x.2)

-- ---- a fetch of a planned file

module _ {W : Type 0} (grace : Grace) (number : ℕ) (Stands : W → Core → Log → Type 0) (Between : Core → Core → Type 0) (Owns : W → ℕ → Type 0) (Adds : W → List CallMade → W → Type 0)
    (bytes : List ℕ) (from len : ℕ) (result : Result Piece WorldError) (core : Core) (log : Log) (old new : W) (goes : (core mid : Core) → Between core mid → GoesFor Nobody core mid) (planned : IsPlannedIn core grace.until number bytes)
    (d : Does Stands Between Owns Adds None (of_fetch number from len) (fetched_from grace number) IsUnfetched (IsPieceGiven number from len) result core log old new) where
  abbrev IsPiece : Piece → Core → Type 0
  IsPiece piece after = IsPieceOf bytes from len piece

  -- the gate stands, and for the core that the call left
  abbrev Left : W → Core → Log → Type 0
  Left gate after l = Stands gate after l × (after ≡ d.acts.after)

  -- it gives bytes of it
  pub met : Acts Left None (fetched grace) IsTrouble IsPiece result d.mid log new
  met =
      fetch_planned Left grace number from len bytes result d.mid log new (planned_goes Nobody core d.mid grace.until number bytes (goes core d.mid d.passed) planned)
      (record { fate = d.acts.fate; answer = d.acts.answer; after = d.acts.after; did = d.acts.did; says = d.acts.says; goes_on = d.acts.goes_on; stands = (d.acts.stands, refl) })

  -- and is recorded so
  pub met_recorded : IsRecorded (of_fetch number from len) d.mid (fetched grace met.fate d.mid).core ((fetched grace met.fate d.mid).answer ≡ Err no_memory) d.made
  met_recorded =
      let left : (fetched grace met.fate d.mid).core ≡ d.acts.after = ap (λ (g : Gives Trouble ⊤). g.core) met.did ∙ met.stands.1 in
      record_as (of_fetch number from len) d.mid d.acts.after (fetched grace met.fate d.mid).core (IsShort result) ((fetched grace met.fate d.mid).answer ≡ Err no_memory) d.made left
      (λ short. ap (λ (g : Gives Trouble ⊤). g.answer) met.did ∙ short_is IsPiece result met.answer met.after met.says short) d.once
