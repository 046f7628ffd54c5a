-- Nobody else uploads under a number that one staged.
use Rattle.std.proofs.Common.{◌≡◌, ◌<◌, ◌≤◌, ◌+◌, ℕ, zero, suc, List, [], ◌∷◌, ◌++◌, length, slice_get, refl, sym, ap, ◌∙◌, subst, arith}
use Rattle.std.specs.Prelude.{Option, Some}
use mathlib.Core.List.{IsPrefix}
use Rattle.source_log.specs.Log.{Log}
use Rattle.source_checkpoint.specs.declared.delta.Part.{Part}
use Rattle.split_states.specs.declared.facts.RowFacts.{RowFacts}
use Rattle.turn_lock.specs.Counts.{times}
use Rattle.index_world.specs.Core.{Core, HasStagedIn, IsUnusedIn, Nobody}
use Rattle.index_world.specs.World.{Keeping, WorldStands, GoesFor}
use Rattle.shared_gate.specs.Recording.{Begun, IsLinked, IsStanding, last_world, uploaded_by}
use Rattle.shared_gate.specs.Sharing.{IsHome, IsLife, Seat, SeatBegins, SeatOwns, SeatStands, Step, last_core, world_of}
use Rattle.shared_gate.specs.SharedLaws.{life_goes, staged_on}
use Rattle.shared_gate.specs.declared.recorded.Event.{Event}
use Rattle.shared_gate.specs.declared.recorded.Recorded.{Recorded}
use Rattle.shared_gate.proofs.Lives.{follow, last_append, linked_rest, staged_once}

-- behind a beginning
pub behind_get : {A : Type 0} (xs ys : List A) (j k : ℕ) (x : A) → j ≡ length xs + k → slice_get ys k ≡ Some x → slice_get (xs ++ ys) j ≡ Some x
behind_get [] ys j k x e h = let same : k ≡ j = omega (arith, e) in subst (λ (i : ℕ). slice_get ys i ≡ Some x) same h
behind_get (y ∷ xs) ys zero k x e h = absurd (omega (arith, e))
behind_get (y ∷ xs) ys (suc j) k x e h = behind_get xs ys j k x (omega (arith, e)) h

none_twice : (n m : ℕ) (places : List ℕ) → n ≡ m → times n places ≡ 0 → 0 < times m places → ⊥
none_twice n m places same none some = let e = ap (λ (x : ℕ). times x places) same in omega (arith, none, some, e)

module _ {Lock S K L : Type 0} where
  -- THE LENT WORLD: it stands for a list that goes on from what was seen, and no event in between rests on an own place.
  pub record IsLent (told : L → Option Log) (seat : Seat Lock S L) (lent : Recorded S K L) : Type 0 where
    pub standing : IsStanding told lent
    pub opened : lent.opened.value ≡ seat.opened
    pub source : lent.source.value ≡ seat.source
    pub seen : IsPrefix seat.seen lent.events.items
    pub apart : (k : ℕ) (e : Event S) → length seat.seen ≤ k → slice_get lent.events.items k ≡ Some e → times e.base seat.places ≡ 0
    pub home : IsHome seat.home seat.places

  -- what is known of the lent world by a core that its user knew
  pub record Met (told : L → Option Log) (seat : Seat Lock S L) (lent : Recorded S K L) (core : Core) (log : Log) : Type 0 where
    pub steps : List Step
    pub life : IsLife core steps
    pub stands : WorldStands lent.world (last_core core steps) log
    pub goes : GoesFor Nobody core (last_core core steps)
    pub owned : (number : ℕ) → SeatOwns seat number → IsUnusedIn core number → IsUnusedIn (last_core core steps) number
    pub staged : (number : ℕ) (delta : List Part) (facts : RowFacts) → HasStagedIn core number delta facts → HasStagedIn (last_core core steps) number delta facts

  module _ (told : L → Option Log) (seat : Seat Lock S L) (lent : Recorded S K L) (l : IsLent told seat lent) where
    -- all of its calls, from what the seat's lock began with
    pub linked : IsLinked (SeatBegins told seat) seat.opened lent.events.items
    linked = subst (λ (x : Keeping × L). IsLinked (Begun told x.0 x.1) x.0 lent.events.items) (λ i. (l.opened i, l.source i)) l.standing.linked

    -- the calls that were not seen
    pub unseen : IsLinked (SeatBegins told seat) (world_of seat) l.seen.0
    unseen = linked_rest (SeatBegins told seat) seat.opened seat.seen l.seen.0 (subst (λ (es : List (Event S)). IsLinked (SeatBegins told seat) seat.opened es) (sym l.seen.1) linked)

    pub lent_is : lent.world ≡ last_world (world_of seat) l.seen.0
    lent_is = l.standing.last ∙ (λ i. last_world (l.opened i) (sym l.seen.1 i)) ∙ last_append seat.opened seat.seen l.seen.0

    home_is : (home : ℕ) → seat.home ≡ Some home → 0 < times home seat.places
    home_is home is = l.home home is

    -- none of them uploads under an own number
    none_uses : (log : Log) → SeatBegins told seat log → (number : ℕ) → SeatOwns seat number → (k : ℕ) (e : Event S) → slice_get l.seen.0 k ≡ Some e → uploaded_by e.call ≡ Some number → ⊥
    none_uses log b number own k e there up =
        let all : slice_get (seat.seen ++ l.seen.0) (length seat.seen + k) ≡ Some e = behind_get seat.seen l.seen.0 (length seat.seen + k) k e refl there in
        let at : slice_get lent.events.items (length seat.seen + k) ≡ Some e = ap (λ (es : List (Event S)). slice_get es (length seat.seen + k)) (sym l.seen.1) ∙ all in
        let theirs = l.standing.owners (length seat.seen + k) e number at up in
        let mine = staged_on seat.seen lent.events.items own.home number l.seen own.staged in
        let one : theirs.event ≡ mine.event =
        staged_once (SeatBegins told seat) log b seat.opened lent.events.items b.0.0 number linked b.0.1 theirs.place mine.place theirs.event mine.event theirs.there mine.there theirs.number_is mine.number_is in
        let base : e.base ≡ own.home = sym theirs.base_is ∙ ap (λ (x : Event S). x.base) one ∙ mine.base_is in
        none_twice e.base own.home seat.places base (l.apart (length seat.seen + k) e (omega arith) at) (home_is own.home own.is)

    pub meets : (core : Core) (log : Log) → SeatStands told seat core log → Met told seat lent core log
    meets core log s =
        let f = follow (SeatBegins told seat) log s.begins (world_of seat) l.seen.0 core unseen s.stands in
        record {
          steps = f.steps;
          life = f.life;
          stands = subst (λ (w : Keeping). WorldStands w (last_core core f.steps) log) (sym lent_is) f.stands;
          goes = life_goes core f.steps f.life;
          owned = λ number own u. f.unused number (none_uses log s.begins number own) u;
          staged = f.staged;
        }
