-- Lists of calls, from one world to a later one.
use Rattle.std.proofs.Common.{◌≡◌, ◌<◌, ℕ, zero, suc, List, [], ◌∷◌, ◌++◌, slice_get, refl, sym, ap, ◌∙◌, arith}
use Rattle.std.specs.Prelude.{Option, Some, None}
use Rattle.source_log.specs.Log.{Log}
use Rattle.source_checkpoint.specs.declared.delta.Part.{Part}
use Rattle.split_states.specs.declared.facts.RowFacts.{RowFacts}
use Rattle.index_world.specs.Core.{Core, HasStagedIn, IsUnusedIn, IsOther, Nobody}
use Rattle.index_world.specs.World.{Keeping, WorldStands}
use Rattle.index_world.proofs.InCore.{goes_less}
use Rattle.shared_gate.specs.Recording.{IsLinked, Leads, TellsOn, last_world, staged_by, uploaded_by}
use Rattle.shared_gate.specs.Sharing.{IsLife, Step, last_core}
use Rattle.shared_gate.specs.declared.recorded.Event.{Event}

other_than : (one : Option ℕ) (number : ℕ) → (one ≡ Some number → ⊥) → IsOther one number
other_than None number not = tt
other_than (Some one) number not = λ e. not (ap Some (sym e))

itself_less : (n : ℕ) → n < n → ⊥
itself_less n less = omega (arith, less)

module _ {S : Type 0} where
  pub linked_rest : (begun : Log → Type 0) (w : Keeping) (xs ys : List (Event S)) → IsLinked begun w (xs ++ ys) → IsLinked begun (last_world w xs) ys
  linked_rest begun w [] ys l = l
  linked_rest begun w (x ∷ xs) ys l = linked_rest begun x.left.value xs ys l.2

  pub linked_front : (begun : Log → Type 0) (w : Keeping) (xs ys : List (Event S)) → IsLinked begun w (xs ++ ys) → IsLinked begun w xs
  linked_front begun w [] ys l = tt
  linked_front begun w (x ∷ xs) ys l = (l.0, l.1, linked_front begun x.left.value xs ys l.2)

  pub last_append : (w : Keeping) (xs ys : List (Event S)) → last_world w (xs ++ ys) ≡ last_world (last_world w xs) ys
  last_append w [] ys = refl
  last_append w (x ∷ xs) ys = last_append x.left.value xs ys

  pub linked_snoc : (begun : Log → Type 0) (w : Keeping) (es : List (Event S)) (e : Event S) → IsLinked begun w es → Leads begun (last_world w es) e → TellsOn (last_world w es) e.left.value → IsLinked begun w (es ++ e ∷ [])
  linked_snoc begun w [] e l leads tells = (leads, tells, tt)
  linked_snoc begun w (x ∷ es) e l leads tells = (l.0, l.1, linked_snoc begun x.left.value es e l.2 leads tells)

  -- where the first world tells, the last one does
  pub tells_on : (begun : Log → Type 0) (w : Keeping) (es : List (Event S)) → IsLinked begun w es → TellsOn w (last_world w es)
  tells_on begun w [] l t = t
  tells_on begun w (e ∷ es) l t = tells_on begun e.left.value es l.2 (l.1 t)

  -- what these calls did, from a core on
  pub record Followed (w : Keeping) (es : List (Event S)) (core : Core) (log : Log) : Type 0 where
    pub steps : List Step
    pub life : IsLife core steps
    pub stands : WorldStands (last_world w es) (last_core core steps) log
    -- a number that none of them uploads under stays unused, and what was staged stays so
    pub unused : (number : ℕ) → ((k : ℕ) (e : Event S) → slice_get es k ≡ Some e → uploaded_by e.call ≡ Some number → ⊥) → IsUnusedIn core number → IsUnusedIn (last_core core steps) number
    pub staged : (number : ℕ) (delta : List Part) (facts : RowFacts) → HasStagedIn core number delta facts → HasStagedIn (last_core core steps) number delta facts

  pub follow : (begun : Log → Type 0) (log : Log) → begun log → (w : Keeping) (es : List (Event S)) (core : Core) → IsLinked begun w es → WorldStands w core log → Followed w es core log
  follow begun log b w [] core l s = record { steps = []; life = tt; stands = s; unused = λ number none u. u; staged = λ number delta facts h. h }
  follow begun log b w (e ∷ es) core l s =
      let led = l.0 log b core s in
      let rest = follow begun log b e.left.value es led.after l.2 led.stands in
      record {
        steps = record { ask = led.ask; after = led.after } ∷ rest.steps;
        life = (record { clock = led.clock; low = led.low; fate = led.fate; ran = led.ran; goes_on = goes_less (IsOther (uploaded_by e.call)) Nobody core led.after (λ n none. absurd none) led.goes_on }, rest.life);
        stands = rest.stands;
        unused = λ number none u. rest.unused number (λ k f there up. none (suc k) f there up) (led.goes_on.keeps.unused number (other_than (uploaded_by e.call) number (none zero e refl)) u);
        staged = λ number delta facts h. rest.staged number delta facts (led.goes_on.keeps.staged number delta facts h);
      }

  -- ---- no number is staged twice

  -- a number that was staged is staged by none of these
  none_again : (begun : Log → Type 0) (log : Log) → begun log → (w : Keeping) (es : List (Event S)) (core : Core) (number : ℕ) (delta : List Part) (facts : RowFacts) → IsLinked begun w es → WorldStands w core log
      → HasStagedIn core number delta facts → (k : ℕ) (e : Event S) → slice_get es k ≡ Some e → staged_by e.call ≡ Some number → ⊥
  none_again begun log b w [] core number delta facts l s h k e there is = let bad : ◌≡◌ {A = Option (Event S)} None (Some e) = there in cc bad
  none_again begun log b w (x ∷ es) core number delta facts l s h zero e there is =
      let same : x ≡ e = cc there in
      let led = l.0 log b core s in
      itself_less number ((led.staged number (ap (λ (y : Event S). staged_by y.call) same ∙ is)).apart number h.staged)
  none_again begun log b w (x ∷ es) core number delta facts l s h (suc k) e there is =
      let led = l.0 log b core s in
      none_again begun log b x.left.value es led.after number delta facts l.2 led.stands (led.goes_on.keeps.staged number delta facts h) k e there is

  -- one call staged it
  pub staged_once : (begun : Log → Type 0) (log : Log) → begun log → (w : Keeping) (es : List (Event S)) (core : Core) (number : ℕ) → IsLinked begun w es → WorldStands w core log
      → (j k : ℕ) (d e : Event S) → slice_get es j ≡ Some d → slice_get es k ≡ Some e → staged_by d.call ≡ Some number → staged_by e.call ≡ Some number → d ≡ e
  staged_once begun log b w [] core number l s j k d e here there d_is e_is = let bad : ◌≡◌ {A = Option (Event S)} None (Some d) = here in absurd (cc bad)
  staged_once begun log b w (x ∷ es) core number l s zero zero d e here there d_is e_is = let one : x ≡ d = cc here in let two : x ≡ e = cc there in sym one ∙ two
  staged_once begun log b w (x ∷ es) core number l s zero (suc k) d e here there d_is e_is =
      let one : x ≡ d = cc here in
      let led = l.0 log b core s in
      let new = led.staged number (ap (λ (y : Event S). staged_by y.call) one ∙ d_is) in
      absurd (none_again begun log b x.left.value es led.after number new.delta new.facts l.2 led.stands new.staged k e there e_is)
  staged_once begun log b w (x ∷ es) core number l s (suc j) zero d e here there d_is e_is =
      let two : x ≡ e = cc there in
      let led = l.0 log b core s in
      let new = led.staged number (ap (λ (y : Event S). staged_by y.call) two ∙ e_is) in
      absurd (none_again begun log b x.left.value es led.after number new.delta new.facts l.2 led.stands new.staged j d here d_is)
  staged_once begun log b w (x ∷ es) core number l s (suc j) (suc k) d e here there d_is e_is =
      let led = l.0 log b core s in
      staged_once begun log b x.left.value es led.after number l.2 led.stands j k d e here there d_is e_is
