-- What stands in 64 others is too deep.
use Rattle.std.proofs.Common.{◌≡◌, ◌⊎◌, inl, inr, ℕ, ◌+◌, ◌<◌, ◌≤◌, true, false, List, drop, Err, refl, sym, ◌∙◌, arith, get_or}
use Rattle.query_reader.specs.Kinds.{kind_of, StandsAt}
use Rattle.query_reader.specs.Tree.{behind}
use Rattle.query_reader.specs.Machine.{run, reads, state, Frame, from_operand, Want, After, fresh, negated, with_or}
use Rattle.query_reader.specs.Reading.{operand_rest, sunk}
use Rattle.query_reader.specs.Grammar.{Word, Begins, the_whole, a_bracket, Wants, wants_first, wants_next, wants_and, wants_or, wants_negated, wants_signed, Nests, IsTooDeepAt}
use Rattle.query_reader.specs.declared.kind.Kind.{Kind}
use Rattle.query_reader.specs.declared.kind.Kind.TheVariants.{Blank, Open, Close, Plus, Minus, Plain, Angle, Escape}
use Rattle.query_reader.specs.declared.kind.Said.TheVariants.{SaidNot}
use Rattle.query_reader.specs.declared.fault.Fault.TheVariants as faults
use Rattle.query_reader.proofs.Parts.{want_operand}
use Rattle.query_reader.proofs.Nest.{operand_plus, operand_minus, operand_open, not_wants, minus_deep, plus_deep, open_deep, not_deep}
use Rattle.query_laws.proofs.Complete.{blanks_want, gap_joined, gap_operator, word_run, word_joined, kind_joined, begins_no_blank, ors_no_blank, gap_and, gap_or, ors_run, at_depth, Members}

-- an operand may begin with what stands at the place, also behind another
record CanBegin (text : List ℕ) (at : ℕ) : Type 0 where
  blank : kind_of (get_or text at 0) ≡ Blank → ⊥
  joined : (f : Frame) (fs : List Frame) → run at (state (After true) f fs) (drop at text) ≡ from_operand at f fs (drop at text)

kind_begins : (text : List ℕ) (at : ℕ) (k : Kind) → StandsAt text at k → (k ≡ Blank → ⊥) → (k ≡ Close → ⊥) → (k ≡ Plain → ⊥) → (k ≡ Angle → ⊥) → (k ≡ Escape → ⊥) → CanBegin text at
kind_begins text at k s a b d e g = record { blank = λ h. a (sym s.1 ∙ h); joined = λ f fs. kind_joined text at k s a b d e g f fs }

word_begins : {text : List ℕ} {at j : ℕ} → Word text at j SaidNot → CanBegin text at
word_begins {text} {at} w = record { blank = λ h. begins_no_blank (kind_of (get_or text at 0)) w.begins h; joined = λ f fs. word_joined w (λ h. cc) (λ h. cc) f fs }

open_begins : {text : List ℕ} {at : ℕ} → StandsAt text at Open → CanBegin text at
open_begins {text} {at} s = kind_begins text at Open s (λ h. cc) (λ h. cc) (λ h. cc) (λ h. cc) (λ h. cc)

sign_begins : {text : List ℕ} {at : ℕ} → StandsAt text at Plus ⊎ StandsAt text at Minus → CanBegin text at
sign_begins {text} {at} (inl s) = kind_begins text at Plus s (λ h. cc) (λ h. cc) (λ h. cc) (λ h. cc) (λ h. cc)
sign_begins {text} {at} (inr s) = kind_begins text at Minus s (λ h. cc) (λ h. cc) (λ h. cc) (λ h. cc) (λ h. cc)

nests_begins : {text : List ℕ} {at : ℕ} → Nests text at → CanBegin text at
nests_begins (inl s) = open_begins s
nests_begins (inr (inl s)) = sign_begins (inl s)
nests_begins (inr (inr (inl s))) = sign_begins (inr s)
nests_begins (inr (inr (inr w))) = word_begins w.1

-- the machine comes to the place, so deep
abbrev Comes : List ℕ → ℕ → ℕ → Type 0
Comes text d at = (f : Frame) × (fs : List Frame) × (reads text ≡ operand_rest text d at f fs)

sign_comes : {text : List ℕ} {d i : ℕ} → StandsAt text i Plus ⊎ StandsAt text i Minus → d < 64 → CanBegin text (i + 1) → Comes text d i → Comes text (d + 1) (i + 1)
sign_comes {text} {d} {i} (inl s) l c x = (x.0, x.1, x.2 ∙ operand_plus text d i x.0 x.1 s.0 s.1 l)
sign_comes {text} {d} {i} (inr s) l c x = (negated x.0, x.1, x.2 ∙ operand_minus text d i x.0 x.1 s.0 s.1 l)

mutual
  wants_comes : {text : List ℕ} {d at : ℕ} → Wants text d at → d ≤ 64 → CanBegin text at → Comes text d at
  wants_comes {text} {d} (wants_first {j = j} b x) l c =
      let y = begins_comes b l in
      (fresh d, y.0, y.1 ∙ blanks_want x (fresh d) y.0 ∙ want_operand text j true (fresh d) y.0 (λ z. c.blank))
  wants_comes {text} {d} (wants_next {s = s} b x o e g) l c =
      let y = begins_comes b l in
      let m : Members text _ s _ _ d y.0 = ors_run o d (omega (arith, e)) y.0 in (
        at_depth d m.0 (behind m.1 m.2),
        y.0,
        y.1 ∙ blanks_want x (fresh d) y.0 ∙ want_operand text s true (fresh d) y.0 (λ z. ors_no_blank o) ∙ m.4
            ∙ gap_joined g.0 g.1 (at_depth d m.0 (behind m.1 m.2)) y.0 ∙ c.joined (at_depth d m.0 (behind m.1 m.2)) y.0,
      )
  wants_comes {text} {d} (wants_and {s = s} b x o e g w h) l c =
      let y = begins_comes b l in
      let m : Members text _ s _ _ d y.0 = ors_run o d (omega (arith, e)) y.0 in (
        at_depth d m.0 (behind m.1 m.2),
        y.0,
        y.1 ∙ blanks_want x (fresh d) y.0 ∙ want_operand text s true (fresh d) y.0 (λ z. ors_no_blank o) ∙ m.4
            ∙ gap_and g w h c.blank (at_depth d m.0 (behind m.1 m.2)) y.0,
      )
  wants_comes {text} {d} (wants_or {s = s} b x o e g w h) l c =
      let y = begins_comes b l in
      let m : Members text _ s _ _ d y.0 = ors_run o d (omega (arith, e)) y.0 in (
        with_or (at_depth d m.0 (behind m.1 m.2)),
        y.0,
        y.1 ∙ blanks_want x (fresh d) y.0 ∙ want_operand text s true (fresh d) y.0 (λ z. ors_no_blank o) ∙ m.4
            ∙ gap_or g w h c.blank (at_depth d m.0 (behind m.1 m.2)) y.0,
      )
  wants_comes {text} (wants_negated {d = d} {i = i} {j = j} {k = k} v w g) l c =
      let y = wants_comes v (omega (arith, l)) (word_begins w) in (
        negated y.0,
        y.1,
        y.2 ∙ word_run w (sunk d y.0) y.1 ∙ not_wants text j i w.plain false d y.0 y.1 w.ends (gap_operator g) refl w.says (omega (arith, l))
            ∙ blanks_want g.0 (negated (sunk d y.0)) y.1 ∙ want_operand text k true (negated (sunk d y.0)) y.1 (λ z. c.blank),
      )
  wants_comes {text} (wants_signed {d = d} {i = i} v s) l c = sign_comes s (omega (arith, l)) c (wants_comes v (omega (arith, l)) (sign_begins s))

  begins_comes : {text : List ℕ} {d i : ℕ} → Begins text d i → d ≤ 64 → (fs : List Frame) × (reads text ≡ run i (state (Want true) (fresh d) fs) (drop i text))
  begins_comes the_whole l = (_, refl)
  begins_comes {text} (a_bracket {d = d} {i = i} v s) l =
      let y = wants_comes v (omega (arith, l)) (open_begins s) in
      (_, y.2 ∙ operand_open text d i y.0 y.1 s.0 s.1 (omega (arith, l)))

nests_deep : {text : List ℕ} {at : ℕ} → Nests text at → (f : Frame) (fs : List Frame) → operand_rest text 64 at f fs ≡ Err (faults.TooDeep at)
nests_deep {text} {at} (inl s) f fs = open_deep text 64 at f fs s.0 s.1 (omega arith)
nests_deep {text} {at} (inr (inl s)) f fs = plus_deep text 64 at f fs s.0 s.1 (omega arith)
nests_deep {text} {at} (inr (inr (inl s))) f fs = minus_deep text 64 at f fs s.0 s.1 (omega arith)
nests_deep {text} {at} (inr (inr (inr w))) f fs = word_run w.1 (sunk 64 f) fs ∙ not_deep text w.0 at w.1.plain false 64 f fs w.1.ends refl w.1.says (omega arith)

-- what stands in 64 others
pub too_deep : (text : List ℕ) (at : ℕ) → IsTooDeepAt text at → reads text ≡ Err (faults.TooDeep at)
too_deep text at x = let y = wants_comes x.inside (omega arith) (nests_begins x.nests) in y.2 ∙ nests_deep x.nests y.0 y.1
