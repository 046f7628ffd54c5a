-- A reading that goes on line by line.
use Rattle.std.proofs.Common.{◌≡◌, ℕ, ◌+◌, ◌<◌, ◌≤◌, min, List, [], ◌∷◌, ◌++◌, length, refl, sym, ap, ◌∙◌, subst, inl, inr, arith, append_assoc, length-append}
use Rattle.std.proofs.lemmas.List.{append-nil}
use Rattle.node_run.specs.Lines.{Spells}
use Rattle.node_run.specs.Node.{Line}
use Rattle.std.specs.Prelude.{Some}
use Rattle.input_lines.specs.Pieces.{IsUnbroken}
use Rattle.quick_node.specs.Running.{ReadsTo, HasRead}
use Rattle.input_lines.specs.Reading.{raw_lines, end_of, Within}
use Rattle.quick_node.specs.Reading.{fits, fit_of, Ending, all_read, stopped, EndsAt, ReadsFrom, Reads, next_feed, FailsBehind}
use Rattle.input_lines.proofs.Feeding.{before_feed}

module _ (readers total : ℕ) where
  -- the reading ends there
  reads_end : (at : ℕ) (before : List Line) (raws : List (List ℕ)) (lines : List Line) (at' : ℕ) (raws' : List (List ℕ)) (ending : Ending) →
      ReadsTo readers total at before raws lines at' raws' → ReadsFrom readers total at' (before ++ lines) raws' [] ending → ReadsFrom readers total at before raws lines ending
  reads_end at before raws [] at' raws' ending r e =
      subst (λ rs. ReadsFrom readers total at before rs [] ending) r.1
      (subst (λ n. ReadsFrom readers total n before raws' [] ending) r.0 (subst (λ ls. ReadsFrom readers total at' ls raws' [] ending) (append-nil before) e))
  reads_end at before [] (line ∷ lines) at' raws' ending r e = absurd r
  reads_end at before (raw ∷ raws) (line ∷ lines) at' raws' ending r e = (
    r.0,
    r.1,
    r.2,
    reads_end (at + length raw + 1) (before ++ line ∷ []) raws lines at' raws' ending r.3
        (subst (λ ls. ReadsFrom readers total at' ls raws' [] ending) (sym (append_assoc before (line ∷ []) lines)) e),
  )

  -- one line more is read
  reads_on : (at : ℕ) (before : List Line) (raws : List (List ℕ)) (lines : List Line) (at' : ℕ) (raw : List ℕ) (raws' : List (List ℕ)) (line : Line) →
      ReadsTo readers total at before raws lines at' (raw ∷ raws') → Within total at' raw → Spells raw line → fit_of readers (before ++ lines) line ≡ fits →
      ReadsTo readers total at before raws (lines ++ line ∷ []) (at' + length raw + 1) raws'
  reads_on at before raws [] at' raw raws' line r w s f =
      subst (λ rs. ReadsTo readers total at before rs (line ∷ []) (at' + length raw + 1) raws') r.1 (
        subst (λ n. Within total n raw) r.0 w,
        s,
        subst (λ ls. fit_of readers ls line ≡ fits) (append-nil before) f,
        (ap (λ n. n + length raw + 1) r.0, refl),
      )
  reads_on at before [] (l ∷ lines) at' raw raws' line r w s f = absurd r
  reads_on at before (first ∷ raws) (l ∷ lines) at' raw raws' line r w s f = (
    r.0,
    r.1,
    r.2,
    reads_on (at + length first + 1) (before ++ l ∷ []) raws lines at' raw raws' line r.3 w s
        (subst (λ ls. fit_of readers ls line ≡ fits) (sym (append_assoc before (l ∷ []) lines)) f),
  )

  -- the next line feed stands behind the lines that were read
  feed_on : (at : ℕ) (before : List Line) (raws : List (List ℕ)) (lines : List Line) (at' : ℕ) (raws' : List (List ℕ)) → ReadsTo readers total at before raws lines at' raws' →
      next_feed at raws lines ≡ next_feed at' raws' []
  feed_on at before raws [] at' raws' r = ap (λ n. next_feed n raws []) (sym r.0) ∙ ap (λ rs. next_feed at' rs []) (sym r.1)
  feed_on at before [] (line ∷ lines) at' raws' r = absurd r
  feed_on at before (raw ∷ raws) (line ∷ lines) at' raws' r = feed_on (at + length raw + 1) (before ++ line ∷ []) raws lines at' raws' r.3

pub no_line_read : (readers : ℕ) (input rest : List ℕ) → rest ≡ input → HasRead readers input [] 0 rest
no_line_read readers input rest e = record { at = 0; reads = (refl, ap raw_lines e); place = omega arith; whole = omega (arith, ap length e); few = omega arith }

nil_not_cons : (raw : List ℕ) (raws : List (List ℕ)) → [] ≡ raw ∷ raws → ⊥
nil_not_cons raw raws e = cc

some_left : (rest raw : List ℕ) (raws : List (List ℕ)) → raw_lines rest ≡ raw ∷ raws → 0 < length rest
some_left [] raw raws e = absurd (nil_not_cons raw raws e)
some_left (c ∷ rest) raw raws e = omega arith

module _ (readers : ℕ) (input : List ℕ) (lines : List Line) (taken : ℕ) (rest : List ℕ) (h : HasRead readers input lines taken rest) where
  pub reads_stopped : Reads readers input lines stopped
  reads_stopped = reads_end readers (length input) 0 [] (raw_lines input) lines h.at (raw_lines rest) stopped h.reads (by (raw_lines rest))
    where
      by : (raws : List (List ℕ)) → ReadsFrom readers (length input) h.at lines raws [] stopped
      by [] = inr refl
      by (raw ∷ raws) = tt

  pub reads_all : rest ≡ [] → Reads readers input lines all_read
  reads_all none =
      reads_end readers (length input) 0 [] (raw_lines input) lines h.at (raw_lines rest) all_read h.reads
      (subst (λ r. ReadsFrom readers (length input) h.at lines (raw_lines r) [] all_read) (sym none) (inl refl))

  -- the input failed behind a piece of the next line
  pub fails_behind : (piece left : List ℕ) → rest ≡ piece ++ left → IsUnbroken piece → FailsBehind input (Some left) lines
  fails_behind piece left is u = (
    left,
    refl,
    let feed = feed_on readers (length input) 0 [] (raw_lines input) lines h.at (raw_lines rest) h.reads in
        let bound : h.at + length piece ≤ next_feed h.at (raw_lines rest) [] = subst (λ r. h.at + length piece ≤ next_feed h.at (raw_lines r) []) (sym is) (before_feed h.at piece left u) in
        let long : length rest ≡ length piece + length left = ap length is ∙ length-append piece left in
        omega (arith, feed, bound, long, h.place, h.whole),
  )

  module _ (raw : List ℕ) (raws : List (List ℕ)) (first : raw_lines rest ≡ raw ∷ raws) where
    here : h.at ≡ taken
    here = let some = some_left rest raw raws first in omega (arith, some, h.place, h.whole)

    -- the reading ends at the next line
    pub reads_here : (ending : Ending) → EndsAt readers (taken + length rest) taken lines raw ending → Reads readers input lines ending
    reads_here ending e =
        reads_end readers (length input) 0 [] (raw_lines input) lines h.at (raw_lines rest) ending h.reads
        (subst (λ rs. ReadsFrom readers (length input) h.at lines rs [] ending) (sym first)
        (subst (λ n. EndsAt readers (length input) n lines raw ending) (sym here) (subst (λ n. EndsAt readers n taken lines raw ending) h.whole e)))

    -- the next line is read
    pub reads_more : (line : Line) (taken' : ℕ) (rest' : List ℕ) → raws ≡ raw_lines rest' → Within (taken + length rest) taken raw → taken' ≡ end_of (taken + length rest) taken raw →
        taken' + length rest' ≡ taken + length rest → taken < taken' → Spells raw line → fit_of readers lines line ≡ fits →
        HasRead readers input (lines ++ line ∷ []) taken' rest'
    reads_more line taken' rest' same w place whole more s f =
        record {
          at = h.at + length raw + 1;
          reads = subst (λ rs. ReadsTo readers (length input) 0 [] (raw_lines input) (lines ++ line ∷ []) (h.at + length raw + 1) rs) same
              (reads_on readers (length input) 0 [] (raw_lines input) lines h.at raw raws line
              (subst (λ rs. ReadsTo readers (length input) 0 [] (raw_lines input) lines h.at rs) first h.reads)
              (subst (λ n. Within (length input) n raw) (sym here) (subst (λ n. Within n taken raw) h.whole w)) s f);
          place = place ∙ ap (λ n. min (n + length raw + 1) (taken + length rest)) (sym here) ∙ ap (λ n. min (h.at + length raw + 1) n) h.whole;
          whole = whole ∙ h.whole;
          few = omega (arith, h.few, more, length-append lines (line ∷ []));
        }
