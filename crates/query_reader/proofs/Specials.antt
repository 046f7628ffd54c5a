-- What ranges, comparisons and sets do to the machine.
use Rattle.std.proofs.Common.{◌≡◌, ◌⊎◌, inl, inr, Some, None, ℕ, ◌+◌, ◌<◌, ◌≤◌, ◌==◌, Bool, true, false, not, List, [], ◌∷◌, ◌++◌, length, drop, get_or, Err, refl, ap, ◌∙◌, arith}
use Rattle.std.proofs.lemmas.Bool.Decides.{eqb_tells}
use Rattle.query_reader.proofs.Steps.{goes, ends}
use Rattle.query_reader.proofs.Parts.{alike, stuck_at}
use Rattle.query_reader.specs.Kinds.{kind_of, said, ends_word, begins_word, names_set, is_escape_kind}
use Rattle.query_reader.specs.Asking as asks
use Rattle.query_reader.specs.Ranges.{range_step, range_end}
use Rattle.query_reader.specs.Machine.{run, state, Frame, Go, Stuck, step, word, begun_word, Fielded, InASet, member, After, InSet, InRange, BehindIn, Spaced, LetterI, with_operand, leaf, step_in, move_range, finish_range}
use Rattle.query_reader.specs.Reading.{IsSetOpening, set_rest, range_rest}
use Rattle.query_reader.specs.declared.kind.Kind.{Kind}
use Rattle.query_reader.specs.declared.kind.Kind.TheVariants.{Blank, Quote, Minus, Escape, Angle, SquareOpen, SquareClose, Plain}
use Rattle.query_reader.specs.declared.kind.Said.TheVariants.{SaidWord}
use Rattle.query_reader.specs.declared.tree.Span.{Span}
use Rattle.query_reader.specs.declared.special.Member.{Member}
use Rattle.query_reader.specs.declared.special.Ranged.{Ranged}
use Rattle.query_reader.specs.declared.special.RangeMode.{RangeMode}
use Rattle.query_reader.specs.declared.special.RangeStep.TheVariants as moves
use Rattle.query_reader.specs.declared.fault.Fault.TheVariants as faults

-- a word begins in a set
set_first : (at c : ℕ) (k : Kind) (s : Span) (n : ℕ) (ms : List Member) (f : Frame) (fs : List Frame) → begins_word k ≡ true
    → step (InSet s n ms) at c k f fs ≡ Go (state (word (InASet s n ms) at (c ∷ []) (not (is_escape_kind k)) (is_escape_kind k)) f fs)
set_first at c Plain s n ms f fs e = refl
set_first at c Angle s n ms f fs e = refl
set_first at c Escape s n ms f fs e = refl
set_first at c _ s n ms f fs e = absurd (let x : false ≡ true = e in cc)

pub set_begins : (text : List ℕ) (at : ℕ) (s : Span) (n : ℕ) (ms : List Member) (f : Frame) (fs : List Frame) → at < length text → begins_word (kind_of (get_or text at 0)) ≡ true
    → set_rest text s n ms at f fs ≡ run (at + 1) (state (begun_word (InASet s n ms) at text) f fs) (drop (at + 1) text)
set_begins text at s n ms f fs l e = goes text at (InSet s n ms) f fs (kind_of (get_or text at 0)) _ l refl (set_first at (get_or text at 0) (kind_of (get_or text at 0)) s n ms f fs e)

-- and ends there
item_ends : (to c : ℕ) (k : Kind) (s : Span) (n : ℕ) (ms : List Member) (from : ℕ) (bytes : List ℕ) (p : Bool) (f : Frame) (fs : List Frame) → ends_word k ≡ true → said p bytes ≡ SaidWord
    → step (word (InASet s n ms) from bytes p false) to c k f fs ≡ step (InSet s n (ms ++ member from to false ∷ [])) to c k f fs
item_ends to c Plain s n ms from bytes p f fs e i = absurd (let x : false ≡ true = e in cc)
item_ends to c Angle s n ms from bytes p f fs e i = absurd (let x : false ≡ true = e in cc)
item_ends to c Minus s n ms from bytes p f fs e i = absurd (let x : false ≡ true = e in cc)
item_ends to c Escape s n ms from bytes p f fs e i = absurd (let x : false ≡ true = e in cc)
item_ends to c _ s n ms from bytes p f fs e i = rw i refl

pub set_ends : (text : List ℕ) (to : ℕ) (s : Span) (n : ℕ) (ms : List Member) (from : ℕ) (bytes : List ℕ) (p b : Bool) (f : Frame) (fs : List Frame)
    → (to < length text → ends_word (kind_of (get_or text to 0)) ≡ true) → b ≡ false → said p bytes ≡ SaidWord
    → run to (state (word (InASet s n ms) from bytes p b) f fs) (drop to text) ≡ set_rest text s n (ms ++ member from to false ∷ []) to f fs
set_ends text to s n ms from bytes p b f fs e x i = alike text to _ _ f f fs
    (λ l. rw x (item_ends to (get_or text to 0) (kind_of (get_or text to 0)) s n ms from bytes p f fs (e l) i))
    (λ l. rw (x, i) refl)

-- what begins no member of a set and does not close it
set_other : (at c : ℕ) (k : Kind) (s : Span) (n : ℕ) (ms : List Member) (f : Frame) (fs : List Frame) → (k ≡ Blank → ⊥) → (k ≡ SquareClose → ⊥) → (k ≡ Quote → ⊥) → (k ≡ Plain → ⊥) → (k ≡ Angle → ⊥) → (k ≡ Escape → ⊥)
    → step (InSet s n ms) at c k f fs ≡ Stuck
set_other at c Blank s n ms f fs a b d e g h = absurd (a refl)
set_other at c SquareClose s n ms f fs a b d e g h = absurd (b refl)
set_other at c Quote s n ms f fs a b d e g h = absurd (d refl)
set_other at c Plain s n ms f fs a b d e g h = absurd (e refl)
set_other at c Angle s n ms f fs a b d e g h = absurd (g refl)
set_other at c Escape s n ms f fs a b d e g h = absurd (h refl)
set_other at c _ s n ms f fs a b d e g h = refl

pub set_stuck : (text : List ℕ) (at : ℕ) (k : Kind) (s : Span) (n : ℕ) (ms : List Member) (f : Frame) (fs : List Frame) → kind_of (get_or text at 0) ≡ k
    → (k ≡ Blank → ⊥) → (k ≡ SquareClose → ⊥) → (k ≡ Quote → ⊥) → (k ≡ Plain → ⊥) → (k ≡ Angle → ⊥) → (k ≡ Escape → ⊥) → set_rest text s n ms at f fs ≡ Err (faults.Syntax at)
set_stuck text at k s n ms f fs i a b d e g h = stuck_at text at (InSet s n ms) f fs (λ l. rw i (set_other at (get_or text at 0) k s n ms f fs a b d e g h)) (λ l. refl)

-- behind an `IN`
in_other : (at c : ℕ) (k : Kind) (s : Span) (n : ℕ) (f : Frame) (fs : List Frame) → (k ≡ Blank → ⊥) → (k ≡ SquareOpen → ⊥) → step_in s n at c k f fs ≡ Stuck
in_other at c Blank s n f fs a b = absurd (a refl)
in_other at c SquareOpen s n f fs a b = absurd (b refl)
in_other at c _ s n f fs a b = refl

pub in_stuck : (text : List ℕ) (at : ℕ) (s : Span) (n : ℕ) (f : Frame) (fs : List Frame) → (at < length text → kind_of (get_or text at 0) ≡ Blank → ⊥) → (at < length text → kind_of (get_or text at 0) ≡ SquareOpen → ⊥)
    → run at (state (BehindIn s n) f fs) (drop at text) ≡ Err (faults.Syntax at)
in_stuck text at s n f fs a b = stuck_at text at (BehindIn s n) f fs (λ l. in_other at (get_or text at 0) (kind_of (get_or text at 0)) s n f fs (a l) (b l)) (λ l. refl)

-- an `IN` that begins a set
in_opens : (to c : ℕ) (k : Kind) (s : Span) (from : ℕ) (bytes : List ℕ) (p : Bool) (f : Frame) (fs : List Frame) → (k ≡ Blank) ⊎ (k ≡ SquareOpen) → said p bytes ≡ SaidWord → names_set bytes ≡ true
    → step (word (Fielded s) from bytes p false) to c k f fs ≡ step (BehindIn s from) to c k f fs
in_opens to c k s from bytes p f fs (inl e) i n = rw (e, i, n) refl
in_opens to c k s from bytes p f fs (inr e) i n = rw (e, i, n) refl

pub word_in : (text : List ℕ) (to : ℕ) (s : Span) (from : ℕ) (bytes : List ℕ) (p b : Bool) (f : Frame) (fs : List Frame) → IsSetOpening text to → b ≡ false → said p bytes ≡ SaidWord → names_set bytes ≡ true
    → run to (state (word (Fielded s) from bytes p b) f fs) (drop to text) ≡ run to (state (BehindIn s from) f fs) (drop to text)
word_in text to s from bytes p b f fs o x i n = alike text to _ _ f f fs
    (λ l. rw x (in_opens to (get_or text to 0) (kind_of (get_or text to 0)) s from bytes p f fs o.1 i n))
    (λ l. absurd (omega (arith, o.0)))

-- the letters of an `IN` behind white space
pub unequal : (a b : ℕ) → (a ≡ b → ⊥) → (a == b) ≡ false
unequal a b n = elim (eqb_tells a b) [
  | inl x ↦ absurd (n x.1)
  | inr x ↦ x.0
]

pub letter_i : (text : List ℕ) (at : ℕ) (s : Span) (f : Frame) (fs : List Frame) → at < length text → kind_of (get_or text at 0) ≡ Plain → get_or text at 0 ≡ 73
    → run at (state (Spaced s) f fs) (drop at text) ≡ run (at + 1) (state (LetterI s at) f fs) (drop (at + 1) text)
letter_i text at s f fs l k e = goes text at (Spaced s) f fs Plain _ l k (ap (λ c. step (Spaced s) at c Plain f fs) e)

pub no_letter_i : (text : List ℕ) (at : ℕ) (s : Span) (f : Frame) (fs : List Frame) → at < length text → kind_of (get_or text at 0) ≡ Plain → (get_or text at 0 ≡ 73 → ⊥)
    → run at (state (Spaced s) f fs) (drop at text) ≡ Err (faults.Syntax at)
no_letter_i text at s f fs l k e = stuck_at text at (Spaced s) f fs (λ h. rw (k, unequal (get_or text at 0) 73 e) refl) (λ h. refl)

pub letter_n : (text : List ℕ) (at n : ℕ) (s : Span) (f : Frame) (fs : List Frame) → at < length text → get_or text at 0 ≡ 78
    → run at (state (LetterI s n) f fs) (drop at text) ≡ run (at + 1) (state (BehindIn s n) f fs) (drop (at + 1) text)
letter_n text at n s f fs l e = goes text at (LetterI s n) f fs (kind_of (get_or text at 0)) _ l refl (ap (λ c. step (LetterI s n) at c (kind_of (get_or text at 0)) f fs) e)

pub no_letter_n : (text : List ℕ) (at n : ℕ) (s : Span) (f : Frame) (fs : List Frame) → (at < length text → get_or text at 0 ≡ 78 → ⊥)
    → run at (state (LetterI s n) f fs) (drop at text) ≡ Err (faults.Syntax at)
no_letter_n text at n s f fs e = stuck_at text at (LetterI s n) f fs (λ l. rw (unequal (get_or text at 0) 78 (e l)) refl) (λ l. refl)

-- the bytes of a range
module _ (text : List ℕ) (at : ℕ) (s : Span) (n : ℕ) (m : RangeMode) (f : Frame) (fs : List Frame) (l : at < length text) where
  pub range_more : (m' : RangeMode) → range_step m at (get_or text at 0) (kind_of (get_or text at 0)) ≡ moves.More m' → range_rest text s n m at f fs ≡ range_rest text s n m' (at + 1) f fs
  range_more m' e = goes text at (InRange s n m) f fs (kind_of (get_or text at 0)) _ l refl (ap (λ x. move_range s n x at (get_or text at 0) (kind_of (get_or text at 0)) f fs) e)

  pub range_done : (r : Ranged) → range_step m at (get_or text at 0) (kind_of (get_or text at 0)) ≡ moves.Done r
      → range_rest text s n m at f fs ≡ run (at + 1) (state (After true) (with_operand f (leaf (Some s) (asks.Within n r))) fs) (drop (at + 1) text)
  range_done r e = goes text at (InRange s n m) f fs (kind_of (get_or text at 0)) _ l refl (ap (λ x. move_range s n x at (get_or text at 0) (kind_of (get_or text at 0)) f fs) e)

  pub range_ended : (r : Ranged) → range_step m at (get_or text at 0) (kind_of (get_or text at 0)) ≡ moves.Ended r
      → range_rest text s n m at f fs ≡ run (at + 1) (state (After false) (with_operand f (leaf (Some s) (asks.Within n r))) fs) (drop (at + 1) text)
  range_ended r e = goes text at (InRange s n m) f fs (kind_of (get_or text at 0)) _ l refl (ap (λ x. move_range s n x at (get_or text at 0) (kind_of (get_or text at 0)) f fs) e)

  pub range_before : (r : Ranged) → range_step m at (get_or text at 0) (kind_of (get_or text at 0)) ≡ moves.Before r
      → range_rest text s n m at f fs ≡ run at (state (After false) (with_operand f (leaf (Some s) (asks.Within n r))) fs) (drop at text)
  range_before r e = alike text at (InRange s n m) (After false) f _ fs (λ l. ap (λ x. move_range s n x at (get_or text at 0) (kind_of (get_or text at 0)) f fs) e) (λ h. absurd (omega arith))

  pub range_refused : range_step m at (get_or text at 0) (kind_of (get_or text at 0)) ≡ moves.Refused → range_rest text s n m at f fs ≡ Err (faults.Syntax at)
  range_refused e = stuck_at text at (InRange s n m) f fs (λ l. ap (λ x. move_range s n x at (get_or text at 0) (kind_of (get_or text at 0)) f fs) e) (λ h. absurd (omega arith))

pub range_whole : (text : List ℕ) (at : ℕ) (s : Span) (n : ℕ) (m : RangeMode) (r : Ranged) (f : Frame) (fs : List Frame) → length text ≤ at → range_end m at ≡ Some r
    → range_rest text s n m at f fs ≡ run at (state (After false) (with_operand f (leaf (Some s) (asks.Within n r))) fs) (drop at text)
range_whole text at s n m r f fs l e = alike text at (InRange s n m) (After false) f _ fs (λ h. absurd (omega arith)) (λ h. ap (λ x. finish_range s n x at f fs) e)

pub range_open : (text : List ℕ) (at : ℕ) (s : Span) (n : ℕ) (m : RangeMode) (f : Frame) (fs : List Frame) → length text ≤ at → range_end m at ≡ None → range_rest text s n m at f fs ≡ Err (faults.Syntax at)
range_open text at s n m f fs l e = ends text at (InRange s n m) f fs l ∙ ap (λ x. finish_range s n x at f fs) e
