-- What the parts of a text do to the machine.
use Rattle.std.proofs.Common.{◌≡◌, IsTrue, ◌↔◌, ◌⊎◌, inl, inr, Option, Some, None, ℕ, ◌+◌, ◌<◌, ◌≤◌, Bool, true, false, not, List, [], ◌∷◌, length, drop, get_or, Result, Ok, Err, refl, ap, sym, ◌∙◌, arith}
use Rattle.std.specs.Prelude.{slice_range}
use Rattle.std.proofs.lemmas.Bool.{cases_lt}
use Rattle.std.proofs.lemmas.List.{drop_all}
use Rattle.query_reader.proofs.Steps.{steps, goes, ends, begins}
use Rattle.query_reader.specs.Kinds.{kind_of, said, names_set, ends_word, begins_word, is_escape_kind}
use Rattle.query_reader.specs.declared.fault.QuerySyntaxError.{QuerySyntaxError}
use Rattle.query_reader.specs.declared.fault.QuerySyntaxError.TheVariants as errors
use Rattle.query_reader.specs.Machine.{run, state, Frame, Mode, Go, Stuck, go_on, step, finish, begin, from_operand, word, begun_word, Role, First, Joined, Fielded, InASet, span, Want, After, Spaced, with_operand, with_or, leaf, after_leaf, end_word, end_field, end_prefix, end_plain, behind_operator, behind_in, begin_special, finish_word, finish_plain, Head, Behind, step_after}
use Rattle.query_reader.specs.Reading.{IsOperatorEnd, IsSetOpening, role_for, special_rest, Rest, Reads}
use Rattle.query_reader.specs.declared.reader.Operand.{Operand}
use Rattle.query_reader.specs.declared.kind.Kind.{Kind}
use Rattle.query_reader.specs.declared.kind.Kind.TheVariants.{Blank, Quote, Open, Close, Star, Colon, Plus, Minus, Escape, Angle, SquareOpen, SquareClose, CurlyOpen, CurlyClose, Reserved, Plain}
use Rattle.query_reader.specs.declared.kind.Said.{Said}
use Rattle.query_reader.specs.declared.kind.Said.TheVariants.{SaidWord, SaidAnd, SaidOr, SaidNot}
use Rattle.query_reader.specs.declared.tree.Span.{Span}
use Rattle.query_reader.specs.Asking as asks
use Rattle.query_reader.specs.declared.fault.Fault.TheVariants as faults

-- two states that take the byte at a place alike, and end alike, read alike
pub alike : (text : List ℕ) (at : ℕ) (m m' : Mode) (f f' : Frame) (fs : List Frame)
    → (at < length text → step m at (get_or text at 0) (kind_of (get_or text at 0)) f fs ≡ step m' at (get_or text at 0) (kind_of (get_or text at 0)) f' fs)
    → (length text ≤ at → finish m at f fs ≡ finish m' at f' fs)
    → run at (state m f fs) (drop at text) ≡ run at (state m' f' fs) (drop at text)
alike text at m m' f f' fs s e = elim (cases_lt at (length text)) [
  | inl l ↦ steps text at m f fs (kind_of (get_or text at 0)) l refl
      ∙ ap (λ p. go_on at p (λ next. run (at + 1) next (drop (at + 1) text))) (s l)
      ∙ sym (steps text at m' f' fs (kind_of (get_or text at 0)) l refl)
  | inr l ↦ ends text at m f fs l ∙ e l ∙ sym (ends text at m' f' fs l)
]

-- an operand is wanted, and no white space stands there
want_step : (b : Bool) (at c : ℕ) (k : Kind) (f : Frame) (fs : List Frame) → (k ≡ Blank → ⊥) → step (Want b) at c k f fs ≡ begin false at c k f fs
want_step b at c Blank f fs n = absurd (n refl)
want_step b at c _ f fs n = refl

pub want_operand : (text : List ℕ) (at : ℕ) (b : Bool) (f : Frame) (fs : List Frame) → (at < length text → kind_of (get_or text at 0) ≡ Blank → ⊥)
    → run at (state (Want b) f fs) (drop at text) ≡ from_operand at f fs (drop at text)
unfolding from_operand
want_operand text at b f fs n = elim (cases_lt at (length text)) [
  | inl l ↦ steps text at (Want b) f fs (kind_of (get_or text at 0)) l refl
      ∙ ap (λ p. go_on at p (λ next. run (at + 1) next (drop (at + 1) text))) (want_step b at (get_or text at 0) (kind_of (get_or text at 0)) f fs (n l))
      ∙ sym (begins text at f fs (kind_of (get_or text at 0)) l refl)
  | inr l ↦ ends text at (Want b) f fs l ∙ sym (ap (from_operand at f fs) (drop_all at text l))
]

-- behind a sign white space stands nowhere
tight_step : (at c : ℕ) (k : Kind) (f : Frame) (fs : List Frame) → step (Want false) at c k f fs ≡ begin false at c k f fs
tight_step at c Blank f fs = refl
tight_step at c _ f fs = refl

pub tight_operand : (text : List ℕ) (at : ℕ) (f : Frame) (fs : List Frame) → run at (state (Want false) f fs) (drop at text) ≡ from_operand at f fs (drop at text)
unfolding from_operand
tight_operand text at f fs = elim (cases_lt at (length text)) [
  | inl l ↦ steps text at (Want false) f fs (kind_of (get_or text at 0)) l refl
      ∙ ap (λ p. go_on at p (λ next. run (at + 1) next (drop (at + 1) text))) (tight_step at (get_or text at 0) (kind_of (get_or text at 0)) f fs)
      ∙ sym (begins text at f fs (kind_of (get_or text at 0)) l refl)
  | inr l ↦ ends text at (Want false) f fs l ∙ sym (ap (from_operand at f fs) (drop_all at text l))
]

-- a word that is no operator
abbrev pub NoSet : Option Span → Bool → Kind → Type 0
NoSet None names k = Unit {0}
NoSet (Some s) names k = (names ≡ false) ⊎ (((k ≡ Blank) → ⊥) × ((k ≡ SquareOpen) → ⊥))

no_in : (s : Span) (from at c : ℕ) (k : Kind) (f : Frame) (fs : List Frame) → (k ≡ Blank → ⊥) → (k ≡ SquareOpen → ⊥)
    → behind_in s from at c k f fs ≡ step_after false at c k (with_operand f (leaf (Some s) (asks.Word (span from at)))) fs
no_in s from at c Blank f fs a b = absurd (a refl)
no_in s from at c SquareOpen f fs a b = absurd (b refl)
no_in s from at c _ f fs a b = refl

plain_end : (field : Option Span) (names : Bool) (from at c : ℕ) (k : Kind) (f : Frame) (fs : List Frame) → NoSet field names k
    → end_plain (role_for field) names from at c k f fs ≡ step_after false at c k (with_operand f (leaf field (asks.Word (span from at)))) fs
plain_end None names from at c k f fs n = refl
plain_end (Some s) false from at c k f fs n = refl
plain_end (Some s) true from at c k f fs (inl e) = absurd (let x : true ≡ false = e in cc)
plain_end (Some s) true from at c k f fs (inr n) = no_in s from at c k f fs n.0 n.1

end_step : (c : ℕ) (k : Kind) (field : Option Span) (from : ℕ) (bytes : List ℕ) (p : Bool) (to : ℕ) (f : Frame) (fs : List Frame)
    → ends_word k ≡ true → (k ≡ Colon → ⊥) → (k ≡ Star → ⊥) → said p bytes ≡ SaidWord → NoSet field (names_set bytes) k
    → step (word (role_for field) from bytes p false) to c k f fs ≡ step (After false) to c k (with_operand f (leaf field (asks.Word (span from to)))) fs
end_step c Plain field from bytes p to f fs e a b s n = cc
end_step c Angle field from bytes p to f fs e a b s n = cc
end_step c Minus field from bytes p to f fs e a b s n = cc
end_step c Escape field from bytes p to f fs e a b s n = cc
end_step c Colon field from bytes p to f fs e a b s n = absurd (a refl)
end_step c Star field from bytes p to f fs e a b s n = absurd (b refl)
end_step c k field from bytes p to f fs e a b s n = rw s (plain_end field (names_set bytes) from to c k f fs n)

plain_done : (field : Option Span) (from at : ℕ) (f : Frame) (fs : List Frame) → finish_plain (role_for field) from at f fs ≡ finish (After false) at (with_operand f (leaf field (asks.Word (span from at)))) fs
plain_done None from at f fs = refl
plain_done (Some s) from at f fs = refl

no_set : (text : List ℕ) (field : Option Span) (from to : ℕ) (p : Bool) → to < length text
    → ((s : Span) → field ≡ Some s → (names_set (slice_range text from to) ≡ false) ⊎ (IsSetOpening text to → ⊥))
    → NoSet field (names_set (slice_range text from to)) (kind_of (get_or text to 0))
no_set text None from to p l n = tt
no_set text (Some s) from to p l n = elim (n s refl) [
  | inl e ↦ inl e
  | inr h ↦ inr ((λ k. h (l, inl k)), (λ k. h (l, inr k)))
]

pub word_ends : (text : List ℕ) (to : ℕ) (field : Option Span) (from : ℕ) (p : Bool) (f : Frame) (fs : List Frame)
    → (to < length text → ends_word (kind_of (get_or text to 0)) ≡ true) → (to < length text → kind_of (get_or text to 0) ≡ Colon → ⊥) → (to < length text → kind_of (get_or text to 0) ≡ Star → ⊥)
    → said p (slice_range text from to) ≡ SaidWord
    → ((s : Span) → field ≡ Some s → (names_set (slice_range text from to) ≡ false) ⊎ (IsSetOpening text to → ⊥))
    → run to (state (word (role_for field) from (slice_range text from to) p false) f fs) (drop to text)
    ≡ run to (state (After false) (with_operand f (leaf field (asks.Word (span from to)))) fs) (drop to text)
word_ends text to field from p f fs e a b s n = alike text to _ (After false) f _ fs
    (λ l. end_step (get_or text to 0) (kind_of (get_or text to 0)) field from (slice_range text from to) p to f fs (e l) (a l) (b l) s (no_set text field from to p l n))
    (λ l. rw s (plain_done field from to f fs))

pub word_prefix : (text : List ℕ) (to : ℕ) (field : Option Span) (from : ℕ) (p : Bool) (f : Frame) (fs : List Frame)
    → to < length text → kind_of (get_or text to 0) ≡ Star → said p (slice_range text from to) ≡ SaidWord
    → run to (state (word (role_for field) from (slice_range text from to) p false) f fs) (drop to text)
    ≡ run (to + 1) (after_leaf field (asks.Prefix (span from to)) f fs) (drop (to + 1) text)
word_prefix text to None from p f fs l e s = goes text to (word First from (slice_range text from to) p false) f fs Star _ l e (rw s refl)
word_prefix text to (Some x) from p f fs l e s = goes text to (word (Fielded x) from (slice_range text from to) p false) f fs Star _ l e (rw s refl)

-- a word begins behind an operand, or where one is wanted
first_step : (at c : ℕ) (k : Kind) (f : Frame) (fs : List Frame) → begins_word k ≡ true
    → (step (After true) at c k f fs ≡ Go (state (word Joined at (c ∷ []) (not (is_escape_kind k)) (is_escape_kind k)) f fs))
    × (begin false at c k f fs ≡ Go (state (word First at (c ∷ []) (not (is_escape_kind k)) (is_escape_kind k)) f fs))
first_step at c Plain f fs e = (refl, refl)
first_step at c Angle f fs e = (refl, refl)
first_step at c Escape f fs e = (refl, refl)
first_step at c _ f fs e = absurd (let x : false ≡ true = e in cc)

pub after_word : (text : List ℕ) (at : ℕ) (f : Frame) (fs : List Frame) → at < length text → begins_word (kind_of (get_or text at 0)) ≡ true
    → run at (state (After true) f fs) (drop at text) ≡ run (at + 1) (state (begun_word Joined at text) f fs) (drop (at + 1) text)
after_word text at f fs l e = goes text at (After true) f fs (kind_of (get_or text at 0)) _ l refl ((first_step at (get_or text at 0) (kind_of (get_or text at 0)) f fs e).0)

pub operand_word : (text : List ℕ) (at : ℕ) (f : Frame) (fs : List Frame) → at < length text → begins_word (kind_of (get_or text at 0)) ≡ true
    → from_operand at f fs (drop at text) ≡ run (at + 1) (state (begun_word First at text) f fs) (drop (at + 1) text)
operand_word text at f fs l e = begins text at f fs (kind_of (get_or text at 0)) l refl
    ∙ ap (λ p. go_on at p (λ next. run (at + 1) next (drop (at + 1) text))) ((first_step at (get_or text at 0) (kind_of (get_or text at 0)) f fs e).1)

-- a word that is no operator reads alike behind an operand and where one is wanted
no_operator : (at c : ℕ) (k : Kind) (f : Frame) (fs : List Frame) → (k ≡ Blank → ⊥) → (k ≡ Open → ⊥) → behind_operator at c k f fs ≡ Stuck
no_operator at c Blank f fs a b = absurd (a refl)
no_operator at c Open f fs a b = absurd (b refl)
no_operator at c _ f fs a b = refl

abbrev pub NoOperator : Kind → Said → Type 0
NoOperator k s = ((k ≡ Blank → ⊥) × (k ≡ Open → ⊥)) ⊎ ((s ≡ SaidAnd → ⊥) × (s ≡ SaidOr → ⊥))

joined_step : (c : ℕ) (k : Kind) (s : Said) (from : ℕ) (bytes : List ℕ) (p : Bool) (to : ℕ) (f : Frame) (fs : List Frame) → NoOperator k s
    → end_word (record { role = Joined; from = from; bytes = bytes; plain = p; escaped = false }) to c k s f fs
    ≡ end_word (record { role = First; from = from; bytes = bytes; plain = p; escaped = false }) to c k s f fs
joined_step c k SaidWord from bytes p to f fs n = refl
joined_step c k SaidNot from bytes p to f fs n = refl
joined_step c k SaidAnd from bytes p to f fs (inl n) = no_operator to c k f fs n.0 n.1
joined_step c k SaidAnd from bytes p to f fs (inr n) = absurd (n.0 refl)
joined_step c k SaidOr from bytes p to f fs (inl n) = no_operator to c k (with_or f) fs n.0 n.1
joined_step c k SaidOr from bytes p to f fs (inr n) = absurd (n.1 refl)

word_step : (c : ℕ) (k : Kind) (from : ℕ) (bytes : List ℕ) (p : Bool) (to : ℕ) (f : Frame) (fs : List Frame) → ends_word k ≡ true → NoOperator k (said p bytes)
    → step (word Joined from bytes p false) to c k f fs ≡ step (word First from bytes p false) to c k f fs
word_step c Plain from bytes p to f fs e n = absurd (let x : false ≡ true = e in cc)
word_step c Angle from bytes p to f fs e n = absurd (let x : false ≡ true = e in cc)
word_step c Minus from bytes p to f fs e n = absurd (let x : false ≡ true = e in cc)
word_step c Escape from bytes p to f fs e n = absurd (let x : false ≡ true = e in cc)
word_step c Colon from bytes p to f fs e n = colon_step (said p bytes)
  where
    colon_step : (s : Said) → end_field (record { role = Joined; from = from; bytes = bytes; plain = p; escaped = false }) to c Colon s f fs
        ≡ end_field (record { role = First; from = from; bytes = bytes; plain = p; escaped = false }) to c Colon s f fs
    colon_step SaidWord = refl
    colon_step SaidNot = refl
    colon_step _ = refl
word_step c Star from bytes p to f fs e n = star_step (said p bytes)
  where
    star_step : (s : Said) → end_prefix (record { role = Joined; from = from; bytes = bytes; plain = p; escaped = false }) to c Star s f fs
        ≡ end_prefix (record { role = First; from = from; bytes = bytes; plain = p; escaped = false }) to c Star s f fs
    star_step SaidWord = refl
    star_step SaidNot = refl
    star_step _ = refl
word_step c Blank from bytes p to f fs e n = joined_step c Blank (said p bytes) from bytes p to f fs n
word_step c Quote from bytes p to f fs e n = joined_step c Quote (said p bytes) from bytes p to f fs n
word_step c Open from bytes p to f fs e n = joined_step c Open (said p bytes) from bytes p to f fs n
word_step c Close from bytes p to f fs e n = joined_step c Close (said p bytes) from bytes p to f fs n
word_step c Plus from bytes p to f fs e n = joined_step c Plus (said p bytes) from bytes p to f fs n
word_step c SquareOpen from bytes p to f fs e n = joined_step c SquareOpen (said p bytes) from bytes p to f fs n
word_step c SquareClose from bytes p to f fs e n = joined_step c SquareClose (said p bytes) from bytes p to f fs n
word_step c CurlyOpen from bytes p to f fs e n = joined_step c CurlyOpen (said p bytes) from bytes p to f fs n
word_step c CurlyClose from bytes p to f fs e n = joined_step c CurlyClose (said p bytes) from bytes p to f fs n
word_step c Reserved from bytes p to f fs e n = joined_step c Reserved (said p bytes) from bytes p to f fs n

word_done_alike : (b : Bool) (from : ℕ) (bytes : List ℕ) (p : Bool) (to : ℕ) (f : Frame) (fs : List Frame)
    → finish (word Joined from bytes p b) to f fs ≡ finish (word First from bytes p b) to f fs
word_done_alike true from bytes p to f fs = refl
word_done_alike false from bytes p to f fs = by_said (said p bytes)
  where
    by_said : (s : Said) → finish_word Joined s from to f fs ≡ finish_word First s from to f fs
    by_said SaidWord = refl
    by_said SaidNot = refl
    by_said _ = refl

-- behind an operand a word that is no operator reads as where an operand is wanted
pub no_joined : (text : List ℕ) (to from : ℕ) (p b : Bool) (f : Frame) (fs : List Frame)
    → (to < length text → ends_word (kind_of (get_or text to 0)) ≡ true) → (to < length text → b ≡ false)
    → (to < length text → NoOperator (kind_of (get_or text to 0)) (said p (slice_range text from to)))
    → run to (state (word Joined from (slice_range text from to) p b) f fs) (drop to text) ≡ run to (state (word First from (slice_range text from to) p b) f fs) (drop to text)
no_joined text to from p b f fs e x n = alike text to _ _ f f fs
    (λ l. rw (x l) (word_step (get_or text to 0) (kind_of (get_or text to 0)) from (slice_range text from to) p to f fs (e l) (n l)))
    (λ l. word_done_alike b from (slice_range text from to) p to f fs)

-- `AND` and `OR`
and_step : (c : ℕ) (k : Kind) (from : ℕ) (bytes : List ℕ) (p : Bool) (to : ℕ) (f : Frame) (fs : List Frame) → (k ≡ Blank) ⊎ (k ≡ Open) → said p bytes ≡ SaidAnd
    → step (word Joined from bytes p false) to c k f fs ≡ step (Want true) to c k f fs
and_step c k from bytes p to f fs (inl e) s = rw (e, s) refl
and_step c k from bytes p to f fs (inr e) s = rw (e, s) refl

or_step : (c : ℕ) (k : Kind) (from : ℕ) (bytes : List ℕ) (p : Bool) (to : ℕ) (f : Frame) (fs : List Frame) → (k ≡ Blank) ⊎ (k ≡ Open) → said p bytes ≡ SaidOr
    → step (word Joined from bytes p false) to c k f fs ≡ step (Want true) to c k (with_or f) fs
or_step c k from bytes p to f fs (inl e) s = rw (e, s) refl
or_step c k from bytes p to f fs (inr e) s = rw (e, s) refl

pub and_wants : (text : List ℕ) (to from : ℕ) (p b : Bool) (f : Frame) (fs : List Frame) → IsOperatorEnd text to → b ≡ false → said p (slice_range text from to) ≡ SaidAnd
    → run to (state (word Joined from (slice_range text from to) p b) f fs) (drop to text) ≡ run to (state (Want true) f fs) (drop to text)
and_wants text to from p b f fs o e s = alike text to _ (Want true) f f fs
    (λ l. rw e (and_step (get_or text to 0) (kind_of (get_or text to 0)) from (slice_range text from to) p to f fs o.1 s))
    (λ l. absurd (omega (arith, o.0)))

pub or_wants : (text : List ℕ) (to from : ℕ) (p b : Bool) (f : Frame) (fs : List Frame) → IsOperatorEnd text to → b ≡ false → said p (slice_range text from to) ≡ SaidOr
    → run to (state (word Joined from (slice_range text from to) p b) f fs) (drop to text) ≡ run to (state (Want true) (with_or f) fs) (drop to text)
or_wants text to from p b f fs o e s = alike text to _ (Want true) f (with_or f) fs
    (λ l. rw e (or_step (get_or text to 0) (kind_of (get_or text to 0)) from (slice_range text from to) p to f fs o.1 s))
    (λ l. absurd (omega (arith, o.0)))

-- behind an operand, at what begins no word
other_step : (at c : ℕ) (k : Kind) (f : Frame) (fs : List Frame) → (k ≡ Blank → ⊥) → (k ≡ Close → ⊥) → (k ≡ Plain → ⊥) → (k ≡ Angle → ⊥) → (k ≡ Escape → ⊥)
    → step (After true) at c k f fs ≡ begin false at c k f fs
other_step at c Blank f fs a b d e g = absurd (a refl)
other_step at c Close f fs a b d e g = absurd (b refl)
other_step at c Plain f fs a b d e g = absurd (d refl)
other_step at c Angle f fs a b d e g = absurd (e refl)
other_step at c Escape f fs a b d e g = absurd (g refl)
other_step at c _ f fs a b d e g = refl

pub other_joined : (text : List ℕ) (at : ℕ) (f : Frame) (fs : List Frame) (k : Kind) → at < length text → kind_of (get_or text at 0) ≡ k
    → (k ≡ Blank → ⊥) → (k ≡ Close → ⊥) → (k ≡ Plain → ⊥) → (k ≡ Angle → ⊥) → (k ≡ Escape → ⊥)
    → run at (state (After true) f fs) (drop at text) ≡ from_operand at f fs (drop at text)
other_joined text at f fs k l i a b d e g = steps text at (After true) f fs k l i
    ∙ ap (λ p. go_on at p (λ next. run (at + 1) next (drop (at + 1) text))) (other_step at (get_or text at 0) k f fs a b d e g)
    ∙ sym (begins text at f fs k l i)

-- where the text ends, or a bracket closes or opens, it is one whether an operand may begin at once
end_alike : (at c : ℕ) (k : Kind) (x y : Bool) (f : Frame) (fs : List Frame) → (k ≡ Close) ⊎ (k ≡ Open) → step (After x) at c k f fs ≡ step (After y) at c k f fs
end_alike at c k x y f fs (inl e) = rw e refl
end_alike at c k x y f fs (inr e) = rw e refl

pub after_end : (text : List ℕ) (at : ℕ) (x y : Bool) (f : Frame) (fs : List Frame) → (at < length text → (kind_of (get_or text at 0) ≡ Close) ⊎ (kind_of (get_or text at 0) ≡ Open))
    → run at (state (After x) f fs) (drop at text) ≡ run at (state (After y) f fs) (drop at text)
after_end text at x y f fs e = alike text at (After x) (After y) f f fs (λ l. end_alike at (get_or text at 0) (kind_of (get_or text at 0)) x y f fs (e l)) (λ l. refl)

-- behind an operand nothing but white space or a bracket may stand
stuck_step : (at c : ℕ) (k : Kind) (f : Frame) (fs : List Frame) → (k ≡ Blank → ⊥) → (k ≡ Close → ⊥) → (k ≡ Open → ⊥) → step (After false) at c k f fs ≡ Stuck
stuck_step at c Blank f fs a b d = absurd (a refl)
stuck_step at c Close f fs a b d = absurd (b refl)
stuck_step at c Open f fs a b d = absurd (d refl)
stuck_step at c _ f fs a b d = refl

pub after_stuck : (text : List ℕ) (at : ℕ) (f : Frame) (fs : List Frame) → at < length text → (kind_of (get_or text at 0) ≡ Blank → ⊥) → (kind_of (get_or text at 0) ≡ Close → ⊥) → (kind_of (get_or text at 0) ≡ Open → ⊥)
    → run at (state (After false) f fs) (drop at text) ≡ Err (faults.Syntax at)
after_stuck text at f fs l a b d = steps text at (After false) f fs (kind_of (get_or text at 0)) l refl
    ∙ ap (λ p. go_on at p (λ next. run (at + 1) next (drop (at + 1) text))) (stuck_step at (get_or text at 0) (kind_of (get_or text at 0)) f fs a b d)

-- a test that failed
pub refuted : {b : Bool} {P : Type 0} → (IsTrue b ↔ P) → b ≡ false → P → ⊥
refuted {b} i e p = let x : b ≡ true = i.1 p in absurd (let y : true ≡ false = sym x ∙ e in cc)

-- a place where the machine is stuck, or the text ends too early
pub stuck_at : (text : List ℕ) (at : ℕ) (m : Mode) (f : Frame) (fs : List Frame)
    → (at < length text → step m at (get_or text at 0) (kind_of (get_or text at 0)) f fs ≡ Stuck) → (length text ≤ at → finish m at f fs ≡ Err (faults.Syntax at))
    → run at (state m f fs) (drop at text) ≡ Err (faults.Syntax at)
stuck_at text at m f fs s e = elim (cases_lt at (length text)) [
  | inl l ↦ steps text at m f fs (kind_of (get_or text at 0)) l refl ∙ ap (λ p. go_on at p (λ next. run (at + 1) next (drop (at + 1) text))) (s l)
  | inr l ↦ ends text at m f fs l ∙ e l
]

pub escaped_end : (text : List ℕ) (to : ℕ) (role : Role) (from : ℕ) (bytes : List ℕ) (p b : Bool) (f : Frame) (fs : List Frame)
    → (to < length text → b ≡ false) → b ≡ true → run to (state (word role from bytes p b) f fs) (drop to text) ≡ Err (faults.Syntax to)
escaped_end text to role from bytes p b f fs x y = stuck_at text to _ f fs (λ l. absurd (let z : true ≡ false = sym y ∙ x l in cc)) (λ l. rw y refl)

-- what a call read, seen from an earlier place
pub reads_from : (text : List ℕ) (r : Result Operand QuerySyntaxError) (rest rest' : Rest) → ((f : Frame) (fs : List Frame) → rest' f fs ≡ rest f fs) → Reads text rest r → Reads text rest' r
reads_from text (Ok o) rest rest' g h = λ f fs. g f fs ∙ h f fs
reads_from text (Err errors.Memory) rest rest' g h = h
reads_from text (Err (errors.Refused x)) rest rest' g h = λ f fs. g f fs ∙ h f fs

pub behind_word : (text : List ℕ) (at : ℕ) (field : Span) (f : Frame) (fs : List Frame) → at < length text → (kind_of (get_or text at 0) ≡ Plain) ⊎ (kind_of (get_or text at 0) ≡ Escape)
    → run at (state (Behind field) f fs) (drop at text) ≡ run (at + 1) (state (begun_word (Fielded field) at text) f fs) (drop (at + 1) text)
behind_word text at field f fs l (inl e) = goes text at (Behind field) f fs Plain _ l e refl
    ∙ ap (λ k. run (at + 1) (state (word (Fielded field) at (get_or text at 0 ∷ []) (not (is_escape_kind k)) (is_escape_kind k)) f fs) (drop (at + 1) text)) (sym e)
behind_word text at field f fs l (inr e) = goes text at (Behind field) f fs Escape _ l e refl
    ∙ ap (λ k. run (at + 1) (state (word (Fielded field) at (get_or text at 0 ∷ []) (not (is_escape_kind k)) (is_escape_kind k)) f fs) (drop (at + 1) text)) (sym e)

-- an operator where a word is wanted
abbrev pub NotJoined : Role → Type 0
NotJoined Joined = ⊥
NotJoined _ = Unit {0}

abbrev pub IsValue : Role → Type 0
IsValue (Fielded s) = Unit {0}
IsValue (InASet s n ms) = Unit {0}
IsValue _ = ⊥

abbrev pub Misplaced : Role → Said → Type 0
Misplaced role SaidWord = ⊥
Misplaced role SaidAnd = NotJoined role
Misplaced role SaidOr = NotJoined role
Misplaced role SaidNot = IsValue role

abbrev pub head : Role → ℕ → List ℕ → Bool → Head
head role from bytes p = record { role = role; from = from; bytes = bytes; plain = p; escaped = false }

end_stuck : (c : ℕ) (k : Kind) (s : Said) (role : Role) (from : ℕ) (bytes : List ℕ) (p : Bool) (to : ℕ) (f : Frame) (fs : List Frame) → Misplaced role s
    → end_word (head role from bytes p) to c k s f fs ≡ Stuck
end_stuck c k SaidWord role from bytes p to f fs m = absurd m
end_stuck c k SaidAnd Joined from bytes p to f fs m = absurd m
end_stuck c k SaidAnd _ from bytes p to f fs m = refl
end_stuck c k SaidOr Joined from bytes p to f fs m = absurd m
end_stuck c k SaidOr _ from bytes p to f fs m = refl
end_stuck c k SaidNot (Fielded x) from bytes p to f fs m = refl
end_stuck c k SaidNot (InASet x n ms) from bytes p to f fs m = refl
end_stuck c k SaidNot First from bytes p to f fs m = absurd m
end_stuck c k SaidNot Joined from bytes p to f fs m = absurd m

colon_stuck : (c : ℕ) (s : Said) (role : Role) (from : ℕ) (bytes : List ℕ) (p : Bool) (to : ℕ) (f : Frame) (fs : List Frame) → Misplaced role s → end_field (head role from bytes p) to c Colon s f fs ≡ Stuck
colon_stuck c SaidWord role from bytes p to f fs m = absurd m
colon_stuck c SaidNot role from bytes p to f fs m = end_stuck c Colon SaidNot role from bytes p to f fs m
colon_stuck c SaidAnd role from bytes p to f fs m = refl
colon_stuck c SaidOr role from bytes p to f fs m = refl

star_stuck : (c : ℕ) (s : Said) (role : Role) (from : ℕ) (bytes : List ℕ) (p : Bool) (to : ℕ) (f : Frame) (fs : List Frame) → Misplaced role s → end_prefix (head role from bytes p) to c Star s f fs ≡ Stuck
star_stuck c SaidWord role from bytes p to f fs m = absurd m
star_stuck c SaidNot role from bytes p to f fs m = end_stuck c Star SaidNot role from bytes p to f fs m
star_stuck c SaidAnd role from bytes p to f fs m = refl
star_stuck c SaidOr role from bytes p to f fs m = refl

word_stuck : (c : ℕ) (k : Kind) (role : Role) (from : ℕ) (bytes : List ℕ) (p : Bool) (to : ℕ) (f : Frame) (fs : List Frame) → ends_word k ≡ true → Misplaced role (said p bytes)
    → step (word role from bytes p false) to c k f fs ≡ Stuck
word_stuck c Plain role from bytes p to f fs e m = absurd (let x : false ≡ true = e in cc)
word_stuck c Angle role from bytes p to f fs e m = absurd (let x : false ≡ true = e in cc)
word_stuck c Minus role from bytes p to f fs e m = absurd (let x : false ≡ true = e in cc)
word_stuck c Escape role from bytes p to f fs e m = absurd (let x : false ≡ true = e in cc)
word_stuck c Colon role from bytes p to f fs e m = colon_stuck c (said p bytes) role from bytes p to f fs m
word_stuck c Star role from bytes p to f fs e m = star_stuck c (said p bytes) role from bytes p to f fs m
word_stuck c Blank role from bytes p to f fs e m = end_stuck c Blank (said p bytes) role from bytes p to f fs m
word_stuck c Quote role from bytes p to f fs e m = end_stuck c Quote (said p bytes) role from bytes p to f fs m
word_stuck c Open role from bytes p to f fs e m = end_stuck c Open (said p bytes) role from bytes p to f fs m
word_stuck c Close role from bytes p to f fs e m = end_stuck c Close (said p bytes) role from bytes p to f fs m
word_stuck c Plus role from bytes p to f fs e m = end_stuck c Plus (said p bytes) role from bytes p to f fs m
word_stuck c SquareOpen role from bytes p to f fs e m = end_stuck c SquareOpen (said p bytes) role from bytes p to f fs m
word_stuck c SquareClose role from bytes p to f fs e m = end_stuck c SquareClose (said p bytes) role from bytes p to f fs m
word_stuck c CurlyOpen role from bytes p to f fs e m = end_stuck c CurlyOpen (said p bytes) role from bytes p to f fs m
word_stuck c CurlyClose role from bytes p to f fs e m = end_stuck c CurlyClose (said p bytes) role from bytes p to f fs m
word_stuck c Reserved role from bytes p to f fs e m = end_stuck c Reserved (said p bytes) role from bytes p to f fs m

finish_stuck : (s : Said) (role : Role) (from to : ℕ) (f : Frame) (fs : List Frame) → Misplaced role s → finish_word role s from to f fs ≡ Err (faults.Syntax to)
finish_stuck SaidWord role from to f fs m = absurd m
finish_stuck SaidAnd role from to f fs m = refl
finish_stuck SaidOr role from to f fs m = refl
finish_stuck SaidNot (Fielded x) from to f fs m = refl
finish_stuck SaidNot (InASet x n ms) from to f fs m = refl
finish_stuck SaidNot First from to f fs m = absurd m
finish_stuck SaidNot Joined from to f fs m = absurd m

pub misplaced : (text : List ℕ) (to : ℕ) (role : Role) (from : ℕ) (bytes : List ℕ) (p b : Bool) (f : Frame) (fs : List Frame)
    → (to < length text → ends_word (kind_of (get_or text to 0)) ≡ true) → b ≡ false → Misplaced role (said p bytes)
    → run to (state (word role from bytes p b) f fs) (drop to text) ≡ Err (faults.Syntax to)
misplaced text to role from bytes p b f fs e x m = stuck_at text to (word role from bytes p b) f fs
    (λ l. rw x (word_stuck (get_or text to 0) (kind_of (get_or text to 0)) role from bytes p to f fs (e l) m))
    (λ l. rw x (finish_stuck (said p bytes) role from to f fs m))

pub no_word : (s : Said) (role : Role) → IsValue role → (s ≡ SaidWord → ⊥) → Misplaced role s
no_word SaidWord role v n = absurd (n refl)
no_word SaidAnd (Fielded x) v n = tt
no_word SaidAnd (InASet x m ms) v n = tt
no_word SaidAnd First v n = absurd v
no_word SaidAnd Joined v n = absurd v
no_word SaidOr (Fielded x) v n = tt
no_word SaidOr (InASet x m ms) v n = tt
no_word SaidOr First v n = absurd v
no_word SaidOr Joined v n = absurd v
no_word SaidNot role v n = v

pub no_operand : (s : Said) → (s ≡ SaidWord → ⊥) → (s ≡ SaidNot → ⊥) → Misplaced First s
no_operand SaidWord a b = absurd (a refl)
no_operand SaidAnd a b = tt
no_operand SaidOr a b = tt
no_operand SaidNot a b = absurd (b refl)

-- a field's value is no field
field_colon_step : (c : ℕ) (s : Said) (field : Span) (from : ℕ) (bytes : List ℕ) (p : Bool) (to : ℕ) (f : Frame) (fs : List Frame) → end_field (head (Fielded field) from bytes p) to c Colon s f fs ≡ Stuck
field_colon_step c SaidWord field from bytes p to f fs = refl
field_colon_step c SaidNot field from bytes p to f fs = refl
field_colon_step c _ field from bytes p to f fs = refl

pub second_colon : (text : List ℕ) (to : ℕ) (field : Span) (from : ℕ) (bytes : List ℕ) (p b : Bool) (f : Frame) (fs : List Frame) → to < length text → kind_of (get_or text to 0) ≡ Colon → b ≡ false
    → run to (state (word (Fielded field) from bytes p b) f fs) (drop to text) ≡ Err (faults.Syntax to)
second_colon text to field from bytes p b f fs l e x = stuck_at text to (word (Fielded field) from bytes p b) f fs
    (λ l'. rw (e, x) (field_colon_step (get_or text to 0) (said p bytes) field from bytes p to f fs)) (λ l'. absurd (omega arith))

-- a field ends at its colon
pub named_field : (text : List ℕ) (to from : ℕ) (bytes : List ℕ) (p : Bool) (f : Frame) (fs : List Frame) → to < length text → kind_of (get_or text to 0) ≡ Colon → said p bytes ≡ SaidWord
    → run to (state (word First from bytes p false) f fs) (drop to text) ≡ run (to + 1) (state (Behind (span from to)) f fs) (drop (to + 1) text)
named_field text to from bytes p f fs l e s = goes text to (word First from bytes p false) f fs Colon _ l e (rw s refl)

-- behind a field and its colon, and behind white space there
behind_step : (at c : ℕ) (k : Kind) (field : Span) (f : Frame) (fs : List Frame) → (k ≡ Quote → ⊥) → (k ≡ Blank → ⊥) → (k ≡ Plain → ⊥) → (k ≡ Escape → ⊥) → step (Behind field) at c k f fs ≡ begin_special field at c k f fs
behind_step at c Quote field f fs a b d e = absurd (a refl)
behind_step at c Blank field f fs a b d e = absurd (b refl)
behind_step at c Plain field f fs a b d e = absurd (d refl)
behind_step at c Escape field f fs a b d e = absurd (e refl)
behind_step at c _ field f fs a b d e = refl

pub behind_special : (text : List ℕ) (at : ℕ) (field : Span) (f : Frame) (fs : List Frame) (k : Kind) → at < length text → kind_of (get_or text at 0) ≡ k
    → (k ≡ Quote → ⊥) → (k ≡ Blank → ⊥) → (k ≡ Plain → ⊥) → (k ≡ Escape → ⊥) → run at (state (Behind field) f fs) (drop at text) ≡ special_rest text field at f fs
behind_special text at field f fs k l i a b d e = steps text at (Behind field) f fs k l i
    ∙ ap (λ p. go_on at p (λ next. run (at + 1) next (drop (at + 1) text))) (behind_step at (get_or text at 0) k field f fs a b d e)
    ∙ ap (λ k. go_on at (begin_special field at (get_or text at 0) k f fs) (λ next. run (at + 1) next (drop (at + 1) text))) (sym i)

spaced_step : (at c : ℕ) (k : Kind) (field : Span) (f : Frame) (fs : List Frame) → (k ≡ Blank → ⊥) → (k ≡ Plain → ⊥) → step (Spaced field) at c k f fs ≡ begin_special field at c k f fs
spaced_step at c Blank field f fs b d = absurd (b refl)
spaced_step at c Plain field f fs b d = absurd (d refl)
spaced_step at c _ field f fs b d = refl

pub spaced_special : (text : List ℕ) (at : ℕ) (field : Span) (f : Frame) (fs : List Frame) → at < length text → (kind_of (get_or text at 0) ≡ Blank → ⊥) → (kind_of (get_or text at 0) ≡ Plain → ⊥)
    → run at (state (Spaced field) f fs) (drop at text) ≡ special_rest text field at f fs
spaced_special text at field f fs l b d = steps text at (Spaced field) f fs (kind_of (get_or text at 0)) l refl
    ∙ ap (λ p. go_on at p (λ next. run (at + 1) next (drop (at + 1) text))) (spaced_step at (get_or text at 0) (kind_of (get_or text at 0)) field f fs b d)
