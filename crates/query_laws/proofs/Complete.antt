-- What is in the grammar is read by the machine.
use Rattle.std.proofs.Common.{◌≡◌, ◌≢◌, ◌⊎◌, inl, inr, Option, Some, None, ℕ, ◌+◌, ◌-◌, ◌<◌, ◌≤◌, ◌==◌, ◌&&◌, Bool, true, false, not, List, [], ◌∷◌, ◌++◌, length, take, drop, get_or, Ok, refl, ap, sym, ◌∙◌, arith, length-drop, get_or-drop}
use Rattle.std.specs.Prelude.{slice_range}
use Rattle.std.specs.Str.{bytes_eq}
use Rattle.std.proofs.lemmas.Bool.{cases_lt, eqb-true}
use Rattle.std.proofs.lemmas.List.{length-take-le, get_or-take}
use Rattle.query_reader.proofs.Steps.{goes, ends, begins, in_word, in_quote, slice_more, quote_plain, word_plain, word_escape, word_escaped}
use Rattle.query_reader.proofs.Parts.{alike, want_operand, operand_word, no_joined, and_wants, or_wants, word_ends, word_prefix, named_field, behind_word, after_word, other_joined, after_end, behind_special, spaced_special}
use Rattle.query_reader.proofs.Nest.{operand_plus, operand_minus, operand_open, operand_star, not_wants}
use Rattle.query_reader.proofs.Specials.{set_begins, set_ends, word_in, letter_i, letter_n, unequal}
use Rattle.query_reader.specs.Kinds.{kind_of, said, names_set, ends_word, begins_word, is_escape_kind, StandsAt, ByteAt}
use Rattle.query_reader.specs.Asking.{Asking}
use Rattle.query_reader.specs.Asking as asks
use Rattle.query_reader.specs.Tree.{Tree, Trees, no_trees, behind, and_tree, or_tree, Group}
use Rattle.query_reader.specs.Ranges.{ends_run, run_bound, sign_of}
use Rattle.query_reader.specs.Machine.{run, state, State, Frame, Go, go_on, step, from_operand, word, begun_word, Role, First, Joined, Fielded, InASet, Want, After, InQuote, Behind, Spaced, BehindIn, InSet, InRange, with_operand, with_or, leaf, negated, fresh, reads, begin_special}
use Rattle.query_reader.specs.Reading.{IsOperatorEnd, IsSetOpening, operand_rest, set_rest, special_rest, sunk}
use Rattle.query_reader.specs.Grammar.{Blanks, Letters, Word, Quotes, Asks, Run, RunEnds, Bounds, Compares, Items, Opens, Shuts, Specials, NoSetWord, Gap, Ors, Ands, Unary, IsQuery, span}
use Rattle.query_reader.specs.Grammar.{no_blank, blank, no_letter, letter, escaped_letter, no_quoted, quoted_byte, escaped_byte, a_word, a_prefix, a_quote, run_one, run_more, a_star, a_quoted, a_run, at_least, at_most, above, below, no_item, item_blank, item_word, item_quoted, any_value, a_range, compared, a_set, one_and, by_or, one_operand, next_operand, by_and, by_not, by_plus, by_minus, anything, by_bracket, of_defaults, of_field, of_special}
use Rattle.query_reader.specs.declared.kind.Kind.{Kind}
use Rattle.query_reader.specs.declared.kind.Kind.TheVariants.{Blank, Quote, Open, Close, Star, Plus, Minus, Escape, Angle, SquareOpen, SquareClose, CurlyOpen, CurlyClose, Plain}
use Rattle.query_reader.specs.declared.kind.Said.{Said}
use Rattle.query_reader.specs.declared.kind.Said.TheVariants.{SaidAnd, SaidOr}
use Rattle.query_reader.specs.declared.tree.Span.{Span}
use Rattle.query_reader.specs.declared.special.Member.{Member}
use Rattle.query_reader.specs.declared.special.Bound.{Bound}
use Rattle.query_reader.specs.declared.special.Bound.TheVariants as bounds
use Rattle.query_reader.specs.declared.special.Compare.{Compare}
use Rattle.query_reader.specs.declared.special.Ranged.TheVariants.{Between, Compared}
use Rattle.query_reader.specs.declared.special.Spot.{Spot}
use Rattle.query_reader.specs.declared.special.Spot.TheVariants.{Low, High, One}
use Rattle.query_reader.specs.declared.special.RangeMode.TheVariants.{Wanted, Quoting, Running, BehindLow, LetterT, BehindTo, Closing, Sign}

-- white space
pub blanks_want : {text : List ℕ} {i j : ℕ} → Blanks text i j → (f : Frame) (fs : List Frame) → run i (state (Want true) f fs) (drop i text) ≡ run j (state (Want true) f fs) (drop j text)
blanks_want no_blank f fs = refl
blanks_want {text} {i} (blank s r) f fs = goes text i (Want true) f fs Blank _ s.0 s.1 refl ∙ blanks_want r f fs

blanks_after : {text : List ℕ} {i j : ℕ} → Blanks text i j → (f : Frame) (fs : List Frame) → run i (state (After true) f fs) (drop i text) ≡ run j (state (After true) f fs) (drop j text)
blanks_after no_blank f fs = refl
blanks_after {text} {i} (blank s r) f fs = goes text i (After true) f fs Blank _ s.0 s.1 refl ∙ blanks_after r f fs

pub gap_joined : {text : List ℕ} {b : Bool} {i j : ℕ} → Blanks text i j → (i < j) ⊎ ((b ≡ true) ⊎ StandsAt text j Open) → (f : Frame) (fs : List Frame)
    → run i (state (After b) f fs) (drop i text) ≡ run j (state (After true) f fs) (drop j text)
gap_joined {text} {b} {i} (blank s r) g f fs = goes text i (After b) f fs Blank _ s.0 s.1 refl ∙ blanks_after r f fs
gap_joined {text} {b} {i} no_blank (inl l) f fs = absurd (omega (arith, l))
gap_joined {text} {b} {i} no_blank (inr (inl e)) f fs = ap (λ x. run i (state (After x) f fs) (drop i text)) e
gap_joined {text} {b} {i} no_blank (inr (inr o)) f fs = after_end text i b true f fs (λ l. inr o.1)

-- an operator is followed by white space or a bracket
pub gap_operator : {text : List ℕ} {i j : ℕ} → Gap text false i j → IsOperatorEnd text i
gap_operator {text} {i} g = of g.0 g.1
  where
    of : {j : ℕ} → Blanks text i j → (i < j) ⊎ ((false ≡ true) ⊎ StandsAt text j Open) → IsOperatorEnd text i
    of (blank s r) h = (s.0, inl s.1)
    of no_blank (inl l) = absurd (omega (arith, l))
    of no_blank (inr (inl e)) = absurd (let x : false ≡ true = e in cc)
    of no_blank (inr (inr o)) = (o.0, inr o.1)

-- the letters of a word
letters_le : {text : List ℕ} {i j : ℕ} {p : Bool} → Letters text i j p → i ≤ j
letters_le no_letter = omega arith
letters_le (letter r a b d) = omega (arith, letters_le r)
letters_le (escaped_letter r a b) = omega (arith, letters_le r)

letters_none : {text : List ℕ} {i j : ℕ} {p : Bool} → Letters text i j p → j ≤ i → (j ≡ i) × (p ≡ true)
letters_none no_letter l = (refl, refl)
letters_none (letter r a b d) l = absurd (omega (arith, letters_le r, l))
letters_none (escaped_letter r a b) l = absurd (omega (arith, letters_le r, l))

plain_kind : (k : Kind) → ends_word k ≡ false → (k ≡ Escape → ⊥) → (k ≡ Plain) ⊎ ((k ≡ Angle) ⊎ (k ≡ Minus))
plain_kind Plain e n = inl refl
plain_kind Angle e n = inr (inl refl)
plain_kind Minus e n = inr (inr refl)
plain_kind Escape e n = absurd (n refl)
plain_kind _ e n = absurd (let x : true ≡ false = e in cc)

no_escape : (k : Kind) → (k ≡ Escape → ⊥) → is_escape_kind k ≡ false
no_escape Escape n = absurd (n refl)
no_escape _ n = refl

pub slice_one : (text : List ℕ) (i : ℕ) → i < length text → slice_range text i (i + 1) ≡ get_or text i 0 ∷ []
slice_one text i l = slice_more text i i (omega arith) l ∙ ap (λ n. take n (drop i text) ++ get_or text i 0 ∷ []) (let e : i - i ≡ 0 = omega arith in e)

-- a word begins with its first letter
module _ (text : List ℕ) (role : Role) (i : ℕ) (f : Frame) (fs : List Frame) where
  begun_plain : i < length text → (kind_of (get_or text i 0) ≡ Escape → ⊥)
      → run (i + 1) (state (begun_word role i text) f fs) (drop (i + 1) text) ≡ run (i + 1) (state (word role i (slice_range text i (i + 1)) true false) f fs) (drop (i + 1) text)
  begun_plain l n =
      ap (λ e. run (i + 1) (state (word role i (get_or text i 0 ∷ []) (not e) e) f fs) (drop (i + 1) text)) (no_escape (kind_of (get_or text i 0)) n)
      ∙ ap (λ bytes. run (i + 1) (state (word role i bytes true false) f fs) (drop (i + 1) text)) (sym (slice_one text i l))

  begun_escape : i < length text → kind_of (get_or text i 0) ≡ Escape
      → run (i + 1) (state (begun_word role i text) f fs) (drop (i + 1) text) ≡ run (i + 1) (state (word role i (slice_range text i (i + 1)) false true) f fs) (drop (i + 1) text)
  begun_escape l e =
      ap (λ k. run (i + 1) (state (word role i (get_or text i 0 ∷ []) (not (is_escape_kind k)) (is_escape_kind k)) f fs) (drop (i + 1) text)) e
      ∙ ap (λ bytes. run (i + 1) (state (word role i bytes false true) f fs) (drop (i + 1) text)) (sym (slice_one text i l))

  -- one more letter, and an escaped one
  more_plain : (j : ℕ) (p : Bool) → i ≤ j → j < length text → ends_word (kind_of (get_or text j 0)) ≡ false → (kind_of (get_or text j 0) ≡ Escape → ⊥)
      → run j (state (word role i (slice_range text i j) p false) f fs) (drop j text) ≡ run (j + 1) (state (word role i (slice_range text i (j + 1)) p false) f fs) (drop (j + 1) text)
  more_plain j p l m e n = in_word text j role i f fs p p false false l m
      (word_plain (get_or text j 0) (kind_of (get_or text j 0)) role i (slice_range text i j) j f fs p p false false refl (plain_kind (kind_of (get_or text j 0)) e n) refl refl)

  more_escape : (j : ℕ) (p : Bool) → i ≤ j → StandsAt text j Escape
      → run j (state (word role i (slice_range text i j) p false) f fs) (drop j text) ≡ run (j + 1) (state (word role i (slice_range text i (j + 1)) false true) f fs) (drop (j + 1) text)
  more_escape j p l s = in_word text j role i f fs p false false true l s.0
      (word_escape (get_or text j 0) (kind_of (get_or text j 0)) role i (slice_range text i j) j f fs p false false true refl s.1 refl refl)

  more_escaped : (j : ℕ) → i ≤ j → j < length text
      → run j (state (word role i (slice_range text i j) false true) f fs) (drop j text) ≡ run (j + 1) (state (word role i (slice_range text i (j + 1)) false false) f fs) (drop (j + 1) text)
  more_escaped j l m = in_word text j role i f fs false false true false l m
      (word_escaped (get_or text j 0) (kind_of (get_or text j 0)) role i (slice_range text i j) j f fs false false true false refl refl refl)

  first_plain : (j : ℕ) (p : Bool) → Letters text i j p → j ≤ i → j < length text → (kind_of (get_or text j 0) ≡ Escape → ⊥)
      → run (i + 1) (state (begun_word role i text) f fs) (drop (i + 1) text) ≡ run (j + 1) (state (word role i (slice_range text i (j + 1)) p false) f fs) (drop (j + 1) text)
  first_plain j p r m a d =
      let q : (j ≡ i) × (p ≡ true) = letters_none r m in
      begun_plain (omega (arith, q.0, a)) (λ h. d (ap (λ k. kind_of (get_or text k 0)) q.0 ∙ h))
      ∙ ap (λ k. run (k + 1) (state (word role i (slice_range text i (k + 1)) true false) f fs) (drop (k + 1) text)) (sym q.0)
      ∙ ap (λ x. run (j + 1) (state (word role i (slice_range text i (j + 1)) x false) f fs) (drop (j + 1) text)) (sym q.1)

  first_escape : (j : ℕ) (p : Bool) → Letters text i j p → j ≤ i → StandsAt text j Escape
      → run (i + 1) (state (begun_word role i text) f fs) (drop (i + 1) text) ≡ run (j + 1) (state (word role i (slice_range text i (j + 1)) false true) f fs) (drop (j + 1) text)
  first_escape j p r m s =
      let q : (j ≡ i) × (p ≡ true) = letters_none r m in
      begun_escape (omega (arith, q.0, s.0)) (ap (λ k. kind_of (get_or text k 0)) (sym q.0) ∙ s.1)
      ∙ ap (λ k. run (k + 1) (state (word role i (slice_range text i (k + 1)) false true) f fs) (drop (k + 1) text)) (sym q.0)

  letters_run : {j : ℕ} {p : Bool} → Letters text i j p → i < j
      → run (i + 1) (state (begun_word role i text) f fs) (drop (i + 1) text) ≡ run j (state (word role i (slice_range text i j) p false) f fs) (drop j text)
  letters_run no_letter l = absurd (omega (arith, l))
  letters_run (letter {j} {p} r a b d) l = elim (cases_lt i j) [
    | inl m ↦ letters_run r m ∙ more_plain j p (letters_le r) a b d
    | inr m ↦ first_plain j p r m a d
  ]
  letters_run (escaped_letter {j} {p} r s b) l = elim (cases_lt i j) [
    | inl m ↦ letters_run r m ∙ more_escape j p (letters_le r) s
    | inr m ↦ first_escape j p r m s
  ] ∙ more_escaped (j + 1) (omega (arith, letters_le r)) b

-- what a quote contains
quotes_run : {text : List ℕ} {i j : ℕ} → Quotes text i j → (role : Role) (f : Frame) (fs : List Frame)
    → run i (state (InQuote role i false) f fs) (drop i text) ≡ run j (state (InQuote role i false) f fs) (drop j text)
quotes_run no_quoted role f fs = refl
quotes_run {text} {i} (quoted_byte {j} r l a b) role f fs = quotes_run r role f fs
    ∙ in_quote text j role i f fs false false (kind_of (get_or text j 0)) l refl (quote_plain (kind_of (get_or text j 0)) role i j f fs false refl a b)
quotes_run {text} {i} (escaped_byte {j} r s (inl x)) role f fs = quotes_run r role f fs
    ∙ in_quote text j role i f fs false true Escape s.0 s.1 refl ∙ in_quote text (j + 1) role i f fs true false Quote x.0 x.1 refl
quotes_run {text} {i} (escaped_byte {j} r s (inr x)) role f fs = quotes_run r role f fs
    ∙ in_quote text j role i f fs false true Escape s.0 s.1 refl ∙ in_quote text (j + 1) role i f fs true false Escape x.0 x.1 refl

pub word_within : {text : List ℕ} {i j : ℕ} {p : Bool} → Letters text i j p → i < j → j ≤ length text
word_within no_letter l = absurd (omega (arith, l))
word_within (letter r a b d) l = omega (arith, a)
word_within (escaped_letter r s b) l = omega (arith, b)

-- a word where an operand is wanted, and behind a field
pub word_run : {text : List ℕ} {i j : ℕ} {s : Said} (w : Word text i j s) (f : Frame) (fs : List Frame)
    → from_operand i f fs (drop i text) ≡ run j (state (word First i (slice_range text i j) w.plain false) f fs) (drop j text)
word_run {text} {i} {j} w f fs = operand_word text i f fs (omega (arith, w.some, word_within w.letters w.some)) w.begins ∙ letters_run text First i f fs w.letters w.some

begins_behind : (k : Kind) → begins_word k ≡ true → (k ≡ Angle → ⊥) → (k ≡ Plain) ⊎ (k ≡ Escape)
begins_behind Plain e n = inl refl
begins_behind Escape e n = inr refl
begins_behind Angle e n = absurd (n refl)
begins_behind _ e n = absurd (let x : false ≡ true = e in cc)

behind_run : {text : List ℕ} {i j : ℕ} {s : Said} (w : Word text i j s) → (kind_of (get_or text i 0) ≡ Angle → ⊥) → (field : Span) (f : Frame) (fs : List Frame)
    → run i (state (Behind field) f fs) (drop i text) ≡ run j (state (word (Fielded field) i (slice_range text i j) w.plain false) f fs) (drop j text)
behind_run {text} {i} {j} w n field f fs = behind_word text i field f fs (omega (arith, w.some, word_within w.letters w.some)) (begins_behind (kind_of (get_or text i 0)) w.begins n)
    ∙ letters_run text (Fielded field) i f fs w.letters w.some

-- the bytes of an `IN`
pub slice_two : (text : List ℕ) (i j a b : ℕ) → i ≤ j → j ≤ length text → slice_range text i j ≡ a ∷ b ∷ [] → (j ≡ i + 1 + 1) × (get_or text i 0 ≡ a) × (get_or text (i + 1) 0 ≡ b)
slice_two text i j a b l m e =
    let n : length (slice_range text i j) ≡ j - i = length-take-le (j - i) (drop i text) (simp length-drop (omega arith)) in
    let two : j ≡ i + 1 + 1 = omega (arith, n, ap length e) in
    let zeroth : get_or (slice_range text i j) 0 0 ≡ get_or text (i + 0) 0 = get_or-take (j - i) (drop i text) 0 0 (omega arith) ∙ get_or-drop i text 0 0 in
    let first : get_or (slice_range text i j) 1 0 ≡ get_or text (i + 1) 0 = get_or-take (j - i) (drop i text) 1 0 (omega arith) ∙ get_or-drop i text 1 0 in
    (two, ap (λ k. get_or text k 0) (let z : i ≡ i + 0 = omega arith in z) ∙ sym zeroth ∙ ap (λ xs. get_or xs 0 0) e, sym first ∙ ap (λ xs. get_or xs 1 0) e)

eqb_is : (a b : ℕ) → (a == b) ≡ true → a ≡ b
eqb_is a b h = eqb-true a b h

pub bytes_two : (bytes : List ℕ) (a b : ℕ) → bytes_eq bytes (a ∷ b ∷ []) ≡ true → bytes ≡ a ∷ b ∷ []
bytes_two [] a b h = absurd (let x : false ≡ true = h in cc)
bytes_two (x ∷ []) a b h = absurd (last (x == a) h)
  where
    last : (t : Bool) → (t && false) ≡ true → ⊥
    last true h = let x : false ≡ true = h in cc
    last false h = let x : false ≡ true = h in cc
bytes_two (x ∷ y ∷ []) a b h = both (x == a) (y == b) refl refl h
  where
    both : (t u : Bool) → (x == a) ≡ t → (y == b) ≡ u → (t && (u && true)) ≡ true → x ∷ y ∷ [] ≡ a ∷ b ∷ []
    both true true p q h = rw (eqb_is x a p, eqb_is y b q) refl
    both true false p q h = absurd (let z : false ≡ true = h in cc)
    both false u p q h = absurd (let z : false ≡ true = h in cc)
bytes_two (x ∷ y ∷ z ∷ zs) a b h = absurd (long (x == a) (y == b) h)
  where
    long : (t u : Bool) → (t && (u && false)) ≡ true → ⊥
    long true true h = let x : false ≡ true = h in cc
    long true false h = let x : false ≡ true = h in cc
    long false u h = let x : false ≡ true = h in cc

no_set : (text : List ℕ) (i j : ℕ) → (IsSetOpening text j → slice_range text i j ≡ 73 ∷ 78 ∷ [] → ⊥) → (b : Bool) → names_set (slice_range text i j) ≡ b
    → (names_set (slice_range text i j) ≡ false) ⊎ (IsSetOpening text j → ⊥)
unfolding names_set
no_set text i j n false e = inl e
no_set text i j n true e = inr (λ o. n o (bytes_two (slice_range text i j) 73 78 e))

-- what is asked of the default fields, or of a field
asks_run : {text : List ℕ} {i j : ℕ} {a : Asking} → Asks text i j a → (f : Frame) (fs : List Frame)
    → from_operand i f fs (drop i text) ≡ run j (state (After false) (with_operand f (leaf None a)) fs) (drop j text)
asks_run {text} (a_word {i} {j} w c s) f fs = word_run w f fs ∙ word_ends text j None i w.plain f fs w.ends c s w.says (λ x e. absurd (let z : ◌≡◌ {A = Option Span} None (Some x) = e in cc))
asks_run {text} (a_prefix {i} {j} w s) f fs = word_run w f fs ∙ word_prefix text j None i w.plain f fs s.0 s.1 w.says
asks_run {text} (a_quote {i} {j} s q e) f fs = begins text i f fs Quote s.0 s.1 ∙ quotes_run q First f fs ∙ goes text j (InQuote First (i + 1) false) f fs Quote _ e.0 e.1 refl

field_run : {text : List ℕ} {i j : ℕ} {a : Asking} → Asks text i j a → (kind_of (get_or text i 0) ≡ Angle → ⊥) → NoSetWord text a → (field : Span) (f : Frame) (fs : List Frame)
    → run i (state (Behind field) f fs) (drop i text) ≡ run j (state (After false) (with_operand f (leaf (Some field) a)) fs) (drop j text)
field_run {text} (a_word {i} {j} w c s) n b field f fs = behind_run w n field f fs
    ∙ word_ends text j (Some field) i w.plain f fs w.ends c s w.says (λ x e. no_set text i j b (names_set (slice_range text i j)) refl)
field_run {text} (a_prefix {i} {j} w s) n b field f fs = behind_run w n field f fs ∙ word_prefix text j (Some field) i w.plain f fs s.0 s.1 w.says
field_run {text} (a_quote {i} {j} s q e) n b field f fs = goes text i (Behind field) f fs Quote _ s.0 s.1 refl ∙ quotes_run q (Fielded field) f fs ∙ goes text j (InQuote (Fielded field) (i + 1) false) f fs Quote _ e.0 e.1 refl

kind_t : kind_of 84 ≡ Plain
unfolding kind_of
kind_t = refl

-- ranges, comparisons and sets
module _ (text : List ℕ) (s : Span) (n : ℕ) (f : Frame) (fs : List Frame) where
  -- what an edge leads to
  abbrev bound_state : Spot → Bound → State
  bound_state (Low c) b = state (InRange s n (BehindLow c b false)) f fs
  bound_state (High c low) b = state (InRange s n (Closing c low b)) f fs
  bound_state (One op) b = state (After false) (with_operand f (leaf (Some s) (asks.Within n (Compared op b)))) fs

  abbrev CanEnd : Spot → Bound → Type 0
  CanEnd (One op) bounds.Unbounded = ⊥
  CanEnd _ b = Unit {0}

  run_stops : (spot : Spot) (from j : ℕ) (star : Bool) → CanEnd spot (run_bound from j star) → RunEnds text j
      → run j (state (InRange s n (Running spot from star)) f fs) (drop j text) ≡ run j (bound_state spot (run_bound from j star)) (drop j text)
  run_stops (Low c) from j star p e = alike text j (InRange s n (Running (Low c) from star)) (InRange s n (BehindLow c (run_bound from j star) false)) f f fs (λ l. rw (e l) refl) (λ l. refl)
  run_stops (High c low) from j star p e = alike text j (InRange s n (Running (High c low) from star)) (InRange s n (Closing c low (run_bound from j star))) f f fs (λ l. rw (e l) refl) (λ l. refl)
  run_stops (One op) from j true p e = absurd p
  run_stops (One op) from j false p e = alike text j (InRange s n (Running (One op) from false)) (After false) f (with_operand f (leaf (Some s) (asks.Within n (Compared op (run_bound from j false))))) fs (λ l. rw (e l) refl) (λ l. refl)

  quoted_range : {i j : ℕ} (spot : Spot) → Quotes text i j → run i (state (InRange s n (Quoting spot i false)) f fs) (drop i text) ≡ run j (state (InRange s n (Quoting spot i false)) f fs) (drop j text)
  quoted_range spot no_quoted = refl
  quoted_range {i} spot (quoted_byte {j} r l a b) = quoted_range spot r ∙ goes text j (InRange s n (Quoting spot i false)) f fs (kind_of (get_or text j 0)) _ l refl (other (kind_of (get_or text j 0)) a b)
    where
      other : (k : Kind) → (k ≡ Quote → ⊥) → (k ≡ Escape → ⊥) → step (InRange s n (Quoting spot i false)) j (get_or text j 0) k f fs ≡ Go (state (InRange s n (Quoting spot i false)) f fs)
      other Quote a b = absurd (a refl)
      other Escape a b = absurd (b refl)
      other _ a b = refl
  quoted_range {i} spot (escaped_byte {j} r st (inl x)) = quoted_range spot r ∙ goes text j (InRange s n (Quoting spot i false)) f fs Escape _ st.0 st.1 refl ∙ goes text (j + 1) (InRange s n (Quoting spot i true)) f fs Quote _ x.0 x.1 refl
  quoted_range {i} spot (escaped_byte {j} r st (inr x)) = quoted_range spot r ∙ goes text j (InRange s n (Quoting spot i false)) f fs Escape _ st.0 st.1 refl ∙ goes text (j + 1) (InRange s n (Quoting spot i true)) f fs Escape _ x.0 x.1 refl

  quote_ends : (spot : Spot) (from at : ℕ) → StandsAt text at Quote → run at (state (InRange s n (Quoting spot from false)) f fs) (drop at text) ≡ run (at + 1) (bound_state spot (bounds.Quoted (span from at))) (drop (at + 1) text)
  quote_ends (Low c) from at st = goes text at (InRange s n (Quoting (Low c) from false)) f fs Quote _ st.0 st.1 refl
  quote_ends (High c low) from at st = goes text at (InRange s n (Quoting (High c low) from false)) f fs Quote _ st.0 st.1 refl
  quote_ends (One op) from at st = goes text at (InRange s n (Quoting (One op) from false)) f fs Quote _ st.0 st.1 refl

  -- a run, which may be a star so far
  record RunRead (spot : Spot) (i j : ℕ) : Type 0 where
    pub star : Bool
    pub alone : star ≡ true → StandsAt text i Star × (j ≡ i + 1)
    pub reads : run i (state (InRange s n (Wanted spot)) f fs) (drop i text) ≡ run j (state (InRange s n (Running spot i star)) f fs) (drop j text)

  run_read : {i j : ℕ} (spot : Spot) → Run text i j → RunRead spot i j
  run_read {i} spot (run_one l e q) = by_kind (kind_of (get_or text i 0)) refl e q
    where
      by_kind : (k : Kind) → kind_of (get_or text i 0) ≡ k → ends_run k ≡ false → (k ≡ Quote → ⊥) → RunRead spot i (i + 1)
      by_kind Star i' e q = record { star = true; alone = λ h. ((l, i'), refl); reads = goes text i (InRange s n (Wanted spot)) f fs Star _ l i' refl }
      by_kind Quote i' e q = absurd (q refl)
      by_kind Blank i' e q = absurd (let x : true ≡ false = e in cc)
      by_kind SquareClose i' e q = absurd (let x : true ≡ false = e in cc)
      by_kind CurlyClose i' e q = absurd (let x : true ≡ false = e in cc)
      by_kind Close i' e q = absurd (let x : true ≡ false = e in cc)
      by_kind k i' e q = record { star = false; alone = λ h. absurd (let x : false ≡ true = h in cc); reads = goes text i (InRange s n (Wanted spot)) f fs k _ l i' refl }
  run_read {i} spot (run_more {j} r l e) =
      let x = run_read spot r in
      record { star = false; alone = λ h. absurd (let x : false ≡ true = h in cc); reads = x.reads ∙ goes text j (InRange s n (Running spot i x.star)) f fs (kind_of (get_or text j 0)) _ l refl (rw e refl) }

  not_alone : (spot : Spot) (i j : ℕ) (x : RunRead spot i j) → (StandsAt text i Star → i + 1 < j) → (b : Bool) → x.star ≡ b → b ≡ false
  not_alone spot i j x h true e = absurd (let a = x.alone e in omega (arith, a.1, h a.0))
  not_alone spot i j x h false e = refl

  bound_run : {i j : ℕ} {b : Bound} (spot : Spot) → CanEnd spot b → Bounds text i j b → run i (state (InRange s n (Wanted spot)) f fs) (drop i text) ≡ run j (bound_state spot b) (drop j text)
  bound_run {i} spot p (a_star st e) = goes text i (InRange s n (Wanted spot)) f fs Star _ st.0 st.1 refl ∙ run_stops spot i (i + 1) true p e
  bound_run {i} spot p (a_quoted {j = j} st q e) = goes text i (InRange s n (Wanted spot)) f fs Quote _ st.0 st.1 refl ∙ quoted_range spot q ∙ quote_ends spot (i + 1) j e
  bound_run {i} {j} spot p (a_run r e h) =
      let x = run_read spot r in
      x.reads ∙ ap (λ b. run j (state (InRange s n (Running spot i b)) f fs) (drop j text)) (not_alone spot i j x h x.star refl) ∙ run_stops spot i j false p e

  -- white space in a range
  wanted_blanks : {i j : ℕ} (spot : Spot) → ((op : Compare) → spot ≡ One op → ⊥) → Blanks text i j → run i (state (InRange s n (Wanted spot)) f fs) (drop i text) ≡ run j (state (InRange s n (Wanted spot)) f fs) (drop j text)
  wanted_blanks spot h no_blank = refl
  wanted_blanks {i} (Low c) h (blank st r) = goes text i (InRange s n (Wanted (Low c))) f fs Blank _ st.0 st.1 refl ∙ wanted_blanks (Low c) h r
  wanted_blanks {i} (High c low) h (blank st r) = goes text i (InRange s n (Wanted (High c low))) f fs Blank _ st.0 st.1 refl ∙ wanted_blanks (High c low) h r
  wanted_blanks (One op) h (blank st r) = absurd (h op refl)

  low_blanks : {i j : ℕ} (c : Bool) (low : Bound) → Blanks text i j → run i (state (InRange s n (BehindLow c low true)) f fs) (drop i text) ≡ run j (state (InRange s n (BehindLow c low true)) f fs) (drop j text)
  low_blanks c low no_blank = refl
  low_blanks {i} c low (blank st r) = goes text i (InRange s n (BehindLow c low true)) f fs Blank _ st.0 st.1 refl ∙ low_blanks c low r

  low_gap : {i j : ℕ} (c : Bool) (low : Bound) → Blanks text i j → i < j → run i (state (InRange s n (BehindLow c low false)) f fs) (drop i text) ≡ run j (state (InRange s n (BehindLow c low true)) f fs) (drop j text)
  low_gap c low no_blank l = absurd (omega (arith, l))
  low_gap {i} c low (blank st r) l = goes text i (InRange s n (BehindLow c low false)) f fs Blank _ st.0 st.1 refl ∙ low_blanks c low r

  to_gap : {i j : ℕ} (c : Bool) (low : Bound) → Blanks text i j → i < j → run i (state (InRange s n (BehindTo c low)) f fs) (drop i text) ≡ run j (state (InRange s n (Wanted (High c low))) f fs) (drop j text)
  to_gap c low no_blank l = absurd (omega (arith, l))
  to_gap {i} c low (blank st r) l = goes text i (InRange s n (BehindTo c low)) f fs Blank _ st.0 st.1 refl ∙ wanted_blanks (High c low) (λ op h. let z : High c low ≡ One op = h in cc) r

  close_blanks : {i j : ℕ} (c : Bool) (low high : Bound) → Blanks text i j → run i (state (InRange s n (Closing c low high)) f fs) (drop i text) ≡ run j (state (InRange s n (Closing c low high)) f fs) (drop j text)
  close_blanks c low high no_blank = refl
  close_blanks {i} c low high (blank st r) = goes text i (InRange s n (Closing c low high)) f fs Blank _ st.0 st.1 refl ∙ close_blanks c low high r

  letter_t : (l : ℕ) (c : Bool) (low : Bound) → ByteAt text l 84 → run l (state (InRange s n (BehindLow c low true)) f fs) (drop l text) ≡ run (l + 1) (state (InRange s n (LetterT c low)) f fs) (drop (l + 1) text)
  letter_t l c low b = goes text l (InRange s n (BehindLow c low true)) f fs (kind_of (get_or text l 0)) _ b.0 refl (ap (λ x. step (InRange s n (BehindLow c low true)) l x (kind_of x) f fs) b.1 ∙ ap (λ k. step (InRange s n (BehindLow c low true)) l 84 k f fs) kind_t)

  letter_o : (l : ℕ) (c : Bool) (low : Bound) → ByteAt text l 79 → run l (state (InRange s n (LetterT c low)) f fs) (drop l text) ≡ run (l + 1) (state (InRange s n (BehindTo c low)) f fs) (drop (l + 1) text)
  letter_o l c low b = goes text l (InRange s n (LetterT c low)) f fs (kind_of (get_or text l 0)) _ b.0 refl (ap (λ x. step (InRange s n (LetterT c low)) l x (kind_of (get_or text l 0)) f fs) b.1)

  shuts : (o : ℕ) (c d : Bool) (low high : Bound) → Shuts text d o
      → run o (state (InRange s n (Closing c low high)) f fs) (drop o text) ≡ run (o + 1) (state (After true) (with_operand f (leaf (Some s) (asks.Within n (Between c low high d)))) fs) (drop (o + 1) text)
  shuts o c d low high (inl x) = goes text o (InRange s n (Closing c low high)) f fs SquareClose _ x.1.0 x.1.1 refl ∙ ap (λ d. run (o + 1) (state (After true) (with_operand f (leaf (Some s) (asks.Within n (Between c low high d)))) fs) (drop (o + 1) text)) (sym x.0)
  shuts o c d low high (inr x) = goes text o (InRange s n (Closing c low high)) f fs CurlyClose _ x.1.0 x.1.1 refl ∙ ap (λ d. run (o + 1) (state (After true) (with_operand f (leaf (Some s) (asks.Within n (Between c low high d)))) fs) (drop (o + 1) text)) (sym x.0)

  -- the members of a set
  items_run : {i j : ℕ} {ms : List Member} → Items text i j ms → set_rest text s n [] i f fs ≡ set_rest text s n ms j f fs
  items_run no_item = refl
  items_run (item_blank {j} {ms} r st) = items_run r ∙ goes text j (InSet s n ms) f fs Blank _ st.0 st.1 refl
  items_run (item_word {j} {k} {ms} r w) = items_run r
      ∙ set_begins text j s n ms f fs (omega (arith, w.some, word_within w.letters w.some)) w.begins
      ∙ letters_run text (InASet s n ms) j f fs w.letters w.some
      ∙ set_ends text k s n ms j (slice_range text j k) w.plain false f fs w.ends refl w.says
  items_run (item_quoted {j} {k} {ms} r st q e) = items_run r
      ∙ goes text j (InSet s n ms) f fs Quote _ st.0 st.1 refl ∙ quotes_run q (InASet s n ms) f fs ∙ goes text k (InQuote (InASet s n ms) (j + 1) false) f fs Quote _ e.0 e.1 refl

  in_blanks : {i j : ℕ} → Blanks text i j → run i (state (BehindIn s n) f fs) (drop i text) ≡ run j (state (BehindIn s n) f fs) (drop j text)
  in_blanks no_blank = refl
  in_blanks {i} (blank st r) = goes text i (BehindIn s n) f fs Blank _ st.0 st.1 refl ∙ in_blanks r

  in_set : {i j k : ℕ} {ms : List Member} → Blanks text i j → StandsAt text j SquareOpen → Items text (j + 1) k ms → StandsAt text k SquareClose
      → run i (state (BehindIn s n) f fs) (drop i text) ≡ run (k + 1) (state (After true) (with_operand f (leaf (Some s) (asks.OneOf n ms))) fs) (drop (k + 1) text)
  in_set {i} {j} {k} {ms} x o r e = in_blanks x ∙ goes text j (BehindIn s n) f fs SquareOpen _ o.0 o.1 refl ∙ items_run r ∙ goes text k (InSet s n ms) f fs SquareClose _ e.0 e.1 refl

-- the first byte of a range or a comparison
byte_kind : (text : List ℕ) (i c : ℕ) → ByteAt text i c → kind_of (get_or text i 0) ≡ kind_of c
byte_kind text i c b = ap kind_of b.1

kind_below : kind_of 60 ≡ Angle
unfolding kind_of
kind_below = refl

kind_above : kind_of 62 ≡ Angle
unfolding kind_of
kind_above = refl

kind_i : kind_of 73 ≡ Plain
unfolding kind_of
kind_i = refl

kind_n : kind_of 78 ≡ Plain
unfolding kind_of
kind_n = refl

module _ (text : List ℕ) (s : Span) (i : ℕ) (f : Frame) (fs : List Frame) where
  special_of : (k : Kind) → kind_of (get_or text i 0) ≡ k → special_rest text s i f fs ≡ go_on i (begin_special s i (get_or text i 0) k f fs) (λ next. run (i + 1) next (drop (i + 1) text))
  special_of k e = ap (λ k. go_on i (begin_special s i (get_or text i 0) k f fs) (λ next. run (i + 1) next (drop (i + 1) text))) e

  special_opens : (c : Bool) → Opens text c i → special_rest text s i f fs ≡ run (i + 1) (state (InRange s i (Wanted (Low c))) f fs) (drop (i + 1) text)
  special_opens c (inl x) = special_of SquareOpen x.1.1 ∙ ap (λ c. run (i + 1) (state (InRange s i (Wanted (Low c))) f fs) (drop (i + 1) text)) (sym x.0)
  special_opens c (inr x) = special_of CurlyOpen x.1.1 ∙ ap (λ c. run (i + 1) (state (InRange s i (Wanted (Low c))) f fs) (drop (i + 1) text)) (sym x.0)

  special_sign : (c : ℕ) → ByteAt text i c → kind_of c ≡ Angle → special_rest text s i f fs ≡ run (i + 1) (state (InRange s i (Sign (c == 62))) f fs) (drop (i + 1) text)
  special_sign c b k = special_of Angle (byte_kind _ _ _ b ∙ k) ∙ ap (λ c. run (i + 1) (state (InRange s i (Sign (c == 62))) f fs) (drop (i + 1) text)) b.1

  sign_equal : (at : ℕ) (up : Bool) → ByteAt text at 61 → run at (state (InRange s i (Sign up)) f fs) (drop at text) ≡ run (at + 1) (state (InRange s i (Wanted (One (sign_of up true)))) f fs) (drop (at + 1) text)
  sign_equal at up b = goes text at (InRange s i (Sign up)) f fs (kind_of (get_or text at 0)) _ b.0 refl (ap (λ c. step (InRange s i (Sign up)) at c (kind_of (get_or text at 0)) f fs) b.1)

  sign_strict : (at : ℕ) (up : Bool) → (ByteAt text at 61 → ⊥) → run at (state (InRange s i (Sign up)) f fs) (drop at text) ≡ run at (state (InRange s i (Wanted (One (sign_of up false)))) f fs) (drop at text)
  sign_strict at up n = alike text at (InRange s i (Sign up)) (InRange s i (Wanted (One (sign_of up false)))) f f fs (λ l. rw (unequal (get_or text at 0) 61 (λ e. n (l, e))) refl) (λ l. refl)

  compare_run : {j : ℕ} {op : Compare} → Compares text i j op → special_rest text s i f fs ≡ run j (state (InRange s i (Wanted (One op))) f fs) (drop j text)
  compare_run (at_least a b) = special_sign 62 a kind_above ∙ sign_equal (i + 1) true b
  compare_run (at_most a b) = special_sign 60 a kind_below ∙ sign_equal (i + 1) false b
  compare_run (above a n) = special_sign 62 a kind_above ∙ sign_strict (i + 1) true n
  compare_run (below a n) = special_sign 60 a kind_below ∙ sign_strict (i + 1) false n

  -- the kinds that begin a range, a comparison or a star
  abbrev BeginsOther : Kind → Type 0
  BeginsOther k = (k ≡ Quote → ⊥) × (k ≡ Blank → ⊥) × (k ≡ Plain → ⊥) × (k ≡ Escape → ⊥)

  other_of : (k j : Kind) → k ≡ j → BeginsOther j → BeginsOther k
  other_of k j e h = ((λ z. h.0 (sym e ∙ z)), (λ z. h.1 (sym e ∙ z)), (λ z. h.2 (sym e ∙ z)), (λ z. h.3 (sym e ∙ z)))

can_end : (text : List ℕ) (s : Span) (n : ℕ) (f : Frame) (fs : List Frame) (op : Compare) (b : Bound) → b ≢ bounds.Unbounded → CanEnd text s n f fs (One op) b
can_end text s n f fs op bounds.Unbounded h = h refl
can_end text s n f fs op (bounds.Quoted x) h = tt
can_end text s n f fs op (bounds.Run x) h = tt

opening_other : (text : List ℕ) (s : Span) (i : ℕ) (f : Frame) (fs : List Frame) (c : Bool) → Opens text c i → BeginsOther text s i f fs (kind_of (get_or text i 0))
opening_other text s i f fs c (inl x) = other_of text s i f fs _ SquareOpen x.1.1 ((λ z. cc), (λ z. cc), (λ z. cc), (λ z. cc))
opening_other text s i f fs c (inr x) = other_of text s i f fs _ CurlyOpen x.1.1 ((λ z. cc), (λ z. cc), (λ z. cc), (λ z. cc))

angle_other : (text : List ℕ) (s : Span) (i : ℕ) (f : Frame) (fs : List Frame) {j : ℕ} {op : Compare} → Compares text i j op → BeginsOther text s i f fs (kind_of (get_or text i 0))
angle_other text s i f fs (at_least a b) = other_of text s i f fs _ Angle (byte_kind _ _ _ a ∙ kind_above) ((λ z. cc), (λ z. cc), (λ z. cc), (λ z. cc))
angle_other text s i f fs (at_most a b) = other_of text s i f fs _ Angle (byte_kind _ _ _ a ∙ kind_below) ((λ z. cc), (λ z. cc), (λ z. cc), (λ z. cc))
angle_other text s i f fs (above a n) = other_of text s i f fs _ Angle (byte_kind _ _ _ a ∙ kind_above) ((λ z. cc), (λ z. cc), (λ z. cc), (λ z. cc))
angle_other text s i f fs (below a n) = other_of text s i f fs _ Angle (byte_kind _ _ _ a ∙ kind_below) ((λ z. cc), (λ z. cc), (λ z. cc), (λ z. cc))

compares_within : {text : List ℕ} {i j : ℕ} {op : Compare} → Compares text i j op → i < length text
compares_within (at_least a b) = a.0
compares_within (at_most a b) = a.0
compares_within (above a n) = a.0
compares_within (below a n) = a.0

opens_within : (text : List ℕ) (i : ℕ) (c : Bool) → Opens text c i → i < length text
opens_within text i c (inl x) = x.1.0
opens_within text i c (inr x) = x.1.0

-- the letters of an `IN` at once behind the colon
in_word_letters : (text : List ℕ) (s : Span) (i : ℕ) (f : Frame) (fs : List Frame) → ByteAt text i 73 → ByteAt text (i + 1) 78 → IsSetOpening text (i + 1 + 1)
    → run i (state (Behind s) f fs) (drop i text) ≡ run (i + 1 + 1) (state (BehindIn s i) f fs) (drop (i + 1 + 1) text)
unfolding said names_set
in_word_letters text s i f fs a b o =
    goes text i (Behind s) f fs Plain _ a.0 (byte_kind _ _ _ a ∙ kind_i) refl
    ∙ ap (λ c. run (i + 1) (state (word (Fielded s) i (c ∷ []) true false) f fs) (drop (i + 1) text)) a.1
    ∙ goes text (i + 1) (word (Fielded s) i (73 ∷ []) true false) f fs Plain _ b.0 (byte_kind _ _ _ b ∙ kind_n) refl
    ∙ ap (λ c. run (i + 1 + 1) (state (word (Fielded s) i (73 ∷ c ∷ []) true false) f fs) (drop (i + 1 + 1) text)) b.1
    ∙ word_in text (i + 1 + 1) s i (73 ∷ 78 ∷ []) true false f fs o refl refl refl

set_opening : {text : List ℕ} {i j : ℕ} → Blanks text i j → StandsAt text j SquareOpen → IsSetOpening text i
set_opening no_blank o = (o.0, inr o.1)
set_opening (blank st r) o = (st.0, inl st.1)

range_all : {text : List ℕ} {i : ℕ} {c d : Bool} {j k l m n o : ℕ} {low high : Bound} → Opens text c i → Blanks text (i + 1) j → Bounds text j k low → Blanks text k l → k < l
    → ByteAt text l 84 → ByteAt text (l + 1) 79 → Blanks text (l + 1 + 1) m → l + 1 + 1 < m → Bounds text m n high → Blanks text n o → Shuts text d o → (s : Span) (f : Frame) (fs : List Frame)
    → special_rest text s i f fs ≡ run (o + 1) (state (After true) (with_operand f (leaf (Some s) (asks.Within i (Between c low high d)))) fs) (drop (o + 1) text)
range_all {text} {i} {c} {d} {l = l} {o = o} {low = low} {high = high} op x lo y lt t to z mt hi u sh s f fs =
    special_opens text s i f fs c op
    ∙ wanted_blanks text s i f fs (Low c) (λ p h. let z : Low c ≡ One p = h in cc) x
    ∙ bound_run text s i f fs (Low c) tt lo
    ∙ low_gap text s i f fs c low y lt
    ∙ letter_t text s i f fs l c low t
    ∙ letter_o text s i f fs (l + 1) c low to
    ∙ to_gap text s i f fs c low z mt
    ∙ bound_run text s i f fs (High c low) tt hi
    ∙ close_blanks text s i f fs c low high u
    ∙ shuts text s i f fs o c d low high sh

-- a special behind a colon, and behind white space there
behind_run_special : {text : List ℕ} {i j : ℕ} {a : Asking} {b : Bool} → Specials text i j a b → (s : Span) (f : Frame) (fs : List Frame)
    → run i (state (Behind s) f fs) (drop i text) ≡ run j (state (After b) (with_operand f (leaf (Some s) a)) fs) (drop j text)
behind_run_special {text} {i} (any_value st) s f fs = goes text i (Behind s) f fs Star _ st.0 st.1 refl
behind_run_special {text} {i} (a_range {c} {d} {j} {k} {l} {m} {n} {o} {low} {high} op x lo y lt t to z mt hi u sh) s f fs =
    let h = opening_other text s i f fs c op in
    behind_special text i s f fs (kind_of (get_or text i 0)) (opens_within text i c op) refl h.0 h.1 h.2 h.3 ∙ range_all op x lo y lt t to z mt hi u sh s f fs
behind_run_special {text} {i} (compared {op = op} {b = b} c bd nb) s f fs =
    let h = angle_other text s i f fs c in
    behind_special text i s f fs (kind_of (get_or text i 0)) (compares_within c) refl h.0 h.1 h.2 h.3 ∙ compare_run text s i f fs c ∙ bound_run text s i f fs (One op) (can_end text s i f fs op b nb) bd
behind_run_special {text} {i} (a_set a b x o r e) s f fs = in_word_letters text s i f fs a b (set_opening x o) ∙ in_set text s i f fs x o r e

spaced_run_special : {text : List ℕ} {i j : ℕ} {a : Asking} {b : Bool} → Specials text i j a b → (s : Span) (f : Frame) (fs : List Frame)
    → run i (state (Spaced s) f fs) (drop i text) ≡ run j (state (After b) (with_operand f (leaf (Some s) a)) fs) (drop j text)
spaced_run_special {text} {i} (any_value st) s f fs = goes text i (Spaced s) f fs Star _ st.0 st.1 refl
spaced_run_special {text} {i} (a_range {c} op x lo y lt t to z mt hi u sh) s f fs =
    let h = opening_other text s i f fs c op in
    spaced_special text i s f fs (opens_within text i c op) h.1 h.2 ∙ range_all op x lo y lt t to z mt hi u sh s f fs
spaced_run_special {text} {i} (compared {op = op} {b = b} c bd nb) s f fs =
    let h = angle_other text s i f fs c in
    spaced_special text i s f fs (compares_within c) h.1 h.2 ∙ compare_run text s i f fs c ∙ bound_run text s i f fs (One op) (can_end text s i f fs op b nb) bd
spaced_run_special {text} {i} (a_set a b x o r e) s f fs = letter_i text i s f fs a.0 (byte_kind _ _ _ a ∙ kind_i) a.1 ∙ letter_n text (i + 1) i s f fs b.0 b.1 ∙ in_set text s i f fs x o r e

spaced_blanks : {text : List ℕ} {i j : ℕ} → Blanks text i j → (s : Span) (f : Frame) (fs : List Frame) → run i (state (Spaced s) f fs) (drop i text) ≡ run j (state (Spaced s) f fs) (drop j text)
spaced_blanks no_blank s f fs = refl
spaced_blanks {text} {i} (blank st r) s f fs = goes text i (Spaced s) f fs Blank _ st.0 st.1 refl ∙ spaced_blanks r s f fs

special_run : {text : List ℕ} {i j k : ℕ} {a : Asking} {b : Bool} → Blanks text i j → Specials text j k a b → (s : Span) (f : Frame) (fs : List Frame)
    → run i (state (Behind s) f fs) (drop i text) ≡ run k (state (After b) (with_operand f (leaf (Some s) a)) fs) (drop k text)
special_run no_blank x s f fs = behind_run_special x s f fs
special_run {text} {i} (blank st r) x s f fs = goes text i (Behind s) f fs Blank _ st.0 st.1 refl ∙ spaced_blanks r s f fs ∙ spaced_run_special x s f fs

-- an operand begins with no white space and no closing bracket, and no `AND` or `OR`: so it reads alike behind another
pub word_joined : {text : List ℕ} {i j : ℕ} {s : Said} (w : Word text i j s) → (s ≡ SaidAnd → ⊥) → (s ≡ SaidOr → ⊥) → (f : Frame) (fs : List Frame)
    → run i (state (After true) f fs) (drop i text) ≡ from_operand i f fs (drop i text)
word_joined {text} {i} {j} w a b f fs =
    let l : i < length text = omega (arith, w.some, word_within w.letters w.some) in
    after_word text i f fs l w.begins ∙ letters_run text Joined i f fs w.letters w.some
    ∙ no_joined text j i w.plain false f fs w.ends (λ l. refl) (λ l. inr ((λ h. a (sym w.says ∙ h)), (λ h. b (sym w.says ∙ h))))
    ∙ sym (letters_run text First i f fs w.letters w.some) ∙ sym (operand_word text i f fs l w.begins)

pub kind_joined : (text : List ℕ) (i : ℕ) (k : Kind) → StandsAt text i k → (k ≡ Blank → ⊥) → (k ≡ Close → ⊥) → (k ≡ Plain → ⊥) → (k ≡ Angle → ⊥) → (k ≡ Escape → ⊥) → (f : Frame) (fs : List Frame)
    → run i (state (After true) f fs) (drop i text) ≡ from_operand i f fs (drop i text)
kind_joined text i k s a b d e g f fs = other_joined text i f fs k s.0 s.1 a b d e g

asks_joined : {text : List ℕ} {i j : ℕ} {a : Asking} → Asks text i j a → (f : Frame) (fs : List Frame) → run i (state (After true) f fs) (drop i text) ≡ from_operand i f fs (drop i text)
asks_joined (a_word w c s) f fs = word_joined w (λ h. cc) (λ h. cc) f fs
asks_joined (a_prefix w s) f fs = word_joined w (λ h. cc) (λ h. cc) f fs
asks_joined {text} {i} (a_quote s q e) f fs = kind_joined text i Quote s (λ h. cc) (λ h. cc) (λ h. cc) (λ h. cc) (λ h. cc) f fs

unary_joined : {text : List ℕ} {t : Tree} {i j n : ℕ} {b : Bool} → Unary text t i j b n → (f : Frame) (fs : List Frame) → run i (state (After true) f fs) (drop i text) ≡ from_operand i f fs (drop i text)
unary_joined (by_not w g u) f fs = word_joined w (λ h. cc) (λ h. cc) f fs
unary_joined {text} {t} {i} (by_plus s u) f fs = kind_joined text i Plus s (λ h. cc) (λ h. cc) (λ h. cc) (λ h. cc) (λ h. cc) f fs
unary_joined {text} {t} {i} (by_minus s u) f fs = kind_joined text i Minus s (λ h. cc) (λ h. cc) (λ h. cc) (λ h. cc) (λ h. cc) f fs
unary_joined {text} {t} {i} (anything s) f fs = kind_joined text i Star s (λ h. cc) (λ h. cc) (λ h. cc) (λ h. cc) (λ h. cc) f fs
unary_joined {text} {t} {i} (by_bracket s x u y e) f fs = kind_joined text i Open s (λ h. cc) (λ h. cc) (λ h. cc) (λ h. cc) (λ h. cc) f fs
unary_joined (of_defaults a) f fs = asks_joined a f fs
unary_joined (of_field w c n m a) f fs = word_joined w (λ h. cc) (λ h. cc) f fs
unary_joined (of_special w c x y) f fs = word_joined w (λ h. cc) (λ h. cc) f fs

-- no white space stands where an operand begins
pub begins_no_blank : (k : Kind) → begins_word k ≡ true → k ≡ Blank → ⊥
begins_no_blank Blank e h = absurd (let x : false ≡ true = e in cc)
begins_no_blank _ e h = cc

asks_no_blank : {text : List ℕ} {i j : ℕ} {a : Asking} → Asks text i j a → kind_of (get_or text i 0) ≡ Blank → ⊥
asks_no_blank {text} {i} (a_word w c s) h = begins_no_blank (kind_of (get_or text i 0)) w.begins h
asks_no_blank {text} {i} (a_prefix w s) h = begins_no_blank (kind_of (get_or text i 0)) w.begins h
asks_no_blank (a_quote s q e) h = other_kind s.1 h
  where
    other_kind : {k : Kind} → k ≡ Quote → k ≡ Blank → ⊥
    other_kind a b = absurd (let x : Quote ≡ Blank = sym a ∙ b in cc)

unary_no_blank : {text : List ℕ} {t : Tree} {i j n : ℕ} {b : Bool} → Unary text t i j b n → kind_of (get_or text i 0) ≡ Blank → ⊥
unary_no_blank {text} {t} {i} (by_not w g u) h = begins_no_blank (kind_of (get_or text i 0)) w.begins h
unary_no_blank (by_plus s u) h = let x : Plus ≡ Blank = sym s.1 ∙ h in cc
unary_no_blank (by_minus s u) h = let x : Minus ≡ Blank = sym s.1 ∙ h in cc
unary_no_blank (anything s) h = let x : Star ≡ Blank = sym s.1 ∙ h in cc
unary_no_blank (by_bracket s x u y e) h = let x : Open ≡ Blank = sym s.1 ∙ h in cc
unary_no_blank (of_defaults a) h = asks_no_blank a h
unary_no_blank {text} {t} {i} (of_field w c n m a) h = begins_no_blank (kind_of (get_or text i 0)) w.begins h
unary_no_blank {text} {t} {i} (of_special w c x y) h = begins_no_blank (kind_of (get_or text i 0)) w.begins h

ands_no_blank : {text : List ℕ} {t : Trees} {i j n : ℕ} {b : Bool} → Ands text t i j b n → kind_of (get_or text i 0) ≡ Blank → ⊥
ands_no_blank (one_operand u) h = unary_no_blank u h
ands_no_blank (next_operand a g u) h = ands_no_blank a h
ands_no_blank (by_and a g w x u) h = ands_no_blank a h

pub ors_no_blank : {text : List ℕ} {t : Trees} {i j n : ℕ} {b : Bool} → Ors text t i j b n → kind_of (get_or text i 0) ≡ Blank → ⊥
ors_no_blank (one_and a) h = ands_no_blank a h
ors_no_blank (by_or o g w x a) h = ors_no_blank o h

-- the members of a bracket so far
abbrev pub at_depth : ℕ → Trees → Trees → Frame
at_depth d ors ands = record { ors = ors; ands = ands; negations = 0; base = d; deep = d }

-- behind a gap an operand begins
gap_operand : {text : List ℕ} {t : Tree} {i j k n : ℕ} {a b : Bool} → Gap text a i j → Unary text t j k b n → (f : Frame) (fs : List Frame)
    → run i (state (After a) f fs) (drop i text) ≡ from_operand j f fs (drop j text)
gap_operand g u f fs = gap_joined g.0 g.1 f fs ∙ unary_joined u f fs

-- behind a gap an operator stands
pub gap_and : {text : List ℕ} {i j k m : ℕ} {a : Bool} → Gap text a i j → Word text j k SaidAnd → Gap text false k m → (kind_of (get_or text m 0) ≡ Blank → ⊥) → (f : Frame) (fs : List Frame)
    → run i (state (After a) f fs) (drop i text) ≡ from_operand m f fs (drop m text)
gap_and {text} {i} {j} {k} {m} g w x n f fs = gap_joined g.0 g.1 f fs
    ∙ after_word text j f fs (omega (arith, w.some, word_within w.letters w.some)) w.begins ∙ letters_run text Joined j f fs w.letters w.some
    ∙ and_wants text k j w.plain false f fs (gap_operator x) refl w.says ∙ blanks_want x.0 f fs ∙ want_operand text m true f fs (λ l. n)

pub gap_or : {text : List ℕ} {i j k m : ℕ} {a : Bool} → Gap text a i j → Word text j k SaidOr → Gap text false k m → (kind_of (get_or text m 0) ≡ Blank → ⊥) → (f : Frame) (fs : List Frame)
    → run i (state (After a) f fs) (drop i text) ≡ from_operand m (with_or f) fs (drop m text)
gap_or {text} {i} {j} {k} {m} g w x n f fs = gap_joined g.0 g.1 f fs
    ∙ after_word text j f fs (omega (arith, w.some, word_within w.letters w.some)) w.begins ∙ letters_run text Joined j f fs w.letters w.some
    ∙ or_wants text k j w.plain false f fs (gap_operator x) refl w.says ∙ blanks_want x.0 (with_or f) fs ∙ want_operand text m true (with_or f) fs (λ l. n)

-- a bracket closes behind its members, and white space
close_bracket : {text : List ℕ} {i j : ℕ} → Blanks text i j → StandsAt text j Close → (b : Bool) (d : ℕ) (ors a : Trees) (u : Tree) (f : Frame) (fs : List Frame)
    → run i (state (After b) (at_depth d ors (behind a u)) (f ∷ fs)) (drop i text) ≡ run (j + 1) (state (After true) (with_operand f (Group (or_tree (behind ors (and_tree (behind a u)))))) fs) (drop (j + 1) text)
close_bracket {text} {i} no_blank s b d ors a u f fs = goes text i (After b) (at_depth d ors (behind a u)) (f ∷ fs) Close _ s.0 s.1 refl
close_bracket {text} {i} {j} (blank x r) s b d ors a u f fs = goes text i (After b) (at_depth d ors (behind a u)) (f ∷ fs) Blank _ x.0 x.1 refl
    ∙ blanks_after r (at_depth d ors (behind a u)) (f ∷ fs) ∙ goes text j (After true) (at_depth d ors (behind a u)) (f ∷ fs) Close _ s.0 s.1 refl

ands_some : {text : List ℕ} {t : Trees} {i j n : ℕ} {b : Bool} → Ands text t i j b n → (s : Trees) × (u : Tree) × (t ≡ behind s u)
ands_some (one_operand u) = (_, _, refl)
ands_some (next_operand a g u) = (_, _, refl)
ands_some (by_and a g w x u) = (_, _, refl)

-- the members of a bracket as they were read
abbrev pub Members : List ℕ → Trees → ℕ → ℕ → Bool → ℕ → List Frame → Type 0
Members text t i j b d fs = (ors : Trees) × (a : Trees) × (u : Tree) × (behind ors (and_tree (behind a u)) ≡ t) × (from_operand i (fresh d) fs (drop i text) ≡ run j (state (After b) (at_depth d ors (behind a u)) fs) (drop j text))

mutual
  unary_run : {text : List ℕ} {t : Tree} {i j n : ℕ} {b : Bool} → Unary text t i j b n → (d : ℕ) → n + d ≤ 64 → (f : Frame) (fs : List Frame)
      → operand_rest text d i f fs ≡ run j (state (After b) (with_operand f t) fs) (drop j text)
  unary_run {text} {t} {i} (by_not {j = j} {k = k} w g u) d l f fs =
      word_run w (sunk d f) fs
      ∙ not_wants text j i w.plain false d f fs w.ends (gap_operator g) refl w.says (omega arith)
      ∙ blanks_want g.0 (negated (sunk d f)) fs
      ∙ want_operand text k true (negated (sunk d f)) fs (λ m. unary_no_blank u)
      ∙ unary_run u (d + 1) (omega arith) (negated f) fs
  unary_run {text} {t} {i} (by_plus s u) d l f fs = operand_plus text d i f fs s.0 s.1 (omega arith) ∙ unary_run u (d + 1) (omega arith) f fs
  unary_run {text} {t} {i} (by_minus s u) d l f fs = operand_minus text d i f fs s.0 s.1 (omega arith) ∙ unary_run u (d + 1) (omega arith) (negated f) fs
  unary_run {text} {t} {i} (anything s) d l f fs = operand_star text d i f fs s.0 s.1
  unary_run {text} {t} {i} (by_bracket {j = j} {l = last} s x u y e) d l f fs =
      let m : Members text _ j _ _ (d + 1) (sunk d f ∷ fs) = ors_run u (d + 1) (omega arith) (sunk d f ∷ fs) in
      operand_open text d i f fs s.0 s.1 (omega arith)
      ∙ blanks_want x (fresh (d + 1)) (sunk d f ∷ fs)
      ∙ want_operand text j true (fresh (d + 1)) (sunk d f ∷ fs) (λ z. ors_no_blank u)
      ∙ m.4
      ∙ close_bracket y e _ (d + 1) m.0 m.1 m.2 (sunk d f) fs
      ∙ ap (λ x. run (last + 1) (state (After true) (with_operand f (Group (or_tree x))) fs) (drop (last + 1) text)) m.3
  unary_run {text} {t} {i} (of_defaults a) d l f fs = asks_run a (sunk d f) fs
  unary_run {text} {t} {i} (of_field {j = j} w c n m a) d l f fs = word_run w (sunk d f) fs ∙ named_field text j i _ w.plain (sunk d f) fs c.0 c.1 w.says ∙ field_run a n m (span i j) (sunk d f) fs
  unary_run {text} {t} {i} (of_special {j = j} w c x y) d l f fs = word_run w (sunk d f) fs ∙ named_field text j i _ w.plain (sunk d f) fs c.0 c.1 w.says ∙ special_run x y (span i j) (sunk d f) fs

  ands_run : {text : List ℕ} {t : Trees} {i j n : ℕ} {b : Bool} → Ands text t i j b n → (d : ℕ) → n + d ≤ 64 → (ors : Trees) (fs : List Frame)
      → from_operand i (at_depth d ors no_trees) fs (drop i text) ≡ run j (state (After b) (at_depth d ors t) fs) (drop j text)
  ands_run (one_operand u) d l ors fs = unary_run u d l (at_depth d ors no_trees) fs
  ands_run (next_operand {s = s} a g u) d l ors fs = ands_run a d l ors fs ∙ gap_operand g u (at_depth d ors s) fs ∙ unary_run u d l (at_depth d ors s) fs
  ands_run (by_and {s = s} a g w x u) d l ors fs = ands_run a d l ors fs ∙ gap_and g w x (unary_no_blank u) (at_depth d ors s) fs ∙ unary_run u d l (at_depth d ors s) fs

  pub ors_run : {text : List ℕ} {t : Trees} {i j n : ℕ} {b : Bool} → Ors text t i j b n → (d : ℕ) → n + d ≤ 64 → (fs : List Frame) → Members text t i j b d fs
  ors_run {text} {j = j} {b = b} (one_and a) d l fs =
      let x = ands_some a in
      (no_trees, x.0, x.1, ap (λ t. behind no_trees (and_tree t)) (sym x.2), ands_run a d l no_trees fs ∙ ap (λ t. run j (state (After b) (at_depth d no_trees t) fs) (drop j text)) x.2)
  ors_run {text} {j = j} {b = b} (by_or {s = s} {t = t} o g w x a) d l fs =
      let m : Members _ _ _ _ _ d fs = ors_run o d l fs in
      let y = ands_some a in
      let ors : Trees = behind m.0 (and_tree (behind m.1 m.2)) in (
        behind m.0 (and_tree (behind m.1 m.2)),
        y.0,
        y.1,
        ap (λ s. behind s (and_tree (behind y.0 y.1))) m.3 ∙ ap (λ t. behind s (and_tree t)) (sym y.2),
        m.4 ∙ gap_or g w x (ands_no_blank a) (at_depth d m.0 (behind m.1 m.2)) fs ∙ ands_run a d l (behind m.0 (and_tree (behind m.1 m.2))) fs
            ∙ ap (λ t. run j (state (After b) (at_depth d (behind m.0 (and_tree (behind m.1 m.2))) t) fs) (drop j text)) y.2,
      )

-- white space behind the whole, and its end
end_whole : {text : List ℕ} {i j : ℕ} → Blanks text i j → j ≡ length text → (b : Bool) (ors a : Trees) (u : Tree) → run i (state (After b) (at_depth 0 ors (behind a u)) []) (drop i text) ≡ Ok (or_tree (behind ors (and_tree (behind a u))))
end_whole {text} {i} no_blank e b ors a u = ends text i (After b) (at_depth 0 ors (behind a u)) [] (omega arith)
end_whole {text} {i} {j} (blank x r) e b ors a u = goes text i (After b) (at_depth 0 ors (behind a u)) [] Blank _ x.0 x.1 refl
    ∙ blanks_after r (at_depth 0 ors (behind a u)) [] ∙ ends text j (After true) (at_depth 0 ors (behind a u)) [] (omega arith)

-- what is in the grammar is read
pub query_reads : {n : ℕ} {text : List ℕ} {t : Tree} → IsQuery n text t → n ≤ 64 → reads text ≡ Ok t
query_reads {n} {text} {t} q l =
    let m : Members text q.members q.from q.to q.bracket 0 [] = ors_run q.ors 0 (omega arith) [] in
    blanks_want q.before (fresh 0) [] ∙ want_operand text q.from true (fresh 0) [] (λ z. ors_no_blank q.ors) ∙ m.4 ∙ end_whole q.after refl q.bracket m.0 m.1 m.2 ∙ ap (λ x. Ok (or_tree x)) m.3 ∙ ap Ok q.whole
