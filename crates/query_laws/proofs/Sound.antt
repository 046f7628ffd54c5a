-- What the machine reads is in the grammar.
use Rattle.std.proofs.Common.{◌≡◌, ◌⊎◌, inl, inr, Option, Some, None, ℕ, zero, suc, ◌+◌, ◌-◌, ◌<◌, ◌≤◌, ◌==◌, Bool, true, false, List, [], ◌∷◌, ◌++◌, length, drop, get_or, Result, Ok, Err, refl, ap, sym, ◌∙◌, arith, if◌then◌else◌, subst, nat_lt}
use Rattle.std.specs.Prelude.{slice_range}
use Rattle.std.proofs.lemmas.Bool.{eqb-true, ltb-true, ltb-false}
use Rattle.query_reader.proofs.Steps.{steps, ends, slice_more}
use Rattle.query_laws.proofs.Complete.{slice_one, slice_two, bytes_two}
use Rattle.query_laws.proofs.Reached.{Chain, chain_and, chain_or, chain_whole, OperandFn, WantFn, Ended, Outer, FieldLead, SetLead, Lead, LettersSoFar, InWordInv, InQuoteInv, BehindInv, SpacedInv, LetterInv, BehindInInv, Spotted, LowDone, StarSoFar, RangeInv, InRangeInv, RangeHolds, ModeInv, Inv, Holds, blanks_more, blanks_le, so_far_below, nest_holds, begins_of, ended_at, ended_operand, deep_unary, gap_of, angle_byte, first, low_spot, high_spot, one_spot}
use Rattle.query_reader.specs.Kinds.{kind_of, said, names_set, ends_word, begins_word, StandsAt, ByteAt}
use Rattle.query_reader.specs.Asking.{Asking}
use Rattle.query_reader.specs.Asking as asks
use Rattle.query_reader.specs.Tree.{Tree, no_trees, behind, and_tree, or_tree, Group, Not}
use Rattle.query_reader.specs.Ranges.{ends_run, run_bound, edge_closed, edge_before, behind_low, close_range, want_bound, want_blank, quoting, behind_to, range_step, range_end, sign_of}
use Rattle.query_reader.specs.Machine.{run, state, State, Frame, Mode, Step, Go, Stuck, go_on, step, finish, begin, Role, First, Joined, Fielded, InASet, Want, After, InWord, InQuote, Behind, Spaced, LetterI, BehindIn, InSet, InRange, with_operand, with_or, leaf, negated, fresh, reads, start, limit, nest, begin_special, step_want, step_after, step_behind, step_spaced, step_in, step_set, step_word, step_quote, end_word, end_field, end_prefix, end_plain, end_not, behind_operator, behind_not, behind_in, after_not, close_with, whole, whole_with, done_with, finished, finish_plain, finish_not, finish_word, finish_range, move_range, more_of, Head, Deep}
use Rattle.query_reader.specs.Reading.{IsSetOpening}
use Rattle.query_reader.specs.Grammar.{Blanks, Letters, Word, NoSetWord, Quotes, Asks, Run, Bounds, Items, Shuts, Specials, Gap, Ors, Unary, IsQuery, span, member, the_whole, a_bracket, Wants, wants_first, wants_and, wants_or, wants_negated, wants_signed, Nests, IsTooDeepAt}
use Rattle.query_reader.specs.Grammar.{no_blank, blank, no_letter, letter, escaped_letter, no_quoted, quoted_byte, escaped_byte, a_word, a_prefix, a_quote, run_one, run_more, a_star, a_quoted, a_run, at_least, at_most, above, below, no_item, item_blank, item_word, item_quoted, any_value, a_range, compared, a_set, one_operand, by_not, by_plus, by_minus, anything, by_bracket, of_defaults, of_field, of_special}
use Rattle.query_reader.specs.declared.kind.Kind.{Kind}
use Rattle.query_reader.specs.declared.kind.Kind.TheVariants.{Blank, Quote, Open, Close, Star, Colon, Plus, Minus, Escape, Angle, SquareOpen, SquareClose, CurlyOpen, CurlyClose, Reserved, Plain}
use Rattle.query_reader.specs.declared.kind.Said.{Said}
use Rattle.query_reader.specs.declared.kind.Said.TheVariants.{SaidWord, SaidAnd, SaidOr, SaidNot}
use Rattle.query_reader.specs.declared.tree.Span.{Span}
use Rattle.query_reader.specs.declared.special.Member.{Member}
use Rattle.query_reader.specs.declared.special.Bound.{Bound}
use Rattle.query_reader.specs.declared.special.Bound.TheVariants as bounds
use Rattle.query_reader.specs.declared.special.Compare.{Compare}
use Rattle.query_reader.specs.declared.special.Compare.TheVariants.{AtLeast, AtMost, Above, Below}
use Rattle.query_reader.specs.declared.special.Ranged.TheVariants.{Between, Compared}
use Rattle.query_reader.specs.declared.special.Spot.{Spot}
use Rattle.query_reader.specs.declared.special.Spot.TheVariants.{Low, High, One}
use Rattle.query_reader.specs.declared.special.RangeMode.TheVariants.{Wanted, Quoting, Running, BehindLow, LetterT, BehindTo, Closing, Sign}
use Rattle.query_reader.specs.declared.special.RangeMode.{RangeMode}
use Rattle.query_reader.specs.declared.special.Ranged.{Ranged}
use Rattle.query_reader.specs.declared.special.RangeStep.{RangeStep}
use Rattle.query_reader.specs.declared.special.RangeStep.TheVariants as moves
use Rattle.query_reader.specs.declared.fault.Fault.{Fault}
use Rattle.query_reader.specs.declared.fault.Fault.TheVariants as faults

module _ (text : List ℕ) (at : ℕ) (l : at < length text) where
  open_holds : (n : ℕ) (from : ℕ) (f : Frame) (fs : List Frame) → StandsAt text at Open → Outer text fs from f.base → OperandFn text from at f → n ≡ at
      → Holds text at (nest n f (state (Want true) (fresh (f.deep + 1)) (f ∷ fs)))
  open_holds n from f fs s o g e = nest_holds text at n f.deep _ (subst (λ i. Wants text f.deep i) (sym e) g.1) g.2 (subst (λ i. Nests text i) (sym e) (inl s)) (λ d. (at + 1, (at, from, refl, s, refl, d, g, o), λ i x. (λ t k b u. first x (one_operand u), wants_first (a_bracket g.1 s) x, omega (arith, d))))

  begin_holds : (joined : Bool) (k : Kind) (from : ℕ) (f : Frame) (fs : List Frame) → kind_of (get_or text at 0) ≡ k → Outer text fs from f.base → OperandFn text from at f
      → (joined ≡ true → Ended text from at true f) → Holds text at (begin joined at (get_or text at 0) k f fs)
  begin_holds true Plain from f fs e o g j = (from, o, record { start = at; operand = g; lead = refl; first = rw e refl; bytes = sym (slice_one text at l); letters = (letter no_letter l (rw e refl) (λ h. let x : Plain ≡ Escape = sym e ∙ h in cc), omega arith); joined = λ h. j refl })
  begin_holds true Angle from f fs e o g j = (from, o, record { start = at; operand = g; lead = refl; first = rw e refl; bytes = sym (slice_one text at l); letters = (letter no_letter l (rw e refl) (λ h. let x : Angle ≡ Escape = sym e ∙ h in cc), omega arith); joined = λ h. j refl })
  begin_holds true Escape from f fs e o g j = (from, o, record { start = at; operand = g; lead = refl; first = rw e refl; bytes = sym (slice_one text at l); letters = (at, true, refl, no_letter, (l, e)); joined = λ h. j refl })
  begin_holds false Plain from f fs e o g j = (from, o, record { start = at; operand = g; lead = refl; first = rw e refl; bytes = sym (slice_one text at l); letters = (letter no_letter l (rw e refl) (λ h. let x : Plain ≡ Escape = sym e ∙ h in cc), omega arith); joined = λ h. absurd (let x : First ≡ Joined = h in cc) })
  begin_holds false Angle from f fs e o g j = (from, o, record { start = at; operand = g; lead = refl; first = rw e refl; bytes = sym (slice_one text at l); letters = (letter no_letter l (rw e refl) (λ h. let x : Angle ≡ Escape = sym e ∙ h in cc), omega arith); joined = λ h. absurd (let x : First ≡ Joined = h in cc) })
  begin_holds false Escape from f fs e o g j = (from, o, record { start = at; operand = g; lead = refl; first = rw e refl; bytes = sym (slice_one text at l); letters = (at, true, refl, no_letter, (l, e)); joined = λ h. absurd (let x : First ≡ Joined = h in cc) })
  begin_holds joined Quote from f fs e o g j = (from, o, record { start = at; mark = at; operand = g; lead = refl; quote = (l, e); behind = refl; quotes = no_quoted })
  begin_holds joined Star from f fs e o g j = (from, o, ended_at f (leaf None asks.Any) false (g.0 _ (at + 1) false (anything (l, e))) (λ h. absurd (let x : false ≡ true = h in cc)))
  begin_holds joined Open from f fs e o g j = open_holds at from f fs (l, e) o g refl
  begin_holds joined Plus from f fs e o g j = nest_holds text at at f.deep _ g.1 g.2 (inr (inl (l, e))) (λ d. (from, o, (λ t k b u. g.0 t k b (deep_unary d (by_plus (l, e) u)), wants_signed g.1 (inl (l, e)), omega (arith, d))))
  begin_holds joined Minus from f fs e o g j = nest_holds text at at f.deep _ g.1 g.2 (inr (inr (inl (l, e)))) (λ d. (from, o, (λ t k b u. g.0 (Not t) k b (deep_unary d (by_minus (l, e) u)), wants_signed g.1 (inr (l, e)), omega (arith, d))))
  begin_holds joined Blank from f fs e o g j = tt
  begin_holds joined Colon from f fs e o g j = tt
  begin_holds joined Close from f fs e o g j = tt
  begin_holds joined SquareOpen from f fs e o g j = tt
  begin_holds joined SquareClose from f fs e o g j = tt
  begin_holds joined CurlyOpen from f fs e o g j = tt
  begin_holds joined CurlyClose from f fs e o g j = tt
  begin_holds joined Reserved from f fs e o g j = tt

  want_holds : (k : Kind) (from : ℕ) (f : Frame) (fs : List Frame) → kind_of (get_or text at 0) ≡ k → Outer text fs from f.base → WantFn text from at f → Holds text at (step_want true at (get_or text at 0) k f fs)
  want_holds Blank from f fs e o g = (from, o, λ i x. g i (blank (l, e) x))
  want_holds k from f fs e o g = begin_holds false k from f fs e o (g at no_blank) (λ h. absurd (let x : false ≡ true = h in cc))

  tight_holds : (k : Kind) (from : ℕ) (f : Frame) (fs : List Frame) → kind_of (get_or text at 0) ≡ k → Outer text fs from f.base → OperandFn text from at f → Holds text at (step_want false at (get_or text at 0) k f fs)
  tight_holds Blank from f fs e o g = tt
  tight_holds k from f fs e o g = begin_holds false k from f fs e o g (λ h. absurd (let x : false ≡ true = h in cc))

  -- a closing bracket
  close_holds : (fs : List Frame) (from : ℕ) (f : Frame) (free : Bool) → StandsAt text at Close → Outer text fs from f.base → (x : Ended text from at free f) → Holds text at (close_with (Some (or_tree (behind f.ors (and_tree (behind x.front x.last))))) fs)
  close_holds [] from f free s o x = tt
  close_holds (g ∷ gs) from f free s o x =
      let w = chain_whole x.chain in
      let ors : Ors text (behind f.ors (and_tree (behind x.front x.last))) w.0 x.end x.bracket (64 - (g.deep + 1)) = subst (λ d. Ors text (behind f.ors (and_tree (behind x.front x.last))) w.0 x.end x.bracket (64 - d)) o.4 w.2 in
      let bl : Blanks text (o.0 + 1) w.0 = subst (λ i. Blanks text i w.0) o.2 w.1 in
      (o.1, o.7, ended_at g (Group (or_tree (behind f.ors (and_tree (behind x.front x.last))))) true (o.6.0 _ (at + 1) true (deep_unary o.5 (by_bracket o.3 bl ors x.blanks s))) (λ h. refl))

  after_holds : (free : Bool) (k : Kind) (from : ℕ) (f : Frame) (fs : List Frame) → kind_of (get_or text at 0) ≡ k → Outer text fs from f.base → Ended text from at free f → Holds text at (step_after free at (get_or text at 0) k f fs)
  after_holds free Blank from f fs e o x = (from, o, record { front = x.front; last = x.last; end = x.end; bracket = x.bracket; some = x.some; clean = x.clean; level = x.level; chain = x.chain; blanks = blanks_more x.blanks (l, e); gap = λ h. inl (omega (arith, blanks_le x.blanks)) })
  after_holds free Close from f fs e o x = rw x.some (close_holds fs from f free (l, e) o x)
  after_holds free Open from f fs e o x = open_holds at from f fs (l, e) o (ended_operand fs o x (inr (inr (l, e)))) refl
  after_holds true k from f fs e o x = begin_holds true k from f fs e o (ended_operand fs o x (gap_of x)) (λ h. x)
  after_holds false k from f fs e o x = tt

  -- what is asked, of a field or of the default fields
  asked_first : {start q k : ℕ} {n : ℕ} {a : Asking} → q ≡ start → Asks text q k a → Unary text (leaf None a) start k false n
  asked_first {start} {q} {k} {n} {a} e x = subst (λ i. Unary text (leaf None a) i k false n) e (of_defaults x)

  asked_field : {start q k : ℕ} {n : ℕ} {a : Asking} (s : Span) → Lead text (Fielded s) start q → NoSetWord text a → Asks text q k a → Unary text (leaf (Some s) a) start k false n
  asked_field {start} {q} {k} {n} {a} s e m x =
      let y : Asks text (e.0 + 1) k a = subst (λ i. Asks text i k a) e.4 x in
      let z : kind_of (get_or text (e.0 + 1) 0) ≡ Angle → ⊥ = λ h. e.5 (ap (λ i. kind_of (get_or text i 0)) e.4 ∙ h) in
      subst (λ s. Unary text (leaf (Some s) a) start k false n) (sym e.1) (of_field e.2 e.3 z m y)

  special_unary : {start q k : ℕ} {n : ℕ} {a : Asking} {b : Bool} (s : Span) → FieldLead text s start q → Specials text q k a b → Unary text (leaf (Some s) a) start k b n
  special_unary {start} {q} {k} {n} {a} {b} s x y = subst (λ s. Unary text (leaf (Some s) a) start k b n) (sym x.same) (of_special x.named x.stands x.blanks y)

  no_true : {A : Type 0} → false ≡ true → A
  no_true h = absurd (let y : false ≡ true = h in cc)

  -- a byte of a set
  set_byte : (k : Kind) (from : ℕ) (f : Frame) (fs : List Frame) (s : Span) (n : ℕ) (ms : List Member) (start : ℕ) → kind_of (get_or text at 0) ≡ k → Outer text fs from f.base → OperandFn text from start f → SetLead text s start n ms at
      → Holds text at (step_set s n ms at (get_or text at 0) k f fs)
  set_byte Blank from f fs s n ms start e o g x = (from, o, record { start = start; operand = g; lead = record { lead = x.lead; letter_i = x.letter_i; letter_n = x.letter_n; bracket = x.bracket; blanks = x.blanks; opens = x.opens; items = item_blank x.items (l, e) } })
  set_byte SquareClose from f fs s n ms start e o g x =
      (from, o, ended_at f (leaf (Some s) (asks.OneOf n ms)) true (g.0 _ (at + 1) true (special_unary s x.lead (a_set x.letter_i x.letter_n x.blanks x.opens x.items (l, e)))) (λ h. refl))
  set_byte Quote from f fs s n ms start e o g x = (from, o, record { start = start; mark = at; operand = g; lead = x; quote = (l, e); behind = refl; quotes = no_quoted })
  set_byte Plain from f fs s n ms start e o g x = (from, o, record { start = start; operand = g; lead = x; first = rw e refl; bytes = sym (slice_one text at l); letters = (letter no_letter l (rw e refl) (λ h. let x : Plain ≡ Escape = sym e ∙ h in cc), omega arith); joined = λ h. absurd (let x : InASet s n ms ≡ Joined = h in cc) })
  set_byte Angle from f fs s n ms start e o g x = (from, o, record { start = start; operand = g; lead = x; first = rw e refl; bytes = sym (slice_one text at l); letters = (letter no_letter l (rw e refl) (λ h. let x : Angle ≡ Escape = sym e ∙ h in cc), omega arith); joined = λ h. absurd (let x : InASet s n ms ≡ Joined = h in cc) })
  set_byte Escape from f fs s n ms start e o g x = (from, o, record { start = start; operand = g; lead = x; first = rw e refl; bytes = sym (slice_one text at l); letters = (at, true, refl, no_letter, (l, e)); joined = λ h. absurd (let x : InASet s n ms ≡ Joined = h in cc) })
  set_byte k from f fs s n ms start e o g x = tt

  -- a word ends here
  said_here : (q : ℕ) (bytes : List ℕ) (p : Bool) (s : Said) → begins_word (kind_of (get_or text q 0)) ≡ true → bytes ≡ slice_range text q at → Letters text q at p → q < at
      → ends_word (kind_of (get_or text at 0)) ≡ true → said p bytes ≡ s → Word text q at s
  said_here q bytes p s b y r m d h = record { plain = p; letters = r; begins = b; some = m; ends = λ _. d; says = ap (said p) (sym y) ∙ h }

  -- an operand behind an `AND`
  joined_operand : (from : ℕ) (f : Frame) (fs : List Frame) (q i : ℕ) → Outer text fs from f.base → Ended text from q true f → Word text q at SaidAnd → Gap text false at i → OperandFn text from i f
  joined_operand from f fs q i o x w g =
      let p = begins_of fs from f.base o in
      let c = chain_whole x.chain in (
        λ t k b u. rw (x.some, x.clean) (chain_and x.chain (x.blanks, gap_of x) w g (subst (λ d. Unary text t i k b (64 - d)) x.level u)),
        subst (λ d. Wants text d i) (sym x.level) (wants_and p.0 c.1 c.2 (omega (arith, p.1)) (x.blanks, gap_of x) w g),
        omega (arith, x.level, p.1),
      )

  operator_holds : (from : ℕ) (f : Frame) (fs : List Frame) (q : ℕ) (k : Kind) → kind_of (get_or text at 0) ≡ k → Outer text fs from f.base → Ended text from q true f → Word text q at SaidAnd
      → Holds text at (behind_operator at (get_or text at 0) k f fs)
  operator_holds from f fs q Blank e o x w = (from, o, λ i y. joined_operand from f fs q i o x w (blank (l, e) y, inl (omega (arith, blanks_le y))))
  operator_holds from f fs q Open e o x w = open_holds at from f fs (l, e) o (joined_operand from f fs q at o x w (no_blank, inr (inr (l, e)))) refl
  operator_holds from f fs q _ e o x w = tt

  or_chain : {from q i kk : ℕ} {t : Tree} {b : Bool} (f : Frame) (x : Ended text from q true f) → Word text q at SaidOr → Gap text false at i → Unary text t i kk b (64 - f.base) → Chain text f.base from kk (behind f.ors (and_tree f.ands)) (behind no_trees t) b
  or_chain f x w g u = rw x.some (chain_or x.chain (x.blanks, gap_of x) w g (one_operand u))

  -- an operand behind an `OR`
  either_operand : (from : ℕ) (f : Frame) (fs : List Frame) (q i : ℕ) → Outer text fs from f.base → Ended text from q true f → Word text q at SaidOr → Gap text false at i → OperandFn text from i (with_or f)
  either_operand from f fs q i o x w g =
      let p = begins_of fs from f.base o in
      let c = chain_whole x.chain in
      (λ t k b u. or_chain f x w g u, wants_or p.0 c.1 c.2 (omega (arith, p.1)) (x.blanks, gap_of x) w g, p.1)

  either_holds : (from : ℕ) (f : Frame) (fs : List Frame) (q : ℕ) (k : Kind) → kind_of (get_or text at 0) ≡ k → Outer text fs from f.base → Ended text from q true f → Word text q at SaidOr
      → Holds text at (behind_operator at (get_or text at 0) k (with_or f) fs)
  either_holds from f fs q Blank e o x w = (from, o, λ i y. either_operand from f fs q i o x w (blank (l, e) y, inl (omega (arith, blanks_le y))))
  either_holds from f fs q Open e o x w = open_holds at from (with_or f) fs (l, e) o (either_operand from f fs q at o x w (no_blank, inr (inr (l, e)))) refl
  either_holds from f fs q _ e o x w = tt

  -- an operand behind a `NOT`
  negated_operand_at : (from : ℕ) (f : Frame) (q i : ℕ) → f.deep < 64 → OperandFn text from q f → Word text q at SaidNot → Gap text false at i → OperandFn text from i (negated f)
  negated_operand_at from f q i d g w h =
      (λ t k b u. g.0 (Not t) k b (deep_unary d (by_not w h u)), wants_negated g.1 w h, omega (arith, d))

  not_then : (from : ℕ) (f : Frame) (fs : List Frame) (q : ℕ) (k : Kind) → kind_of (get_or text at 0) ≡ k → f.deep < 64 → Outer text fs from f.base → OperandFn text from q f → Word text q at SaidNot
      → Holds text at (after_not at (get_or text at 0) k f fs)
  not_then from f fs q Blank e d o g w = (from, o, λ i y. negated_operand_at from f q i d g w (blank (l, e) y, inl (omega (arith, blanks_le y))))
  not_then from f fs q Open e d o g w = open_holds at from (negated f) fs (l, e) o (negated_operand_at from f q at d g w (no_blank, inr (inr (l, e)))) refl
  not_then from f fs q _ e d o g w = tt

  not_holds : (from : ℕ) (f : Frame) (fs : List Frame) (q : ℕ) (k : Kind) → kind_of (get_or text at 0) ≡ k → Outer text fs from f.base → OperandFn text from q f → Word text q at SaidNot
      → Holds text at (behind_not q at (get_or text at 0) k f fs)
  not_holds from f fs q k e o g w = go (nat_lt f.deep limit) refl
    where
      go : (b : Bool) → nat_lt f.deep limit ≡ b → Holds text at (if b then after_not at (get_or text at 0) k f fs else Deep q)
      go true h = not_then from f fs q k e (ltb-true f.deep 64 h) o g w
      go false h =
          let full : 64 ≤ f.deep = ltb-false f.deep 64 h in
          record { inside = subst (λ d. Wants text d q) (let y : f.deep ≡ 64 = omega (arith, full, g.2) in y) g.1; nests = inr (inr (inr (at, w))) }

  abbrev Facts : ℕ → Role → ℕ → List ℕ → Bool → Frame → Type 0
  Facts from role q bytes p f = (start : ℕ) × OperandFn text from start f × Lead text role start q × (begins_word (kind_of (get_or text q 0)) ≡ true) × (bytes ≡ slice_range text q at) × Letters text q at p × (q < at) × (role ≡ Joined → Ended text from q true f)

  -- the word behind a field that is no `IN` of a set
  plain_field : (from : ℕ) (f : Frame) (fs : List Frame) (s : Span) (q start : ℕ) (k : Kind) → kind_of (get_or text at 0) ≡ k → (k ≡ Colon → ⊥) → (k ≡ Star → ⊥) → Outer text fs from f.base → OperandFn text from start f → Lead text (Fielded s) start q
      → (IsSetOpening text at → slice_range text q at ≡ 73 ∷ 78 ∷ [] → ⊥) → Word text q at SaidWord
      → Holds text at (step_after false at (get_or text at 0) k (with_operand f (leaf (Some s) (asks.Word (span q at)))) fs)
  plain_field from f fs s q start k e nc ns o g d m w = after_holds false k from (with_operand f (leaf (Some s) (asks.Word (span q at)))) fs e o
      (ended_at f (leaf (Some s) (asks.Word (span q at))) false (g.0 _ at false (asked_field s d m (a_word w (λ x c. nc (sym e ∙ c)) (λ x c. ns (sym e ∙ c))))) no_true)

  set_lead : (s : Span) (q start : ℕ) → Lead text (Fielded s) start q → FieldLead text s start q
  set_lead s q start d = record { colon = d.0; named = d.2; stands = d.3; same = d.1; blanks = subst (λ i. Blanks text (d.0 + 1) i) (sym d.4) no_blank }

  behind_in_holds : (from : ℕ) (f : Frame) (fs : List Frame) (s : Span) (q start : ℕ) (k : Kind) → kind_of (get_or text at 0) ≡ k → (k ≡ Colon → ⊥) → (k ≡ Star → ⊥) → Outer text fs from f.base → OperandFn text from start f → Lead text (Fielded s) start q
      → slice_range text q at ≡ 73 ∷ 78 ∷ [] → q < at → Word text q at SaidWord → Holds text at (behind_in s q at (get_or text at 0) k f fs)
  behind_in_holds from f fs s q start Blank e nc ns o g d h lt w =
      let two = slice_two text q at 73 78 (omega arith) (omega arith) h in
      (from, o, record { start = start; operand = g; lead = set_lead s q start d; letter_i = (omega arith, two.1); letter_n = (omega (arith, two.0), two.2); blanks = subst (λ i. Blanks text i (at + 1)) two.0 (blank (l, e) no_blank) })
  behind_in_holds from f fs s q start SquareOpen e nc ns o g d h lt w =
      let two = slice_two text q at 73 78 (omega arith) (omega arith) h in
      (from, o, record { start = start; operand = g; lead = record { lead = set_lead s q start d; letter_i = (omega arith, two.1); letter_n = (omega (arith, two.0), two.2); bracket = at; blanks = subst (λ i. Blanks text i at) two.0 no_blank; opens = (l, e); items = no_item } })
  behind_in_holds from f fs s q start k e nc ns o g d h lt w = plain_field from f fs s q start k e nc ns o g d (λ z. absurd (other (z.1))) w
    where
      other : (kind_of (get_or text at 0) ≡ Blank) ⊎ (kind_of (get_or text at 0) ≡ SquareOpen) → ⊥
      other (inl z) = let y = sym e ∙ z in cc
      other (inr z) = let y = sym e ∙ z in cc

  end_plain_holds : (from : ℕ) (f : Frame) (fs : List Frame) (role : Role) (q : ℕ) (bytes : List ℕ) (p : Bool) (k : Kind) → kind_of (get_or text at 0) ≡ k → (k ≡ Colon → ⊥) → (k ≡ Star → ⊥)
      → Outer text fs from f.base → Facts from role q bytes p f → Word text q at SaidWord → (b : Bool) → names_set bytes ≡ b → Holds text at (end_plain role b q at (get_or text at 0) k f fs)
  unfolding names_set
  end_plain_holds from f fs First q bytes p k e nc ns o x w b h = after_holds false k from (with_operand f (leaf None (asks.Word (span q at)))) fs e o
      (ended_at f (leaf None (asks.Word (span q at))) false (x.1.0 _ at false (asked_first x.2 (a_word w (λ m c. nc (sym e ∙ c)) (λ m c. ns (sym e ∙ c))))) no_true)
  end_plain_holds from f fs Joined q bytes p k e nc ns o x w b h = after_holds false k from (with_operand f (leaf None (asks.Word (span q at)))) fs e o
      (ended_at f (leaf None (asks.Word (span q at))) false (x.1.0 _ at false (asked_first x.2 (a_word w (λ m c. nc (sym e ∙ c)) (λ m c. ns (sym e ∙ c))))) no_true)
  end_plain_holds from f fs (Fielded s) q bytes p k e nc ns o x w true h = behind_in_holds from f fs s q x.0 k e nc ns o x.1 x.2 (sym x.4 ∙ bytes_two bytes 73 78 h) x.6 w
  end_plain_holds from f fs (Fielded s) q bytes p k e nc ns o x w false h =
      plain_field from f fs s q x.0 k e nc ns o x.1 x.2 (λ z y. let t : true ≡ false = ap names_set (sym (x.4 ∙ y)) ∙ h in cc) w
  end_plain_holds from f fs (InASet s n ms) q bytes p k e nc ns o x w b h =
      set_byte k from f fs s n (ms ++ member q at false ∷ []) x.0 e o x.1 (record { lead = x.2.lead; letter_i = x.2.letter_i; letter_n = x.2.letter_n; bracket = x.2.bracket; blanks = x.2.blanks; opens = x.2.opens; items = item_word x.2.items w })

  end_not_holds : (from : ℕ) (f : Frame) (fs : List Frame) (role : Role) (q : ℕ) (bytes : List ℕ) (p : Bool) (k : Kind) → kind_of (get_or text at 0) ≡ k → Outer text fs from f.base → Facts from role q bytes p f → Word text q at SaidNot
      → Holds text at (end_not role q at (get_or text at 0) k f fs)
  end_not_holds from f fs First q bytes p k e o x w = not_holds from f fs q k e o (subst (λ i. OperandFn text from i f) (sym x.2) x.1) w
  end_not_holds from f fs Joined q bytes p k e o x w = not_holds from f fs q k e o (subst (λ i. OperandFn text from i f) (sym x.2) x.1) w
  end_not_holds from f fs (Fielded s) q bytes p k e o x w = tt
  end_not_holds from f fs (InASet s n ms) q bytes p k e o x w = tt

  end_holds : (from : ℕ) (f : Frame) (fs : List Frame) (role : Role) (q : ℕ) (bytes : List ℕ) (p : Bool) (k : Kind) → kind_of (get_or text at 0) ≡ k → ends_word k ≡ true → (k ≡ Colon → ⊥) → (k ≡ Star → ⊥)
      → Outer text fs from f.base → Facts from role q bytes p f → (s : Said) → said p bytes ≡ s
      → Holds text at (end_word (record { role = role; from = q; bytes = bytes; plain = p; escaped = false }) at (get_or text at 0) k s f fs)
  end_holds from f fs role q bytes p k e d nc ns o x SaidWord h = end_plain_holds from f fs role q bytes p k e nc ns o x (said_here q bytes p SaidWord x.3 x.4 x.5 x.6 (ap ends_word e ∙ d) h) (names_set bytes) refl
  end_holds from f fs Joined q bytes p k e d nc ns o x SaidAnd h = operator_holds from f fs q k e o (x.7 refl) (said_here q bytes p SaidAnd x.3 x.4 x.5 x.6 (ap ends_word e ∙ d) h)
  end_holds from f fs First q bytes p k e d nc ns o x SaidAnd h = tt
  end_holds from f fs (Fielded s) q bytes p k e d nc ns o x SaidAnd h = tt
  end_holds from f fs (InASet s n ms) q bytes p k e d nc ns o x SaidAnd h = tt
  end_holds from f fs Joined q bytes p k e d nc ns o x SaidOr h = either_holds from f fs q k e o (x.7 refl) (said_here q bytes p SaidOr x.3 x.4 x.5 x.6 (ap ends_word e ∙ d) h)
  end_holds from f fs First q bytes p k e d nc ns o x SaidOr h = tt
  end_holds from f fs (Fielded s) q bytes p k e d nc ns o x SaidOr h = tt
  end_holds from f fs (InASet s n ms) q bytes p k e d nc ns o x SaidOr h = tt
  end_holds from f fs role q bytes p k e d nc ns o x SaidNot h = end_not_holds from f fs role q bytes p k e o x (said_here q bytes p SaidNot x.3 x.4 x.5 x.6 (ap ends_word e ∙ d) h)

  colon_holds : (from : ℕ) (f : Frame) (fs : List Frame) (role : Role) (q : ℕ) (bytes : List ℕ) (p : Bool) → kind_of (get_or text at 0) ≡ Colon
      → Outer text fs from f.base → Facts from role q bytes p f → (s : Said) → said p bytes ≡ s
      → Holds text at (end_field (record { role = role; from = q; bytes = bytes; plain = p; escaped = false }) at (get_or text at 0) Colon s f fs)
  colon_holds from f fs First q bytes p e o x SaidWord h =
      (from, o, record { start = q; colon = at; operand = subst (λ i. OperandFn text from i f) (sym x.2) x.1; named = said_here q bytes p SaidWord x.3 x.4 x.5 x.6 (ap ends_word e) h; stands = (l, e); place = refl; same = refl })
  colon_holds from f fs Joined q bytes p e o x SaidWord h =
      (from, o, record { start = q; colon = at; operand = subst (λ i. OperandFn text from i f) (sym x.2) x.1; named = said_here q bytes p SaidWord x.3 x.4 x.5 x.6 (ap ends_word e) h; stands = (l, e); place = refl; same = refl })
  colon_holds from f fs (Fielded s) q bytes p e o x SaidWord h = tt
  colon_holds from f fs (InASet s n ms) q bytes p e o x SaidWord h = tt
  colon_holds from f fs role q bytes p e o x SaidNot h = end_not_holds from f fs role q bytes p Colon e o x (said_here q bytes p SaidNot x.3 x.4 x.5 x.6 (ap ends_word e) h)
  colon_holds from f fs role q bytes p e o x SaidAnd h = tt
  colon_holds from f fs role q bytes p e o x SaidOr h = tt

  star_holds : (from : ℕ) (f : Frame) (fs : List Frame) (role : Role) (q : ℕ) (bytes : List ℕ) (p : Bool) → kind_of (get_or text at 0) ≡ Star
      → Outer text fs from f.base → Facts from role q bytes p f → (s : Said) → said p bytes ≡ s
      → Holds text at (end_prefix (record { role = role; from = q; bytes = bytes; plain = p; escaped = false }) at (get_or text at 0) Star s f fs)
  star_holds from f fs First q bytes p e o x SaidWord h =
      (from, o, ended_at f (leaf None (asks.Prefix (span q at))) false (x.1.0 _ (at + 1) false (asked_first x.2 (a_prefix (said_here q bytes p SaidWord x.3 x.4 x.5 x.6 (ap ends_word e) h) (l, e)))) no_true)
  star_holds from f fs Joined q bytes p e o x SaidWord h =
      (from, o, ended_at f (leaf None (asks.Prefix (span q at))) false (x.1.0 _ (at + 1) false (asked_first x.2 (a_prefix (said_here q bytes p SaidWord x.3 x.4 x.5 x.6 (ap ends_word e) h) (l, e)))) no_true)
  star_holds from f fs (Fielded s) q bytes p e o x SaidWord h =
      (from, o, ended_at f (leaf (Some s) (asks.Prefix (span q at))) false (x.1.0 _ (at + 1) false (asked_field s x.2 tt (a_prefix (said_here q bytes p SaidWord x.3 x.4 x.5 x.6 (ap ends_word e) h) (l, e)))) no_true)
  star_holds from f fs (InASet s n ms) q bytes p e o x SaidWord h = tt
  star_holds from f fs role q bytes p e o x SaidNot h = end_not_holds from f fs role q bytes p Star e o x (said_here q bytes p SaidNot x.3 x.4 x.5 x.6 (ap ends_word e) h)
  star_holds from f fs role q bytes p e o x SaidAnd h = tt
  star_holds from f fs role q bytes p e o x SaidOr h = tt

  -- one more byte of a word
  letter_holds : (from : ℕ) (f : Frame) (fs : List Frame) (h : Head) (x : InWordInv text from at h f) → Outer text fs from f.base → (p b : Bool) → LettersSoFar text h.from (at + 1) p b
      → Holds text at (more_of h (get_or text at 0) p b f fs)
  letter_holds from f fs h x o p b y = (
    from,
    o,
    record {
      start = x.start;
      operand = x.operand;
      lead = x.lead;
      first = x.first;
      bytes = ap (λ bs. bs ++ get_or text at 0 ∷ []) x.bytes ∙ sym (slice_more text h.from at (let z : h.from < at = so_far_below text h.from at h.plain h.escaped x.letters in omega arith) l);
      letters = y;
      joined = x.joined;
    },
  )

  word_holds : (k : Kind) (from : ℕ) (f : Frame) (fs : List Frame) (h : Head) → kind_of (get_or text at 0) ≡ k → Outer text fs from f.base → (x : InWordInv text from at h f) → Letters text h.from at h.plain → h.from < at
      → Holds text at (step_word h at (get_or text at 0) k f fs)
  word_holds Plain from f fs h e o x r m = letter_holds from f fs h x o h.plain false (letter r l (rw e refl) (λ z. let y : Plain ≡ Escape = sym e ∙ z in cc), omega arith)
  word_holds Angle from f fs h e o x r m = letter_holds from f fs h x o h.plain false (letter r l (rw e refl) (λ z. let y : Angle ≡ Escape = sym e ∙ z in cc), omega arith)
  word_holds Minus from f fs h e o x r m = letter_holds from f fs h x o h.plain false (letter r l (rw e refl) (λ z. let y : Minus ≡ Escape = sym e ∙ z in cc), omega arith)
  word_holds Escape from f fs h e o x r m = letter_holds from f fs h x o false true (at, h.plain, refl, r, (l, e))
  word_holds Colon from f fs h e o x r m = colon_holds from f fs h.role h.from h.bytes h.plain e o (x.start, x.operand, x.lead, x.first, x.bytes, r, m, x.joined) (said h.plain h.bytes) refl
  word_holds Star from f fs h e o x r m = star_holds from f fs h.role h.from h.bytes h.plain e o (x.start, x.operand, x.lead, x.first, x.bytes, r, m, x.joined) (said h.plain h.bytes) refl
  word_holds Blank from f fs h e o x r m = end_holds from f fs h.role h.from h.bytes h.plain Blank e refl (λ z. cc) (λ z. cc) o (x.start, x.operand, x.lead, x.first, x.bytes, r, m, x.joined) (said h.plain h.bytes) refl
  word_holds Quote from f fs h e o x r m = end_holds from f fs h.role h.from h.bytes h.plain Quote e refl (λ z. cc) (λ z. cc) o (x.start, x.operand, x.lead, x.first, x.bytes, r, m, x.joined) (said h.plain h.bytes) refl
  word_holds Open from f fs h e o x r m = end_holds from f fs h.role h.from h.bytes h.plain Open e refl (λ z. cc) (λ z. cc) o (x.start, x.operand, x.lead, x.first, x.bytes, r, m, x.joined) (said h.plain h.bytes) refl
  word_holds Close from f fs h e o x r m = end_holds from f fs h.role h.from h.bytes h.plain Close e refl (λ z. cc) (λ z. cc) o (x.start, x.operand, x.lead, x.first, x.bytes, r, m, x.joined) (said h.plain h.bytes) refl
  word_holds Plus from f fs h e o x r m = end_holds from f fs h.role h.from h.bytes h.plain Plus e refl (λ z. cc) (λ z. cc) o (x.start, x.operand, x.lead, x.first, x.bytes, r, m, x.joined) (said h.plain h.bytes) refl
  word_holds SquareOpen from f fs h e o x r m = end_holds from f fs h.role h.from h.bytes h.plain SquareOpen e refl (λ z. cc) (λ z. cc) o (x.start, x.operand, x.lead, x.first, x.bytes, r, m, x.joined) (said h.plain h.bytes) refl
  word_holds SquareClose from f fs h e o x r m = end_holds from f fs h.role h.from h.bytes h.plain SquareClose e refl (λ z. cc) (λ z. cc) o (x.start, x.operand, x.lead, x.first, x.bytes, r, m, x.joined) (said h.plain h.bytes) refl
  word_holds CurlyOpen from f fs h e o x r m = end_holds from f fs h.role h.from h.bytes h.plain CurlyOpen e refl (λ z. cc) (λ z. cc) o (x.start, x.operand, x.lead, x.first, x.bytes, r, m, x.joined) (said h.plain h.bytes) refl
  word_holds CurlyClose from f fs h e o x r m = end_holds from f fs h.role h.from h.bytes h.plain CurlyClose e refl (λ z. cc) (λ z. cc) o (x.start, x.operand, x.lead, x.first, x.bytes, r, m, x.joined) (said h.plain h.bytes) refl
  word_holds Reserved from f fs h e o x r m = end_holds from f fs h.role h.from h.bytes h.plain Reserved e refl (λ z. cc) (λ z. cc) o (x.start, x.operand, x.lead, x.first, x.bytes, r, m, x.joined) (said h.plain h.bytes) refl

  in_word_holds : (b : Bool) (k : Kind) (from : ℕ) (f : Frame) (fs : List Frame) (h : Head) → h.escaped ≡ b → kind_of (get_or text at 0) ≡ k → Outer text fs from f.base → InWordInv text from at h f
      → Holds text at (step (InWord h) at (get_or text at 0) k f fs)
  in_word_holds true k from f fs h z e o x =
      let y : LettersSoFar text h.from at h.plain true = subst (λ b. LettersSoFar text h.from at h.plain b) z x.letters in
      rw z (letter_holds from f fs h x o false false (subst (λ i. Letters text h.from (i + 1) false) (sym y.2) (escaped_letter y.3 y.4 (omega (arith, y.2))), omega (arith, so_far_below text h.from at h.plain true y)))
  in_word_holds false k from f fs h z e o x =
      let y : LettersSoFar text h.from at h.plain false = subst (λ b. LettersSoFar text h.from at h.plain b) z x.letters in
      rw z (word_holds k from f fs h e o x y.0 y.1)

  -- a quotation mark that closes
  quote_closes : (from : ℕ) (f : Frame) (fs : List Frame) (role : Role) (q : ℕ) → kind_of (get_or text at 0) ≡ Quote → Outer text fs from f.base → InQuoteInv text from at role q false f
      → Holds text at (step_quote role q false at Quote f fs)
  quote_closes from f fs First q e o x = (from, o, ended_at f (leaf None (asks.Quoted (span q at))) false (x.operand.0 _ (at + 1) false (asked_first x.lead (closed x))) no_true)
    where
      closed : (x : InQuoteInv text from at First q false f) → Asks text x.mark (at + 1) (asks.Quoted (span q at))
      closed x = subst (λ i. Asks text x.mark (at + 1) (asks.Quoted (span i at))) (sym x.behind) (a_quote x.quote (subst (λ i. Quotes text i at) x.behind x.quotes) (l, e))
  quote_closes from f fs Joined q e o x = (from, o, ended_at f (leaf None (asks.Quoted (span q at))) false (x.operand.0 _ (at + 1) false (asked_first x.lead (closed x))) no_true)
    where
      closed : (x : InQuoteInv text from at Joined q false f) → Asks text x.mark (at + 1) (asks.Quoted (span q at))
      closed x = subst (λ i. Asks text x.mark (at + 1) (asks.Quoted (span i at))) (sym x.behind) (a_quote x.quote (subst (λ i. Quotes text i at) x.behind x.quotes) (l, e))
  quote_closes from f fs (Fielded s) q e o x = (from, o, ended_at f (leaf (Some s) (asks.Quoted (span q at))) false (x.operand.0 _ (at + 1) false (asked_field s x.lead tt (closed x))) no_true)
    where
      closed : (x : InQuoteInv text from at (Fielded s) q false f) → Asks text x.mark (at + 1) (asks.Quoted (span q at))
      closed x = subst (λ i. Asks text x.mark (at + 1) (asks.Quoted (span i at))) (sym x.behind) (a_quote x.quote (subst (λ i. Quotes text i at) x.behind x.quotes) (l, e))
  quote_closes from f fs (InASet s n ms) q e o x = (
    from,
    o,
    record {
      start = x.start;
      operand = x.operand;
      lead = record {
        lead = x.lead.lead;
        letter_i = x.lead.letter_i;
        letter_n = x.lead.letter_n;
        bracket = x.lead.bracket;
        blanks = x.lead.blanks;
        opens = x.lead.opens;
        items = subst (λ i. Items text (x.lead.bracket + 1) (at + 1) (ms ++ member i at true ∷ [])) (sym x.behind) (item_quoted x.lead.items x.quote (subst (λ i. Quotes text i at) x.behind x.quotes) (l, e));
      };
    },
  )

  in_quote_holds : (b : Bool) (k : Kind) (from : ℕ) (f : Frame) (fs : List Frame) (role : Role) (q : ℕ) → kind_of (get_or text at 0) ≡ k → Outer text fs from f.base → InQuoteInv text from at role q b f
      → Holds text at (step_quote role q b at k f fs)
  in_quote_holds true Quote from f fs role q e o x = (
    from,
    o,
    record {
      start = x.start;
      mark = x.mark;
      operand = x.operand;
      lead = x.lead;
      quote = x.quote;
      behind = x.behind;
      quotes = subst (λ i. Quotes text q (i + 1)) (sym x.quotes.1) (escaped_byte x.quotes.2 x.quotes.3 (inl (omega (arith, x.quotes.1), ap (λ i. kind_of (get_or text i 0)) (sym x.quotes.1) ∙ e)));
    },
  )
  in_quote_holds true Escape from f fs role q e o x = (
    from,
    o,
    record {
      start = x.start;
      mark = x.mark;
      operand = x.operand;
      lead = x.lead;
      quote = x.quote;
      behind = x.behind;
      quotes = subst (λ i. Quotes text q (i + 1)) (sym x.quotes.1) (escaped_byte x.quotes.2 x.quotes.3 (inr (omega (arith, x.quotes.1), ap (λ i. kind_of (get_or text i 0)) (sym x.quotes.1) ∙ e)));
    },
  )
  in_quote_holds true k from f fs role q e o x = tt
  in_quote_holds false Quote from f fs role q e o x = quote_closes from f fs role q e o x
  in_quote_holds false Escape from f fs role q e o x = (from, o, record { start = x.start; mark = x.mark; operand = x.operand; lead = x.lead; quote = x.quote; behind = x.behind; quotes = (at, refl, x.quotes, (l, e)) })
  in_quote_holds false k from f fs role q e o x = (
    from,
    o,
    record {
      start = x.start;
      mark = x.mark;
      operand = x.operand;
      lead = x.lead;
      quote = x.quote;
      behind = x.behind;
      quotes = quoted_byte x.quotes l (λ z. let y = sym e ∙ z in cc) (λ z. let y = sym e ∙ z in cc);
    },
  )

  -- a range
  low_done : (n : ℕ) (c : Bool) (b : Bound) (i j : ℕ) → Spotted text n (Low c) i → Bounds text i j b → LowDone text n c b j
  low_done n c b i j (low_spot o x) y = record { from = i; opens = o; blanks = x; bound = y }

  range_shut : (n : ℕ) (c d : Bool) (low high : Bound) (i j o : ℕ) → Spotted text n (High c low) i → Bounds text i j high → Blanks text j o → Shuts text d o → Specials text n (o + 1) (asks.Within n (Between c low high d)) true
  range_shut n c d low high i j o (high_spot op x lo y lt t to z mt) hi u sh = a_range op x lo y lt t to z mt hi u sh

  one_compared : (n : ℕ) (op : Compare) (b : Bound) (i j : ℕ) → Spotted text n (One op) i → Bounds text i j b → (b ≡ bounds.Unbounded → ⊥) → Specials text n j (asks.Within n (Compared op b)) false
  one_compared n op b i j (one_spot c) y h = compared c y h

  quoted_edge : (n : ℕ) (spot : Spot) (i q : ℕ) → Spotted text n spot i → Bounds text i (at + 1) (bounds.Quoted (span q at)) → RangeHolds text n at (edge_closed spot (bounds.Quoted (span q at)))
  quoted_edge n (Low c) i q x y = (at + 1, low_done n c _ i (at + 1) x y, no_blank, no_true)
  quoted_edge n (High c low) i q x y = (i, at + 1, x, y, no_blank)
  quoted_edge n (One op) i q x y = one_compared n op _ i (at + 1) x y (λ z. cc)

  close_holds_range : (n : ℕ) (c : Bool) (low high : Bound) (i j : ℕ) (k : Kind) → kind_of (get_or text at 0) ≡ k → Spotted text n (High c low) i → Bounds text i j high → Blanks text j at → RangeHolds text n at (close_range c low high k)
  close_holds_range n c low high i j Blank e x y u = (i, j, x, y, blanks_more u (l, e))
  close_holds_range n c low high i j SquareClose e x y u = range_shut n c true low high i j at x y u (inl (refl, (l, e)))
  close_holds_range n c low high i j CurlyClose e x y u = range_shut n c false low high i j at x y u (inr (refl, (l, e)))
  close_holds_range n c low high i j k e x y u = tt

  low_holds : (n : ℕ) (c : Bool) (low : Bound) (spaced : Bool) (j : ℕ) (k : Kind) → kind_of (get_or text at 0) ≡ k → LowDone text n c low j → Blanks text j at → (spaced ≡ true → j < at) → RangeHolds text n at (behind_low c low spaced (get_or text at 0) k)
  low_holds n c low spaced j Blank e x u h = (j, x, blanks_more u (l, e), λ z. omega (arith, blanks_le u))
  low_holds n c low true j Plain e x u h = go (get_or text at 0 == 84) refl
    where
      go : (b : Bool) → (get_or text at 0 == 84) ≡ b → RangeHolds text n at (if b then moves.More (LetterT c low) else moves.Refused)
      go true t = (j, at, x, u, h refl, (l, eqb-true (get_or text at 0) 84 t), refl)
      go false t = tt
  low_holds n c low false j Plain e x u h = tt
  low_holds n c low spaced j k e x u h = tt

  before_holds : (n : ℕ) (spot : Spot) (b : Bound) (i : ℕ) (k : Kind) → kind_of (get_or text at 0) ≡ k → Spotted text n spot i → Bounds text i at b → RangeHolds text n at (edge_before spot b (get_or text at 0) k)
  before_holds n (Low c) b i k e x y = low_holds n c b false at k e (low_done n c b i at x y) no_blank no_true
  before_holds n (High c low) b i k e x y = close_holds_range n c low b i at k e x y no_blank
  before_holds n (One op) bounds.Unbounded i k e x y = tt
  before_holds n (One op) (bounds.Quoted s) i k e x y = one_compared n op _ i at x y (λ z. cc)
  before_holds n (One op) (bounds.Run s) i k e x y = one_compared n op _ i at x y (λ z. cc)

  want_more : (n : ℕ) (spot : Spot) → kind_of (get_or text at 0) ≡ Blank → Spotted text n spot at → RangeHolds text n at (want_blank spot)
  want_more n (Low c) e (low_spot o x) = low_spot o (blanks_more x (l, e))
  want_more n (High c low) e (high_spot op x lo y lt t to z mt) = high_spot op x lo y lt t to (blanks_more z (l, e)) (omega arith)
  want_more n (One op) e x = tt

  want_bound_holds : (n : ℕ) (spot : Spot) (k : Kind) → kind_of (get_or text at 0) ≡ k → Spotted text n spot at → RangeHolds text n at (want_bound spot at k)
  want_bound_holds n spot Blank e x = want_more n spot e x
  want_bound_holds n spot Quote e x = (at, refl, (l, e), x, no_quoted)
  want_bound_holds n spot SquareClose e x = tt
  want_bound_holds n spot CurlyClose e x = tt
  want_bound_holds n spot Close e x = tt
  want_bound_holds n spot Star e x = (x, run_one l (ap ends_run e) (λ z. let y = sym e ∙ z in cc), ((l, e), refl))
  want_bound_holds n spot k e x = (x, run_one l (ap ends_run e) (λ z. let y = sym e ∙ z in cc), λ st. absurd (let y = sym e ∙ st.1 in cc))

  run_lt : {i j : ℕ} → Run text i j → i < j
  run_lt (run_one a b d) = omega arith
  run_lt (run_more r a b) = omega (arith, run_lt r)

  running_holds : (n : ℕ) (spot : Spot) (i : ℕ) (star : Bool) (k : Kind) (b : Bool) → kind_of (get_or text at 0) ≡ k → ends_run k ≡ b → Spotted text n spot i → Run text i at → StarSoFar text i at star
      → RangeHolds text n at (if b then edge_before spot (run_bound i at star) (get_or text at 0) k else moves.More (Running spot i false))
  running_holds n spot i true k true e d x r s = before_holds n spot _ i k e x (subst (λ j. Bounds text i j bounds.Unbounded) (sym s.1) (a_star s.0 (λ z. subst (λ j. ends_run (kind_of (get_or text j 0)) ≡ true) s.1 (ap ends_run e ∙ d))))
  running_holds n spot i false k true e d x r s = before_holds n spot _ i k e x (a_run r (λ z. ap ends_run e ∙ d) s)
  running_holds n spot i star k false e d x r s = (x, run_more r l (ap ends_run e ∙ d), λ st. omega (arith, run_lt r))

  quoting_holds : (n : ℕ) (spot : Spot) (q : ℕ) (b : Bool) (k : Kind) → kind_of (get_or text at 0) ≡ k → RangeInv text n (Quoting spot q b) at → RangeHolds text n at (quoting spot q b at k)
  quoting_holds n spot q true Quote e x = (x.0, x.1, x.2, x.3, subst (λ i. Quotes text q (i + 1)) (sym x.4.1) (escaped_byte x.4.2 x.4.3 (inl (omega (arith, x.4.1), ap (λ i. kind_of (get_or text i 0)) (sym x.4.1) ∙ e))))
  quoting_holds n spot q true Escape e x = (x.0, x.1, x.2, x.3, subst (λ i. Quotes text q (i + 1)) (sym x.4.1) (escaped_byte x.4.2 x.4.3 (inr (omega (arith, x.4.1), ap (λ i. kind_of (get_or text i 0)) (sym x.4.1) ∙ e))))
  quoting_holds n spot q true k e x = tt
  quoting_holds n spot q false Quote e x = quoted_edge n spot x.0 q x.3 (subst (λ i. Bounds text x.0 (at + 1) (bounds.Quoted (span i at))) (sym x.1) (a_quoted x.2 (subst (λ i. Quotes text i at) x.1 x.4) (l, e)))
  quoting_holds n spot q false Escape e x = (x.0, x.1, x.2, x.3, (at, refl, x.4, (l, e)))
  quoting_holds n spot q false k e x = (x.0, x.1, x.2, x.3, quoted_byte x.4 l (λ z. let y = sym e ∙ z in cc) (λ z. let y = sym e ∙ z in cc))

  letter_t_holds : (n : ℕ) (c : Bool) (low : Bound) (b : Bool) → (get_or text at 0 == 79) ≡ b → RangeInv text n (LetterT c low) at → RangeHolds text n at (if b then moves.More (BehindTo c low) else moves.Refused)
  letter_t_holds n c low true t x = (x.0, x.1, x.2, x.3, x.4, x.5, subst (λ i. ByteAt text i 79) x.6 (l, eqb-true (get_or text at 0) 79 t), ap (λ i. i + 1) x.6)
  letter_t_holds n c low false t x = tt

  behind_to_holds : (n : ℕ) (c : Bool) (low : Bound) (k : Kind) → kind_of (get_or text at 0) ≡ k → RangeInv text n (BehindTo c low) at → RangeHolds text n at (behind_to c low k)
  behind_to_holds n c low Blank e x = high_spot x.2.opens x.2.blanks x.2.bound x.3 x.4 x.5 x.6 (subst (λ i. Blanks text i (at + 1)) x.7 (blank (l, e) no_blank)) (omega (arith, x.7))
  behind_to_holds n c low k e x = tt

  not_equal : (n : ℕ) → at ≡ n + 1 → (get_or text at 0 == 61) ≡ false → ByteAt text (n + 1) 61 → ⊥
  not_equal n e t b = let z : (get_or text at 0 == 61) ≡ true = ap (λ i. get_or text i 0 == 61) e ∙ ap (λ c. c == 61) b.1 in let y : true ≡ false = sym z ∙ t in cc

  sign_holds : (n : ℕ) (up : Bool) (k : Kind) (b : Bool) → kind_of (get_or text at 0) ≡ k → (get_or text at 0 == 61) ≡ b → RangeInv text n (Sign up) at
      → RangeHolds text n at (if b then moves.More (Wanted (One (sign_of up true))) else want_bound (One (sign_of up false)) at k)
  sign_holds n true k true e t x = subst (λ i. Spotted text n (One AtLeast) (i + 1)) (sym x.1) (one_spot (at_least x.0 (subst (λ i. ByteAt text i 61) x.1 (l, eqb-true (get_or text at 0) 61 t))))
  sign_holds n false k true e t x = subst (λ i. Spotted text n (One AtMost) (i + 1)) (sym x.1) (one_spot (at_most x.0 (subst (λ i. ByteAt text i 61) x.1 (l, eqb-true (get_or text at 0) 61 t))))
  sign_holds n true k false e t x = want_bound_holds n (One Above) k e (subst (λ i. Spotted text n (One Above) i) (sym x.1) (one_spot (above x.0 (not_equal n x.1 t))))
  sign_holds n false k false e t x = want_bound_holds n (One Below) k e (subst (λ i. Spotted text n (One Below) i) (sym x.1) (one_spot (below x.0 (not_equal n x.1 t))))

  range_holds : (n : ℕ) (m : RangeMode) (k : Kind) → kind_of (get_or text at 0) ≡ k → RangeInv text n m at → RangeHolds text n at (range_step m at (get_or text at 0) k)
  range_holds n (Wanted spot) k e x = want_bound_holds n spot k e x
  range_holds n (Quoting spot q b) k e x = quoting_holds n spot q b k e x
  range_holds n (Running spot i star) k e x = running_holds n spot i star k (ends_run k) e refl x.0 x.1 x.2
  range_holds n (BehindLow c low spaced) k e x = low_holds n c low spaced x.0 k e x.1 x.2 x.3
  range_holds n (LetterT c low) k e x = letter_t_holds n c low (get_or text at 0 == 79) refl x
  range_holds n (BehindTo c low) k e x = behind_to_holds n c low k e x
  range_holds n (Closing c low high) k e x = close_holds_range n c low high x.0 x.1 k e x.2 x.3 x.4
  range_holds n (Sign up) k e x = sign_holds n up k (get_or text at 0 == 61) e refl x

  move_holds : (p : RangeStep) (k : Kind) (from : ℕ) (f : Frame) (fs : List Frame) (s : Span) (n start : ℕ) → kind_of (get_or text at 0) ≡ k → Outer text fs from f.base → OperandFn text from start f → FieldLead text s start n → RangeHolds text n at p
      → Holds text at (move_range s n p at (get_or text at 0) k f fs)
  move_holds (moves.More m) k from f fs s n start e o g d h = (from, o, record { start = start; operand = g; lead = d; range = h })
  move_holds (moves.Done r) k from f fs s n start e o g d h = (from, o, ended_at f (leaf (Some s) (asks.Within n r)) true (g.0 _ (at + 1) true (special_unary s d h)) (λ z. refl))
  move_holds (moves.Ended r) k from f fs s n start e o g d h = (from, o, ended_at f (leaf (Some s) (asks.Within n r)) false (g.0 _ (at + 1) false (special_unary s d h)) no_true)
  move_holds (moves.Before r) k from f fs s n start e o g d h = after_holds false k from (with_operand f (leaf (Some s) (asks.Within n r))) fs e o (ended_at f (leaf (Some s) (asks.Within n r)) false (g.0 _ at false (special_unary s d h)) no_true)
  move_holds moves.Refused k from f fs s n start e o g d h = tt

  -- behind a field and its colon
  special_holds : (k : Kind) (from : ℕ) (f : Frame) (fs : List Frame) (s : Span) (start : ℕ) → kind_of (get_or text at 0) ≡ k → Outer text fs from f.base → OperandFn text from start f → FieldLead text s start at
      → Holds text at (begin_special s at (get_or text at 0) k f fs)
  special_holds Star from f fs s start e o g d = (from, o, ended_at f (leaf (Some s) asks.Any) false (g.0 _ (at + 1) false (special_unary s d (any_value (l, e)))) no_true)
  special_holds SquareOpen from f fs s start e o g d = (from, o, record { start = start; operand = g; lead = d; range = low_spot (inl (refl, (l, e))) no_blank })
  special_holds CurlyOpen from f fs s start e o g d = (from, o, record { start = start; operand = g; lead = d; range = low_spot (inr (refl, (l, e))) no_blank })
  special_holds Angle from f fs s start e o g d = (from, o, record { start = start; operand = g; lead = d; range = (angle_byte text at l e (get_or text at 0 == 62) refl, refl) })
  special_holds k from f fs s start e o g d = tt

  field_lead : (from : ℕ) (f : Frame) (s : Span) (x : BehindInv text from at s f) → FieldLead text s x.start at
  field_lead from f s x = record { colon = x.colon; named = x.named; stands = x.stands; same = x.same; blanks = subst (λ i. Blanks text (x.colon + 1) i) (sym x.place) no_blank }

  behind_holds : (k : Kind) (from : ℕ) (f : Frame) (fs : List Frame) (s : Span) → kind_of (get_or text at 0) ≡ k → Outer text fs from f.base → BehindInv text from at s f
      → Holds text at (step_behind s at (get_or text at 0) k f fs)
  behind_holds Plain from f fs s e o x = (from, o, record { start = x.start; operand = x.operand; lead = (x.colon, x.same, x.named, x.stands, x.place, λ z. let y : Plain ≡ Angle = sym e ∙ z in cc); first = rw e refl; bytes = sym (slice_one text at l); letters = (letter no_letter l (rw e refl) (λ z. let y : Plain ≡ Escape = sym e ∙ z in cc), omega arith); joined = λ h. absurd (let y : Fielded s ≡ Joined = h in cc) })
  behind_holds Escape from f fs s e o x = (from, o, record { start = x.start; operand = x.operand; lead = (x.colon, x.same, x.named, x.stands, x.place, λ z. let y : Escape ≡ Angle = sym e ∙ z in cc); first = rw e refl; bytes = sym (slice_one text at l); letters = (at, true, refl, no_letter, (l, e)); joined = λ h. absurd (let y : Fielded s ≡ Joined = h in cc) })
  behind_holds Quote from f fs s e o x = (from, o, record { start = x.start; mark = at; operand = x.operand; lead = (x.colon, x.same, x.named, x.stands, x.place, λ z. let y : Quote ≡ Angle = sym e ∙ z in cc); quote = (l, e); behind = refl; quotes = no_quoted })
  behind_holds Blank from f fs s e o x = (from, o, record { start = x.start; operand = x.operand; lead = record { colon = x.colon; named = x.named; stands = x.stands; same = x.same; blanks = subst (λ i. Blanks text i (at + 1)) x.place (blank (l, e) no_blank) } })
  behind_holds k from f fs s e o x = special_holds k from f fs s x.start e o x.operand (field_lead from f s x)

  more_lead : (s : Span) (start q : ℕ) → q ≡ at → kind_of (get_or text at 0) ≡ Blank → FieldLead text s start at → FieldLead text s start (at + 1)
  more_lead s start q h e d = record { colon = d.colon; named = d.named; stands = d.stands; same = d.same; blanks = blanks_more d.blanks (l, e) }

  spaced_letter : (b : Bool) (from : ℕ) (f : Frame) (fs : List Frame) (s : Span) → (get_or text at 0 == 73) ≡ b → Outer text fs from f.base → SpacedInv text from at s f → Holds text at (if b then Go (state (LetterI s at) f fs) else Stuck)
  spaced_letter true from f fs s t o x = (from, o, record { start = x.start; operand = x.operand; lead = x.lead; letter_i = (l, eqb-true (get_or text at 0) 73 t); place = refl })
  spaced_letter false from f fs s t o x = tt

  spaced_holds : (k : Kind) (from : ℕ) (f : Frame) (fs : List Frame) (s : Span) → kind_of (get_or text at 0) ≡ k → Outer text fs from f.base → SpacedInv text from at s f → Holds text at (step_spaced s at (get_or text at 0) k f fs)
  spaced_holds Blank from f fs s e o x = (from, o, record { start = x.start; operand = x.operand; lead = more_lead s x.start at refl e x.lead })
  spaced_holds Plain from f fs s e o x = spaced_letter (get_or text at 0 == 73) from f fs s refl o x
  spaced_holds k from f fs s e o x = special_holds k from f fs s x.start e o x.operand x.lead

  letter_i_holds : (b : Bool) (from : ℕ) (f : Frame) (fs : List Frame) (s : Span) (n : ℕ) → (get_or text at 0 == 78) ≡ b → Outer text fs from f.base → LetterInv text from at s n f → Holds text at (if b then Go (state (BehindIn s n) f fs) else Stuck)
  letter_i_holds true from f fs s n t o x = (from, o, record { start = x.start; operand = x.operand; lead = x.lead; letter_i = x.letter_i; letter_n = subst (λ i. ByteAt text i 78) x.place (l, eqb-true (get_or text at 0) 78 t); blanks = subst (λ i. Blanks text (n + 1 + 1) (i + 1)) (sym x.place) no_blank })
  letter_i_holds false from f fs s n t o x = tt

  in_holds : (k : Kind) (from : ℕ) (f : Frame) (fs : List Frame) (s : Span) (n : ℕ) → kind_of (get_or text at 0) ≡ k → Outer text fs from f.base → BehindInInv text from at s n f → Holds text at (step_in s n at (get_or text at 0) k f fs)
  in_holds Blank from f fs s n e o x = (from, o, record { start = x.start; operand = x.operand; lead = x.lead; letter_i = x.letter_i; letter_n = x.letter_n; blanks = blanks_more x.blanks (l, e) })
  in_holds SquareOpen from f fs s n e o x = (from, o, record { start = x.start; operand = x.operand; lead = record { lead = x.lead; letter_i = x.letter_i; letter_n = x.letter_n; bracket = at; blanks = x.blanks; opens = (l, e); items = no_item } })
  in_holds k from f fs s n e o x = tt

  step_holds : (m : Mode) (from : ℕ) (f : Frame) (fs : List Frame) → Outer text fs from f.base → ModeInv text from at m f → Holds text at (step m at (get_or text at 0) (kind_of (get_or text at 0)) f fs)
  step_holds (Want true) from f fs o x = want_holds (kind_of (get_or text at 0)) from f fs refl o x
  step_holds (Want false) from f fs o x = tight_holds (kind_of (get_or text at 0)) from f fs refl o x
  step_holds (After free) from f fs o x = after_holds free (kind_of (get_or text at 0)) from f fs refl o x
  step_holds (InWord h) from f fs o x = in_word_holds h.escaped (kind_of (get_or text at 0)) from f fs h refl refl o x
  step_holds (InQuote role q b) from f fs o x = in_quote_holds b (kind_of (get_or text at 0)) from f fs role q refl o x
  step_holds (Behind s) from f fs o x = behind_holds (kind_of (get_or text at 0)) from f fs s refl o x
  step_holds (Spaced s) from f fs o x = spaced_holds (kind_of (get_or text at 0)) from f fs s refl o x
  step_holds (LetterI s n) from f fs o x = letter_i_holds (get_or text at 0 == 78) from f fs s n refl o x
  step_holds (BehindIn s n) from f fs o x = in_holds (kind_of (get_or text at 0)) from f fs s n refl o x
  step_holds (InSet s n ms) from f fs o x = set_byte (kind_of (get_or text at 0)) from f fs s n ms x.start refl o x.operand x.lead
  step_holds (InRange s n m) from f fs o x = move_holds (range_step m at (get_or text at 0) (kind_of (get_or text at 0))) (kind_of (get_or text at 0)) from f fs s n x.start refl o x.operand x.lead (range_holds n m (kind_of (get_or text at 0)) refl x.range)

-- the whole text has ended
whole_query : (text : List ℕ) (at from : ℕ) (free : Bool) (f : Frame) (fs : List Frame) (t : Tree) → at ≡ length text → Outer text fs from f.base → Ended text from at free f → finished at (done_with fs (whole f)) ≡ Ok t → IsQuery 64 text t
whole_query text at from free f (g ∷ gs) t e o x h = absurd (let y : ◌≡◌ {A = Result Tree Fault} (Err (faults.Syntax at)) (Ok t) = h in cc)
whole_query text at from free f [] t e o x h =
    let w = chain_whole x.chain in
    let same : ◌≡◌ {A = Result Tree Fault} (Ok (or_tree (behind f.ors (and_tree (behind x.front x.last))))) (Ok t) = ap (λ a. finished at (whole_with f.ors a)) (sym x.some) ∙ h in
    let is : or_tree (behind f.ors (and_tree (behind x.front x.last))) ≡ t = cc in
    record {
      members = behind f.ors (and_tree (behind x.front x.last));
      from = w.0;
      to = x.end;
      bracket = x.bracket;
      before = subst (λ i. Blanks text i w.0) o.0 w.1;
      ors = subst (λ d. Ors text (behind f.ors (and_tree (behind x.front x.last))) w.0 x.end x.bracket (64 - d)) o.1 w.2;
      after = subst (λ i. Blanks text x.end i) e x.blanks;
      whole = is;
    }

no_read : (text : List ℕ) (t : Tree) (e : Fault) → ◌≡◌ {A = Result Tree Fault} (Err e) (Ok t) → IsQuery 64 text t
no_read text t e h = absurd (let y : ◌≡◌ {A = Result Tree Fault} (Err e) (Ok t) = h in cc)

plain_query : (text : List ℕ) (at from : ℕ) (f : Frame) (fs : List Frame) (t : Tree) (role : Role) (q start : ℕ) → at ≡ length text → Outer text fs from f.base → OperandFn text from start f → Lead text role start q → Word text q at SaidWord
    → finish_plain role q at f fs ≡ Ok t → IsQuery 64 text t
plain_query text at from f fs t (InASet s n ms) q start e o g d w h = no_read text t _ h
plain_query text at from f fs t First q start e o g d w h = whole_query text at from false (with_operand f (leaf None (asks.Word (span q at)))) fs t e o
    (ended_at f (leaf None (asks.Word (span q at))) false (g.0 _ at false (subst (λ i. Unary text (leaf None (asks.Word (span q at))) i at false (64 - f.deep)) d (of_defaults (a_word w (λ l. absurd (omega (arith, e, l))) (λ l. absurd (omega (arith, e, l))))))) (λ z. absurd (let y : false ≡ true = z in cc))) h
plain_query text at from f fs t Joined q start e o g d w h = whole_query text at from false (with_operand f (leaf None (asks.Word (span q at)))) fs t e o
    (ended_at f (leaf None (asks.Word (span q at))) false (g.0 _ at false (subst (λ i. Unary text (leaf None (asks.Word (span q at))) i at false (64 - f.deep)) d (of_defaults (a_word w (λ l. absurd (omega (arith, e, l))) (λ l. absurd (omega (arith, e, l))))))) (λ z. absurd (let y : false ≡ true = z in cc))) h
plain_query text at from f fs t (Fielded s) q start e o g d w h =
    let y : Asks text (d.0 + 1) at (asks.Word (span q at)) = subst (λ i. Asks text i at (asks.Word (span q at))) d.4 (a_word w (λ l. absurd (omega (arith, e, l))) (λ l. absurd (omega (arith, e, l)))) in
    let z : kind_of (get_or text (d.0 + 1) 0) ≡ Angle → ⊥ = λ h. d.5 (ap (λ i. kind_of (get_or text i 0)) d.4 ∙ h) in
    whole_query text at from false (with_operand f (leaf (Some s) (asks.Word (span q at)))) fs t e o
    (ended_at f (leaf (Some s) (asks.Word (span q at))) false (g.0 _ at false (subst (λ s. Unary text (leaf (Some s) (asks.Word (span q at))) start at false (64 - f.deep)) (sym d.1) (of_field d.2 d.3 z (λ x. absurd (omega (arith, e, x.0))) y))) (λ z. absurd (let y : false ≡ true = z in cc))) h

not_query : (text : List ℕ) (t : Tree) (role : Role) (q at : ℕ) (f : Frame) → finish_not role q at f ≡ Ok t → IsQuery 64 text t
not_query text t First q at f h = go (nat_lt f.deep limit) h
  where
    go : (b : Bool) → ◌≡◌ {A = Result Tree Fault} (if b then Err (faults.Syntax at) else Err (faults.TooDeep q)) (Ok t) → IsQuery 64 text t
    go true h = no_read text t _ h
    go false h = no_read text t _ h
not_query text t Joined q at f h = go (nat_lt f.deep limit) h
  where
    go : (b : Bool) → ◌≡◌ {A = Result Tree Fault} (if b then Err (faults.Syntax at) else Err (faults.TooDeep q)) (Ok t) → IsQuery 64 text t
    go true h = no_read text t _ h
    go false h = no_read text t _ h
not_query text t (Fielded s) q at f h = no_read text t _ h
not_query text t (InASet s n ms) q at f h = no_read text t _ h

word_query : (text : List ℕ) (at from : ℕ) (f : Frame) (fs : List Frame) (h : Head) (t : Tree) → at ≡ length text → Outer text fs from f.base → InWordInv text from at h f → Letters text h.from at h.plain → h.from < at
    → (s : Said) → said h.plain h.bytes ≡ s → finish_word h.role s h.from at f fs ≡ Ok t → IsQuery 64 text t
word_query text at from f fs h t e o x r m SaidWord i d =
    plain_query text at from f fs t h.role h.from x.start e o x.operand x.lead (record { plain = h.plain; letters = r; begins = x.first; some = m; ends = λ l. absurd (omega (arith, e, l)); says = ap (said h.plain) (sym x.bytes) ∙ i }) d
word_query text at from f fs h t e o x r m SaidNot i d = not_query text t h.role h.from at f d
word_query text at from f fs h t e o x r m SaidAnd i d = no_read text t _ d
word_query text at from f fs h t e o x r m SaidOr i d = no_read text t _ d

word_finish : (b : Bool) (text : List ℕ) (at from : ℕ) (f : Frame) (fs : List Frame) (h : Head) (t : Tree) → h.escaped ≡ b → at ≡ length text → Outer text fs from f.base → InWordInv text from at h f
    → finish (InWord h) at f fs ≡ Ok t → IsQuery 64 text t
word_finish true text at from f fs h t z e o x d = no_read text t (faults.Syntax at) (rw z at d)
word_finish false text at from f fs h t z e o x d =
    let y : LettersSoFar text h.from at h.plain false = subst (λ b. LettersSoFar text h.from at h.plain b) z x.letters in
    word_query text at from f fs h t e o x y.0 y.1 (said h.plain h.bytes) refl (rw z at d)

range_finish : (text : List ℕ) (at from : ℕ) (f : Frame) (fs : List Frame) (s : Span) (n : ℕ) (m : RangeMode) (t : Tree) (r : Option Ranged) → range_end m at ≡ r → at ≡ length text → Outer text fs from f.base → InRangeInv text from at s n m f
    → finish_range s n r at f fs ≡ Ok t → IsQuery 64 text t
range_finish text at from f fs s n m t None g e o x d = no_read text t _ d
range_finish text at from f fs s n (Running (One op) i false) t (Some r) g e o x d =
    let same : r ≡ Compared op (bounds.Run (span i at)) = cc in
    let sp : Specials text n at (asks.Within n (Compared op (bounds.Run (span i at)))) false = of_run x.range.0 (a_run x.range.1 (λ l. absurd (omega (arith, e, l))) x.range.2) in
    let u : Unary text (leaf (Some s) (asks.Within n (Compared op (bounds.Run (span i at))))) x.start at false (64 - f.deep)
    = subst (λ s. Unary text (leaf (Some s) (asks.Within n (Compared op (bounds.Run (span i at))))) x.start at false (64 - f.deep)) (sym x.lead.same) (of_special x.lead.named x.lead.stands x.lead.blanks sp) in
    whole_query text at from false (with_operand f (leaf (Some s) (asks.Within n (Compared op (bounds.Run (span i at)))))) fs t e o
    (ended_at f (leaf (Some s) (asks.Within n (Compared op (bounds.Run (span i at))))) false (x.operand.0 _ at false u) (λ z. absurd (let y : false ≡ true = z in cc)))
    (ap (λ r. finish_range s n (Some r) at f fs) (sym same) ∙ d)
  where
    of_run : Spotted text n (One op) i → Bounds text i at (bounds.Run (span i at)) → Specials text n at (asks.Within n (Compared op (bounds.Run (span i at)))) false
    of_run (one_spot c) b = compared c b (λ z. cc)
range_finish text at from f fs s n (Running (One op) i true) t (Some r) g e o x d = absurd (let y : ◌≡◌ {A = Option Ranged} None (Some r) = g in cc)
range_finish text at from f fs s n (Running (Low c) i b) t (Some r) g e o x d = absurd (let y : ◌≡◌ {A = Option Ranged} None (Some r) = g in cc)
range_finish text at from f fs s n (Running (High c low) i b) t (Some r) g e o x d = absurd (let y : ◌≡◌ {A = Option Ranged} None (Some r) = g in cc)
range_finish text at from f fs s n m t (Some r) g e o x d = absurd (let y : ◌≡◌ {A = Option Ranged} None (Some r) = g in cc)

finish_query : (text : List ℕ) (at from : ℕ) (m : Mode) (f : Frame) (fs : List Frame) (t : Tree) → at ≡ length text → Outer text fs from f.base → ModeInv text from at m f → finish m at f fs ≡ Ok t → IsQuery 64 text t
finish_query text at from (After free) f fs t e o x d = whole_query text at from free f fs t e o x d
finish_query text at from (InWord h) f fs t e o x d = word_finish h.escaped text at from f fs h t refl e o x d
finish_query text at from (InRange s n m) f fs t e o x d = range_finish text at from f fs s n m t (range_end m at) refl e o x d
finish_query text at from m f fs t e o x d = no_read text t (faults.Syntax at) d

go_query : (text : List ℕ) (at : ℕ) (p : Step) (t : Tree) → Holds text at p → go_on at p (λ next. run (at + 1) next (drop (at + 1) text)) ≡ Ok t
    → ((s : State) → Inv text (at + 1) s → run (at + 1) s (drop (at + 1) text) ≡ Ok t → IsQuery 64 text t) → IsQuery 64 text t
go_query text at (Go s) t h e next = next s h e
go_query text at Stuck t h e next = no_read text t _ e
go_query text at (Deep n) t h e next = no_read text t _ e

run_query : (n : ℕ) (text : List ℕ) (at : ℕ) (s : State) (t : Tree) → at + n ≡ length text → Inv text at s → run at s (drop at text) ≡ Ok t → IsQuery 64 text t
run_query zero text at s t l x e = finish_query text at x.0 s.mode s.frame s.outer t (omega arith) x.1 x.2 (sym (ends text at s.mode s.frame s.outer (omega arith)) ∙ e)
run_query (suc n) text at s t l x e =
    let m : at < length text = omega arith in
    go_query text at (step s.mode at (get_or text at 0) (kind_of (get_or text at 0)) s.frame s.outer) t
    (step_holds text at m s.mode x.0 s.frame s.outer x.1 x.2) (sym (steps text at s.mode s.frame s.outer (kind_of (get_or text at 0)) m refl) ∙ e)
    (λ s' y. run_query n text (at + 1) s' t (omega arith) y)

-- what is read is in the grammar
pub reads_query : (text : List ℕ) (t : Tree) → reads text ≡ Ok t → IsQuery 64 text t
reads_query text t e = run_query (length text) text 0 start t (omega arith) (0, (refl, refl), λ i x. (λ u k b v. first x (one_operand v), wants_first the_whole x, omega arith)) e

-- a text that ends too deep ends in a `NOT`
not_deep : {A : Type 0} (at n : ℕ) → ◌≡◌ {A = Result Tree Fault} (Err (faults.Syntax at)) (Err (faults.TooDeep n)) → A
not_deep at n e = absurd (let y : ◌≡◌ {A = Fault} (faults.Syntax at) (faults.TooDeep n) = cc in cc)

ended_deep : {A : Type 0} (at n : ℕ) (o : Option Tree) → finished at o ≡ Err (faults.TooDeep n) → A
ended_deep at n (Some t) e = absurd (let y : ◌≡◌ {A = Result Tree Fault} (Ok t) (Err (faults.TooDeep n)) = e in cc)
ended_deep at n None e = not_deep at n e

plain_deep : {A : Type 0} (role : Role) (q at : ℕ) (f : Frame) (fs : List Frame) (n : ℕ) → finish_plain role q at f fs ≡ Err (faults.TooDeep n) → A
plain_deep (InASet s m ms) q at f fs n e = not_deep at n e
plain_deep First q at f fs n e = ended_deep at n _ e
plain_deep Joined q at f fs n e = ended_deep at n _ e
plain_deep (Fielded s) q at f fs n e = ended_deep at n _ e

not_ends_deep : (text : List ℕ) (q at : ℕ) (f : Frame) (n : ℕ) → Wants text f.deep q → f.deep ≤ 64 → Word text q at SaidNot
    → ◌≡◌ {A = Result Tree Fault} (if nat_lt f.deep limit then Err (faults.Syntax at) else Err (faults.TooDeep q)) (Err (faults.TooDeep n)) → IsTooDeepAt text n
not_ends_deep text q at f n w m k e = go (nat_lt f.deep limit) refl
  where
    go : (b : Bool) → nat_lt f.deep limit ≡ b → IsTooDeepAt text n
    go true h = not_deep at n (rw h at e)
    go false h =
        let y : ◌≡◌ {A = Result Tree Fault} (Err (faults.TooDeep q)) (Err (faults.TooDeep n)) = rw h at e in
        let z : ◌≡◌ {A = Fault} (faults.TooDeep q) (faults.TooDeep n) = cc in
        let i : q ≡ n = cc in
        let full : 64 ≤ f.deep = ltb-false f.deep 64 h in
        subst (IsTooDeepAt text) i (record { inside = subst (λ d. Wants text d q) (let y : f.deep ≡ 64 = omega (arith, full, m) in y) w; nests = inr (inr (inr (at, k))) })

not_role_deep : (text : List ℕ) (role : Role) (start q at : ℕ) (f : Frame) (n : ℕ) → Lead text role start q → Wants text f.deep start → f.deep ≤ 64 → Word text q at SaidNot → finish_not role q at f ≡ Err (faults.TooDeep n) → IsTooDeepAt text n
not_role_deep text First start q at f n d w m k e = not_ends_deep text q at f n (subst (λ i. Wants text f.deep i) (sym d) w) m k e
not_role_deep text Joined start q at f n d w m k e = not_ends_deep text q at f n (subst (λ i. Wants text f.deep i) (sym d) w) m k e
not_role_deep text (Fielded s) start q at f n d w m k e = not_deep at n e
not_role_deep text (InASet s i ms) start q at f n d w m k e = not_deep at n e

word_deep : (text : List ℕ) (at from : ℕ) (f : Frame) (fs : List Frame) (h : Head) (n : ℕ) → at ≡ length text → InWordInv text from at h f → Letters text h.from at h.plain → h.from < at
    → (s : Said) → said h.plain h.bytes ≡ s → finish_word h.role s h.from at f fs ≡ Err (faults.TooDeep n) → IsTooDeepAt text n
word_deep text at from f fs h n e x r m SaidWord i d = plain_deep h.role h.from at f fs n d
word_deep text at from f fs h n e x r m SaidAnd i d = not_deep at n d
word_deep text at from f fs h n e x r m SaidOr i d = not_deep at n d
word_deep text at from f fs h n e x r m SaidNot i d =
    not_role_deep text h.role x.start h.from at f n x.lead x.operand.1 x.operand.2
    (record { plain = h.plain; letters = r; begins = x.first; some = m; ends = λ l. absurd (omega (arith, e, l)); says = ap (said h.plain) (sym x.bytes) ∙ i }) d

word_end_deep : (b : Bool) (text : List ℕ) (at from : ℕ) (f : Frame) (fs : List Frame) (h : Head) (n : ℕ) → h.escaped ≡ b → at ≡ length text → InWordInv text from at h f
    → finish (InWord h) at f fs ≡ Err (faults.TooDeep n) → IsTooDeepAt text n
word_end_deep true text at from f fs h n z e x d = not_deep at n (rw z at d)
word_end_deep false text at from f fs h n z e x d =
    let y : LettersSoFar text h.from at h.plain false = subst (λ b. LettersSoFar text h.from at h.plain b) z x.letters in
    word_deep text at from f fs h n e x y.0 y.1 (said h.plain h.bytes) refl (rw z at d)

range_deep : {A : Type 0} (s : Span) (q : ℕ) (r : Option Ranged) (at : ℕ) (f : Frame) (fs : List Frame) (n : ℕ) → finish_range s q r at f fs ≡ Err (faults.TooDeep n) → A
range_deep s q None at f fs n e = not_deep at n e
range_deep s q (Some r) at f fs n e = ended_deep at n _ e

finish_deep : (text : List ℕ) (at from : ℕ) (m : Mode) (f : Frame) (fs : List Frame) (n : ℕ) → at ≡ length text → ModeInv text from at m f → finish m at f fs ≡ Err (faults.TooDeep n) → IsTooDeepAt text n
finish_deep text at from (After free) f fs n e x d = ended_deep at n _ d
finish_deep text at from (InWord h) f fs n e x d = word_end_deep h.escaped text at from f fs h n refl e x d
finish_deep text at from (InRange s q m) f fs n e x d = range_deep s q (range_end m at) at f fs n d
finish_deep text at from m f fs n e x d = not_deep at n d

go_deep : (text : List ℕ) (at : ℕ) (p : Step) (n : ℕ) → Holds text at p → go_on at p (λ next. run (at + 1) next (drop (at + 1) text)) ≡ Err (faults.TooDeep n)
    → ((s : State) → Inv text (at + 1) s → run (at + 1) s (drop (at + 1) text) ≡ Err (faults.TooDeep n) → IsTooDeepAt text n) → IsTooDeepAt text n
go_deep text at (Go s) n h e next = next s h e
go_deep text at Stuck n h e next = not_deep at n e
go_deep text at (Deep m) n h e next =
    let z : ◌≡◌ {A = Fault} (faults.TooDeep m) (faults.TooDeep n) = cc in
    let i : m ≡ n = cc in subst (IsTooDeepAt text) i h

run_deep : (k : ℕ) (text : List ℕ) (at : ℕ) (s : State) (n : ℕ) → at + k ≡ length text → Inv text at s → run at s (drop at text) ≡ Err (faults.TooDeep n) → IsTooDeepAt text n
run_deep zero text at s n l x e = finish_deep text at x.0 s.mode s.frame s.outer n (omega arith) x.2 (sym (ends text at s.mode s.frame s.outer (omega arith)) ∙ e)
run_deep (suc k) text at s n l x e =
    let m : at < length text = omega arith in
    go_deep text at (step s.mode at (get_or text at 0) (kind_of (get_or text at 0)) s.frame s.outer) n
    (step_holds text at m s.mode x.0 s.frame s.outer x.1 x.2) (sym (steps text at s.mode s.frame s.outer (kind_of (get_or text at 0)) m refl) ∙ e)
    (λ s' y. run_deep k text (at + 1) s' n (omega arith) y)

-- what is too deep stands in 64 others
pub deep_stands : (text : List ℕ) (n : ℕ) → reads text ≡ Err (faults.TooDeep n) → IsTooDeepAt text n
deep_stands text n e = run_deep (length text) text 0 start n (omega arith) (0, (refl, refl), λ i x. (λ u k b v. first x (one_operand v), wants_first the_whole x, omega arith)) e
