-- What the machine holds at a place: the grammar of what it read before it.
use Rattle.std.proofs.Common.{◌≡◌, ◌⊎◌, inl, inr, ℕ, suc, ◌+◌, ◌-◌, ◌<◌, ◌≤◌, ◌==◌, ◌||◌, Bool, true, false, List, [], ◌∷◌, length, get_or, refl, sym, arith, if◌then◌else◌, subst, nat_lt}
use Rattle.std.specs.Prelude.{slice_range}
use Rattle.std.proofs.lemmas.Bool.{eqb-true, ltb-true, ltb-false}
use Rattle.query_reader.specs.Kinds.{kind_of, is_blank, is_one_of, is_reserved, begins_word, StandsAt, ByteAt}
use Rattle.query_reader.specs.Asking as asks
use Rattle.query_reader.specs.Tree.{Tree, Trees, no_trees, behind, and_tree}
use Rattle.query_reader.specs.Machine.{State, Frame, Mode, Step, Go, Stuck, Role, First, Joined, Fielded, InASet, Want, After, InWord, InQuote, Behind, Spaced, LetterI, BehindIn, InSet, InRange, with_operand, start, limit, Head, Deep}
use Rattle.query_reader.specs.Grammar.{Blanks, Letters, Word, Quotes, Run, Bounds, Compares, Items, Opens, Specials, Gap, Ors, Ands, Unary, span, Begins, the_whole, a_bracket, Wants, wants_next, Nests, IsTooDeepAt}
use Rattle.query_reader.specs.Grammar.{no_blank, blank, no_letter, letter, escaped_letter, one_and, by_or, next_operand, by_and}
use Rattle.query_reader.specs.declared.kind.Kind.{Kind}
use Rattle.query_reader.specs.declared.kind.Kind.TheVariants.{Blank, Quote, Open, Close, Star, Colon, Plus, Minus, Escape, Angle, SquareOpen, SquareClose, CurlyOpen, CurlyClose, Reserved, Plain}
use Rattle.query_reader.specs.declared.kind.Said.TheVariants.{SaidWord, SaidAnd, SaidOr}
use Rattle.query_reader.specs.declared.tree.Span.{Span}
use Rattle.query_reader.specs.declared.special.Member.{Member}
use Rattle.query_reader.specs.declared.special.Bound.{Bound}
use Rattle.query_reader.specs.declared.special.Compare.{Compare}
use Rattle.query_reader.specs.declared.special.Spot.{Spot}
use Rattle.query_reader.specs.declared.special.Spot.TheVariants.{Low, High, One}
use Rattle.query_reader.specs.declared.special.RangeMode.TheVariants.{Wanted, Quoting, Running, BehindLow, LetterT, BehindTo, Closing, Sign}
use Rattle.query_reader.specs.declared.special.RangeMode.{RangeMode}
use Rattle.query_reader.specs.declared.special.RangeStep.{RangeStep}
use Rattle.query_reader.specs.declared.special.RangeStep.TheVariants as moves
use Rattle.query_reader.specs.Tree.{nots}

-- the members of a bracket of depth d that begins at `from`, up to a place
pub data Chain (text : List ℕ) (d from : ℕ) : ℕ → Trees → Trees → Bool → Type 0 where
  first : {s k : ℕ} {a : Trees} {b : Bool} → Blanks text from s → Ands text a s k b (64 - d) → Chain text d from k no_trees a b
  later : {s j m l p k : ℕ} {o a : Trees} {b b' : Bool} → Blanks text from s → Ors text o s j b' (64 - d) → Gap text b' j m → Word text m l SaidOr → Gap text false l p → Ands text a p k b (64 - d) → Chain text d from k o a b

pub chain_next : {text : List ℕ} {d from i j k : ℕ} {ors a : Trees} {t : Tree} {b b' : Bool} → Chain text d from i ors a b → Gap text b i j → Unary text t j k b' (64 - d) → Chain text d from k ors (behind a t) b'
chain_next (first x a) g u = first x (next_operand a g u)
chain_next (later x o g w h a) g' u = later x o g w h (next_operand a g' u)

pub chain_and : {text : List ℕ} {d from i j l m k : ℕ} {ors a : Trees} {t : Tree} {b b' : Bool} → Chain text d from i ors a b → Gap text b i j → Word text j l SaidAnd → Gap text false l m → Unary text t m k b' (64 - d) → Chain text d from k ors (behind a t) b'
chain_and (first x a) g w h u = first x (by_and a g w h u)
chain_and (later x o g w h a) g' w' h' u = later x o g w h (by_and a g' w' h' u)

pub chain_or : {text : List ℕ} {d from i j l m k : ℕ} {ors a t : Trees} {b b' : Bool} → Chain text d from i ors a b → Gap text b i j → Word text j l SaidOr → Gap text false l m → Ands text t m k b' (64 - d) → Chain text d from k (behind ors (and_tree a)) t b'
chain_or (first x a) g w h u = later x (one_and a) g w h u
chain_or (later x o g w h a) g' w' h' u = later x (by_or o g w h a) g' w' h' u

pub chain_whole : {text : List ℕ} {d from k : ℕ} {ors a : Trees} {b : Bool} → Chain text d from k ors a b → (s : ℕ) × Blanks text from s × Ors text (behind ors (and_tree a)) s k b (64 - d)
chain_whole (first {s} x a) = (s, x, one_and a)
chain_whole (later {s} x o g w h a) = (s, x, by_or o g w h a)

-- the operand that begins at a place completes the members
abbrev pub OperandFn : List ℕ → ℕ → ℕ → Frame → Type 0
OperandFn text from i f = ((t : Tree) (k : ℕ) (b : Bool) → Unary text t i k b (64 - f.deep) → Chain text f.base from k f.ors (behind f.ands (nots f.negations t)) b) × Wants text f.deep i × (f.deep ≤ 64)

-- the same with white space before it
abbrev pub WantFn : List ℕ → ℕ → ℕ → Frame → Type 0
WantFn text from at f = (i : ℕ) → Blanks text at i → OperandFn text from i f

pub record Ended (text : List ℕ) (from at : ℕ) (free : Bool) (f : Frame) : Type 0 where
  pub front : Trees
  pub last : Tree
  pub end : ℕ
  pub bracket : Bool
  pub some : f.ands ≡ behind front last
  pub clean : f.negations ≡ 0
  pub level : f.deep ≡ f.base
  pub chain : Chain text f.base from end f.ors (behind front last) bracket
  pub blanks : Blanks text end at
  pub gap : free ≡ true → (end < at) ⊎ (bracket ≡ true)

-- the brackets that are open
abbrev pub Outer : List ℕ → List Frame → ℕ → ℕ → Type 0
Outer text [] from base = (from ≡ 0) × (base ≡ 0)
Outer text (g ∷ gs) from base = (op from' : ℕ) × (from ≡ op + 1) × StandsAt text op Open × (base ≡ g.deep + 1) × (g.deep < 64) × OperandFn text from' op g × Outer text gs from' g.base

-- a field and its colon, and white space behind it
pub record FieldLead (text : List ℕ) (s : Span) (start q : ℕ) : Type 0 where
  pub colon : ℕ
  pub named : Word text start colon SaidWord
  pub stands : StandsAt text colon Colon
  pub same : s ≡ span start colon
  pub blanks : Blanks text (colon + 1) q

-- a set up to a member
pub record SetLead (text : List ℕ) (s : Span) (start n : ℕ) (ms : List Member) (q : ℕ) : Type 0 where
  pub lead : FieldLead text s start n
  pub letter_i : ByteAt text n 73
  pub letter_n : ByteAt text (n + 1) 78
  pub bracket : ℕ
  pub blanks : Blanks text (n + 1 + 1) bracket
  pub opens : StandsAt text bracket SquareOpen
  pub items : Items text (bracket + 1) q ms

-- where a word or a quote begins: at once, behind a field and its colon, or in a set
abbrev pub Lead : List ℕ → Role → ℕ → ℕ → Type 0
Lead text First start q = q ≡ start
Lead text Joined start q = q ≡ start
Lead text (Fielded x) start q = (j : ℕ) × (x ≡ span start j) × Word text start j SaidWord × StandsAt text j Colon × (q ≡ j + 1) × (kind_of (get_or text q 0) ≡ Angle → ⊥)
Lead text (InASet x n ms) start q = SetLead text x start n ms q

abbrev pub LettersSoFar : List ℕ → ℕ → ℕ → Bool → Bool → Type 0
LettersSoFar text i at p false = Letters text i at p × (i < at)
LettersSoFar text i at p true = (j : ℕ) × (q : Bool) × (at ≡ j + 1) × Letters text i j q × StandsAt text j Escape

abbrev pub QuotesSoFar : List ℕ → ℕ → ℕ → Bool → Type 0
QuotesSoFar text i at false = Quotes text i at
QuotesSoFar text i at true = (j : ℕ) × (at ≡ j + 1) × Quotes text i j × StandsAt text j Escape

pub record InWordInv (text : List ℕ) (from at : ℕ) (h : Head) (f : Frame) : Type 0 where
  pub start : ℕ
  pub operand : OperandFn text from start f
  pub lead : Lead text h.role start h.from
  pub first : begins_word (kind_of (get_or text h.from 0)) ≡ true
  pub bytes : h.bytes ≡ slice_range text h.from at
  pub letters : LettersSoFar text h.from at h.plain h.escaped
  pub joined : h.role ≡ Joined → Ended text from h.from true f

pub record InQuoteInv (text : List ℕ) (from at : ℕ) (role : Role) (q : ℕ) (escaped : Bool) (f : Frame) : Type 0 where
  pub start : ℕ
  pub mark : ℕ
  pub operand : OperandFn text from start f
  pub lead : Lead text role start mark
  pub quote : StandsAt text mark Quote
  pub behind : q ≡ mark + 1
  pub quotes : QuotesSoFar text q at escaped

pub record BehindInv (text : List ℕ) (from at : ℕ) (x : Span) (f : Frame) : Type 0 where
  pub start : ℕ
  pub colon : ℕ
  pub operand : OperandFn text from start f
  pub named : Word text start colon SaidWord
  pub stands : StandsAt text colon Colon
  pub place : at ≡ colon + 1
  pub same : x ≡ span start colon

pub record SpacedInv (text : List ℕ) (from at : ℕ) (s : Span) (f : Frame) : Type 0 where
  pub start : ℕ
  pub operand : OperandFn text from start f
  pub lead : FieldLead text s start at

pub record LetterInv (text : List ℕ) (from at : ℕ) (s : Span) (n : ℕ) (f : Frame) : Type 0 where
  pub start : ℕ
  pub operand : OperandFn text from start f
  pub lead : FieldLead text s start n
  pub letter_i : ByteAt text n 73
  pub place : at ≡ n + 1

pub record BehindInInv (text : List ℕ) (from at : ℕ) (s : Span) (n : ℕ) (f : Frame) : Type 0 where
  pub start : ℕ
  pub operand : OperandFn text from start f
  pub lead : FieldLead text s start n
  pub letter_i : ByteAt text n 73
  pub letter_n : ByteAt text (n + 1) 78
  pub blanks : Blanks text (n + 1 + 1) at

pub record InSetInv (text : List ℕ) (from at : ℕ) (s : Span) (n : ℕ) (ms : List Member) (f : Frame) : Type 0 where
  pub start : ℕ
  pub operand : OperandFn text from start f
  pub lead : SetLead text s start n ms at

-- an edge may begin here
pub data Spotted (text : List ℕ) (n : ℕ) : Spot → ℕ → Type 0 where
  low_spot : {c : Bool} {i : ℕ} → Opens text c n → Blanks text (n + 1) i → Spotted text n (Low c) i
  high_spot : {c : Bool} {low : Bound} {j k l i : ℕ} → Opens text c n → Blanks text (n + 1) j → Bounds text j k low → Blanks text k l → k < l → ByteAt text l 84 → ByteAt text (l + 1) 79 → Blanks text (l + 1 + 1) i → l + 1 + 1 < i → Spotted text n (High c low) i
  one_spot : {op : Compare} {i : ℕ} → Compares text n i op → Spotted text n (One op) i

-- the low edge ends here
pub record LowDone (text : List ℕ) (n : ℕ) (c : Bool) (low : Bound) (k : ℕ) : Type 0 where
  pub from : ℕ
  pub opens : Opens text c n
  pub blanks : Blanks text (n + 1) from
  pub bound : Bounds text from k low

abbrev pub StarSoFar : List ℕ → ℕ → ℕ → Bool → Type 0
StarSoFar text i at true = StandsAt text i Star × (at ≡ i + 1)
StarSoFar text i at false = StandsAt text i Star → i + 1 < at

abbrev pub sign_byte : Bool → ℕ
sign_byte true = 62
sign_byte false = 60

abbrev pub RangeInv : List ℕ → ℕ → RangeMode → ℕ → Type 0
RangeInv text n (Wanted spot) at = Spotted text n spot at
RangeInv text n (Quoting spot q e) at = (mark : ℕ) × (q ≡ mark + 1) × StandsAt text mark Quote × Spotted text n spot mark × QuotesSoFar text q at e
RangeInv text n (Running spot i star) at = Spotted text n spot i × Run text i at × StarSoFar text i at star
RangeInv text n (BehindLow c low spaced) at = (k : ℕ) × LowDone text n c low k × Blanks text k at × (spaced ≡ true → k < at)
RangeInv text n (LetterT c low) at = (k : ℕ) × (l : ℕ) × LowDone text n c low k × Blanks text k l × (k < l) × ByteAt text l 84 × (at ≡ l + 1)
RangeInv text n (BehindTo c low) at = (k : ℕ) × (l : ℕ) × LowDone text n c low k × Blanks text k l × (k < l) × ByteAt text l 84 × ByteAt text (l + 1) 79 × (at ≡ l + 1 + 1)
RangeInv text n (Closing c low high) at = (i : ℕ) × (j : ℕ) × Spotted text n (High c low) i × Bounds text i j high × Blanks text j at
RangeInv text n (Sign up) at = ByteAt text n (sign_byte up) × (at ≡ n + 1)

pub record InRangeInv (text : List ℕ) (from at : ℕ) (s : Span) (n : ℕ) (m : RangeMode) (f : Frame) : Type 0 where
  pub start : ℕ
  pub operand : OperandFn text from start f
  pub lead : FieldLead text s start n
  pub range : RangeInv text n m at

abbrev pub RangeHolds : List ℕ → ℕ → ℕ → RangeStep → Type 0
RangeHolds text n at (moves.More m) = RangeInv text n m (at + 1)
RangeHolds text n at (moves.Done r) = Specials text n (at + 1) (asks.Within n r) true
RangeHolds text n at (moves.Ended r) = Specials text n (at + 1) (asks.Within n r) false
RangeHolds text n at (moves.Before r) = Specials text n at (asks.Within n r) false
RangeHolds text n at moves.Refused = Unit {0}

abbrev pub ModeInv : List ℕ → ℕ → ℕ → Mode → Frame → Type 0
ModeInv text from at (Want true) f = WantFn text from at f
ModeInv text from at (Want false) f = OperandFn text from at f
ModeInv text from at (After free) f = Ended text from at free f
ModeInv text from at (InWord h) f = InWordInv text from at h f
ModeInv text from at (InQuote role q escaped) f = InQuoteInv text from at role q escaped f
ModeInv text from at (Behind x) f = BehindInv text from at x f
ModeInv text from at (Spaced x) f = SpacedInv text from at x f
ModeInv text from at (LetterI x n) f = LetterInv text from at x n f
ModeInv text from at (BehindIn x n) f = BehindInInv text from at x n f
ModeInv text from at (InSet x n ms) f = InSetInv text from at x n ms f
ModeInv text from at (InRange x n m) f = InRangeInv text from at x n m f

abbrev pub Inv : List ℕ → ℕ → State → Type 0
Inv text at s = (from : ℕ) × Outer text s.outer from s.frame.base × ModeInv text from at s.mode s.frame

abbrev pub Holds : List ℕ → ℕ → Step → Type 0
Holds text at (Go s) = Inv text (at + 1) s
Holds text at Stuck = Unit {0}
Holds text at (Deep n) = IsTooDeepAt text n

pub blanks_more : {text : List ℕ} {i j : ℕ} → Blanks text i j → StandsAt text j Blank → Blanks text i (j + 1)
blanks_more no_blank s = blank s no_blank
blanks_more (blank x r) s = blank x (blanks_more r s)

pub deeper_index : (d : ℕ) → d < 64 → suc (64 - (d + 1)) ≡ 64 - d
deeper_index d l = omega arith

pub blanks_le : {text : List ℕ} {i j : ℕ} → Blanks text i j → i ≤ j
blanks_le no_blank = omega arith
blanks_le (blank x r) = omega (arith, blanks_le r)

pub letters_below : {text : List ℕ} {i j : ℕ} {p : Bool} → Letters text i j p → i ≤ j
letters_below no_letter = omega arith
letters_below (letter r a b d) = omega (arith, letters_below r)
letters_below (escaped_letter r a b) = omega (arith, letters_below r)

pub so_far_below : (text : List ℕ) (i at : ℕ) (p b : Bool) → LettersSoFar text i at p b → i < at
so_far_below text i at p false x = x.1
so_far_below text i at p true x = omega (arith, x.2, letters_below x.3)

pub nest_holds : (text : List ℕ) (at n d : ℕ) (s : State) → Wants text d n → d ≤ 64 → Nests text n → (d < 64 → Inv text (at + 1) s) → Holds text at (if nat_lt d limit then Go s else Deep n)
nest_holds text at n d s w m k g = go (nat_lt d limit) refl
  where
    go : (b : Bool) → nat_lt d limit ≡ b → Holds text at (if b then Go s else Deep n)
    go true e = g (ltb-true d 64 e)
    go false e = let l : 64 ≤ d = ltb-false d 64 e in record { inside = subst (λ d. Wants text d n) (let y : d ≡ 64 = omega (arith, l, m) in y) w; nests = k }

-- where the bracket that is open begins, or the whole
pub begins_of : {text : List ℕ} (fs : List Frame) (from base : ℕ) → Outer text fs from base → Begins text base from × (base ≤ 64)
begins_of {text} [] from base o = (subst (λ i. Begins text base i) (sym o.0) (subst (λ d. Begins text d 0) (sym o.1) the_whole), omega (arith, o.1))
begins_of {text} (g ∷ gs) from base o = (subst (λ i. Begins text base i) (sym o.2) (subst (λ d. Begins text d (o.0 + 1)) (sym o.4) (a_bracket o.6.1 o.3)), omega (arith, o.4, o.5))

-- an operand has ended
pub ended_at : {text : List ℕ} {from k : ℕ} {b : Bool} (f : Frame) (t : Tree) (free : Bool) → Chain text f.base from k f.ors (behind f.ands (nots f.negations t)) b → (free ≡ true → b ≡ true) → Ended text from k free (with_operand f t)
ended_at f t free x g = record { front = _; last = _; end = _; bracket = _; some = refl; clean = refl; level = refl; chain = x; blanks = no_blank; gap = λ h. inr (g h) }

-- behind an operand another may follow
pub ended_operand : {text : List ℕ} {from at : ℕ} {free : Bool} {f : Frame} (fs : List Frame) → Outer text fs from f.base → (x : Ended text from at free f) → (x.end < at) ⊎ ((x.bracket ≡ true) ⊎ StandsAt text at Open) → OperandFn text from at f
ended_operand {text} {from} {at} {free} {f} fs o x g =
    let p = begins_of fs from f.base o in
    let w = chain_whole x.chain in (
      λ t k b u. rw (x.some, x.clean) (chain_next x.chain (x.blanks, g) (subst (λ d. Unary text t at k b (64 - d)) x.level u)),
      subst (λ d. Wants text d at) (sym x.level) (wants_next p.0 w.1 w.2 (omega (arith, p.1)) (x.blanks, g)),
      omega (arith, x.level, p.1),
    )

pub deep_unary : {text : List ℕ} {t : Tree} {i k d : ℕ} {b : Bool} → d < 64 → Unary text t i k b (suc (64 - (d + 1))) → Unary text t i k b (64 - d)
deep_unary {text} {t} {i} {k} {d} {b} l u = subst (λ n. Unary text t i k b n) (deeper_index d l) u

pub gap_of : {text : List ℕ} {from at : ℕ} {f : Frame} (x : Ended text from at true f) → (x.end < at) ⊎ ((x.bracket ≡ true) ⊎ StandsAt text at Open)
gap_of x = near (x.gap refl)
  where
    near : {A B C : Type 0} → A ⊎ B → A ⊎ (B ⊎ C)
    near (inl h) = inl h
    near (inr h) = inr (inl h)

-- `<` and `>` alone are of their kind
pub tail_no : (b0 b1 b2 b3 b4 : Bool) → (if b0 then SquareOpen else if b1 then SquareClose else if b2 then CurlyOpen else if b3 then CurlyClose else if b4 then Reserved else Plain) ≡ Angle → ⊥
tail_no true b1 b2 b3 b4 h = let x : SquareOpen ≡ Angle = h in cc
tail_no false true b2 b3 b4 h = let x : SquareClose ≡ Angle = h in cc
tail_no false false true b3 b4 h = let x : CurlyOpen ≡ Angle = h in cc
tail_no false false false true b4 h = let x : CurlyClose ≡ Angle = h in cc
tail_no false false false false true h = let x : Reserved ≡ Angle = h in cc
tail_no false false false false false h = let x : Plain ≡ Angle = h in cc

pub head_no : (a0 a1 a2 a3 a4 a5 a6 a7 a8 : Bool) (k : Kind) → (k ≡ Angle → ⊥) → (if a0 then Blank else if a1 then Quote else if a2 then Open else if a3 then Close else if a4 then Star else if a5 then Colon else if a6 then Plus else if a7 then Minus else if a8 then Escape else k) ≡ Angle → ⊥
head_no true a1 a2 a3 a4 a5 a6 a7 a8 k f h = let x : Blank ≡ Angle = h in cc
head_no false true a2 a3 a4 a5 a6 a7 a8 k f h = let x : Quote ≡ Angle = h in cc
head_no false false true a3 a4 a5 a6 a7 a8 k f h = let x : Open ≡ Angle = h in cc
head_no false false false true a4 a5 a6 a7 a8 k f h = let x : Close ≡ Angle = h in cc
head_no false false false false true a5 a6 a7 a8 k f h = let x : Star ≡ Angle = h in cc
head_no false false false false false true a6 a7 a8 k f h = let x : Colon ≡ Angle = h in cc
head_no false false false false false false true a7 a8 k f h = let x : Plus ≡ Angle = h in cc
head_no false false false false false false false true a8 k f h = let x : Minus ≡ Angle = h in cc
head_no false false false false false false false false true k f h = let x : Escape ≡ Angle = h in cc
head_no false false false false false false false false false k f h = f h

pub last_no : (b : Bool) (k : Kind) → b ≡ false → (k ≡ Angle → ⊥) → (if b then Angle else k) ≡ Angle → ⊥
last_no true k e f h = let x : true ≡ false = e in cc
last_no false k e f h = f h

pub false_or : (a b : Bool) → a ≡ false → b ≡ false → (a || (b || false)) ≡ false
false_or true b p q = p
false_or false true p q = q
false_or false false p q = refl

pub not_angle : (c : ℕ) → (c == 60) ≡ false → (c == 62) ≡ false → kind_of c ≡ Angle → ⊥
unfolding kind_of
not_angle c p q = head_no (is_blank c) (c == 34) (c == 40) (c == 41) (c == 42) (c == 58) (c == 43) (c == 45) (c == 92) _
    (last_no (is_one_of (60 ∷ 62 ∷ []) c) _ (false_or (c == 60) (c == 62) p q) (tail_no (c == 91) (c == 93) (c == 123) (c == 125) (is_reserved c)))

pub angle_byte : (text : List ℕ) (at : ℕ) → at < length text → kind_of (get_or text at 0) ≡ Angle → (b : Bool) → (get_or text at 0 == 62) ≡ b → ByteAt text at (sign_byte b)
angle_byte text at l e true t = (l, eqb-true (get_or text at 0) 62 t)
angle_byte text at l e false t = go (get_or text at 0 == 60) refl
  where
    go : (b : Bool) → (get_or text at 0 == 60) ≡ b → ByteAt text at 60
    go true h = (l, eqb-true (get_or text at 0) 60 h)
    go false h = absurd (not_angle (get_or text at 0) h t e)
