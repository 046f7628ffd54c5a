-- Each state of the machine can be brought to an end, so where it is stuck is where no query goes on.
use Rattle.std.proofs.Math.Seq.{take-add}
use Rattle.std.proofs.lemmas.Bool.{cases_lt}
use Rattle.std.proofs.Common.{◌≡◌, ℕ, suc, ◌+◌, ◌-◌, drop, inl, inr, ◌<◌, ◌≤◌, Bool, true, false, List, [], ◌∷◌, ◌++◌, length, take, Option, Some, None, Result, Ok, Err, refl, ap, sym, ◌∙◌, arith, add-zero, append_assoc}
use Rattle.query_reader.specs.Kinds.{kind_of, said, names_set}
use Rattle.query_reader.specs.Tree.{Tree}
use Rattle.query_reader.specs.Machine.{run, start, reads, state, State, Frame, Mode, Role, First, Joined, Fielded, InASet, Step, Go, Stuck, Deep, Want, After, InWord, InQuote, Behind, Spaced, LetterI, BehindIn, InSet, InRange, Head, word, go_on, step, finish, with_operand, whole, done_with, finished, finish_plain, finish_not, finish_word, finish_range, limit}
use Rattle.std.proofs.Common.{nat_lt, if◌then◌else◌}
use Rattle.query_reader.specs.Ranges.{range_end}
use Rattle.query_reader.specs.declared.special.Ranged.{Ranged}
use Rattle.query_reader.specs.declared.kind.Said.{Said}
use Rattle.query_reader.specs.declared.kind.Said.TheVariants.{SaidWord, SaidAnd, SaidOr, SaidNot}
use Rattle.query_reader.specs.declared.tree.Span.{Span}
use Rattle.query_reader.specs.declared.special.Spot.TheVariants.{Low, High, One}
use Rattle.query_reader.specs.declared.special.RangeMode.{RangeMode}
use Rattle.query_reader.specs.declared.special.RangeMode.TheVariants.{Wanted, Quoting, Running, BehindLow, LetterT, BehindTo, Closing, Sign}
use Rattle.query_reader.specs.declared.fault.Fault.{Fault}
use Rattle.query_reader.specs.declared.fault.Fault.TheVariants as faults

-- a query text
abbrev pub IsRead : List ℕ → Type 0
IsRead text = (t : Tree) × (reads text ≡ Ok t)

-- some query text begins so
abbrev pub BeginsRead : List ℕ → Type 0
BeginsRead front = (tail : List ℕ) × IsRead (front ++ tail)

-- the length of the longest prefix of the text that some query has as its prefix too
pub record IsLongestRead (text : List ℕ) (at : ℕ) : Type 0 where
  pub within : at ≤ length text
  pub begins : BeginsRead (take at text)
  pub longest : (n : ℕ) → n ≤ length text → BeginsRead (take n text) → n ≤ at

-- a closing bracket for each that is open
abbrev closes : List Frame → List ℕ
closes [] = []
closes (f ∷ fs) = 41 ∷ closes fs

-- the machine comes to an end on this text
abbrev pub Ends : ℕ → State → List ℕ → Type 0
Ends at s text = (t : Tree) × (run at s text ≡ Ok t)

ends_closed : (fs : List Frame) (at : ℕ) (f : Frame) (t : Tree) → Ends at (state (After true) (with_operand f t) fs) (closes fs)
unfolding run kind_of
ends_closed [] at f t = (_, refl)
ends_closed (g ∷ fs) at f t = ends_closed fs (at + 1) g _

-- from a word
live_word : (b : Bool) (role : Role) (from : ℕ) (bytes : List ℕ) (p : Bool) (f : Frame) (fs : List Frame) (at : ℕ) → (text : List ℕ) × Ends at (state (word role from bytes p b) f fs) text
unfolding run kind_of said names_set
live_word true First from bytes p f fs at = (92 ∷ 120 ∷ 32 ∷ closes fs, ends_closed fs (at + 1 + 1 + 1) f _)
live_word false First from bytes p f fs at = (92 ∷ 120 ∷ 32 ∷ closes fs, ends_closed fs (at + 1 + 1 + 1) f _)
live_word true Joined from bytes p f fs at = (92 ∷ 120 ∷ 32 ∷ closes fs, ends_closed fs (at + 1 + 1 + 1) f _)
live_word false Joined from bytes p f fs at = (92 ∷ 120 ∷ 32 ∷ closes fs, ends_closed fs (at + 1 + 1 + 1) f _)
live_word true (Fielded s) from bytes p f fs at = (92 ∷ 120 ∷ 42 ∷ 32 ∷ closes fs, ends_closed fs (at + 1 + 1 + 1 + 1) f _)
live_word false (Fielded s) from bytes p f fs at = (92 ∷ 120 ∷ 42 ∷ 32 ∷ closes fs, ends_closed fs (at + 1 + 1 + 1 + 1) f _)
live_word true (InASet s n ms) from bytes p f fs at = (92 ∷ 120 ∷ 93 ∷ closes fs, ends_closed fs (at + 1 + 1 + 1) f _)
live_word false (InASet s n ms) from bytes p f fs at = (92 ∷ 120 ∷ 93 ∷ closes fs, ends_closed fs (at + 1 + 1 + 1) f _)

-- from a quote, whose end is `"`, behind a backslash `""`
live_quote : (b : Bool) (role : Role) (from : ℕ) (f : Frame) (fs : List Frame) (at : ℕ) → (text : List ℕ) × Ends at (state (InQuote role from b) f fs) text
unfolding run kind_of said names_set
live_quote true First from f fs at = (34 ∷ 34 ∷ 32 ∷ closes fs, ends_closed fs (at + 1 + 1 + 1) f _)
live_quote false First from f fs at = (34 ∷ 32 ∷ closes fs, ends_closed fs (at + 1 + 1) f _)
live_quote true Joined from f fs at = (34 ∷ 34 ∷ 32 ∷ closes fs, ends_closed fs (at + 1 + 1 + 1) f _)
live_quote false Joined from f fs at = (34 ∷ 32 ∷ closes fs, ends_closed fs (at + 1 + 1) f _)
live_quote true (Fielded s) from f fs at = (34 ∷ 34 ∷ 32 ∷ closes fs, ends_closed fs (at + 1 + 1 + 1) f _)
live_quote false (Fielded s) from f fs at = (34 ∷ 32 ∷ closes fs, ends_closed fs (at + 1 + 1) f _)
live_quote true (InASet s n ms) from f fs at = (34 ∷ 34 ∷ 93 ∷ closes fs, ends_closed fs (at + 1 + 1 + 1) f _)
live_quote false (InASet s n ms) from f fs at = (34 ∷ 93 ∷ closes fs, ends_closed fs (at + 1 + 1) f _)

-- from a range: `x TO x]` behind a low edge, `x]` behind a high one, and `x ` behind a sign
live_range : (m : RangeMode) (s : Span) (n : ℕ) (f : Frame) (fs : List Frame) (at : ℕ) → (text : List ℕ) × Ends at (state (InRange s n m) f fs) text
unfolding run kind_of
live_range (Wanted (Low c)) s n f fs at = (120 ∷ 32 ∷ 84 ∷ 79 ∷ 32 ∷ 120 ∷ 93 ∷ closes fs, ends_closed fs (at + 1 + 1 + 1 + 1 + 1 + 1 + 1) f _)
live_range (Wanted (High c low)) s n f fs at = (120 ∷ 93 ∷ closes fs, ends_closed fs (at + 1 + 1) f _)
live_range (Wanted (One op)) s n f fs at = (120 ∷ 32 ∷ closes fs, ends_closed fs (at + 1 + 1) f _)
live_range (Quoting (Low c) from true) s n f fs at = (34 ∷ 34 ∷ 32 ∷ 84 ∷ 79 ∷ 32 ∷ 120 ∷ 93 ∷ closes fs, ends_closed fs (at + 1 + 1 + 1 + 1 + 1 + 1 + 1 + 1) f _)
live_range (Quoting (Low c) from false) s n f fs at = (34 ∷ 32 ∷ 84 ∷ 79 ∷ 32 ∷ 120 ∷ 93 ∷ closes fs, ends_closed fs (at + 1 + 1 + 1 + 1 + 1 + 1 + 1) f _)
live_range (Quoting (High c low) from true) s n f fs at = (34 ∷ 34 ∷ 93 ∷ closes fs, ends_closed fs (at + 1 + 1 + 1) f _)
live_range (Quoting (High c low) from false) s n f fs at = (34 ∷ 93 ∷ closes fs, ends_closed fs (at + 1 + 1) f _)
live_range (Quoting (One op) from true) s n f fs at = (34 ∷ 34 ∷ 32 ∷ closes fs, ends_closed fs (at + 1 + 1 + 1) f _)
live_range (Quoting (One op) from false) s n f fs at = (34 ∷ 32 ∷ closes fs, ends_closed fs (at + 1 + 1) f _)
live_range (Running (Low c) from b) s n f fs at = (120 ∷ 32 ∷ 84 ∷ 79 ∷ 32 ∷ 120 ∷ 93 ∷ closes fs, ends_closed fs (at + 1 + 1 + 1 + 1 + 1 + 1 + 1) f _)
live_range (Running (High c low) from b) s n f fs at = (120 ∷ 93 ∷ closes fs, ends_closed fs (at + 1 + 1) f _)
live_range (Running (One op) from b) s n f fs at = (120 ∷ 32 ∷ closes fs, ends_closed fs (at + 1 + 1) f _)
live_range (BehindLow c low b) s n f fs at = (32 ∷ 84 ∷ 79 ∷ 32 ∷ 120 ∷ 93 ∷ closes fs, ends_closed fs (at + 1 + 1 + 1 + 1 + 1 + 1) f _)
live_range (LetterT c low) s n f fs at = (79 ∷ 32 ∷ 120 ∷ 93 ∷ closes fs, ends_closed fs (at + 1 + 1 + 1 + 1) f _)
live_range (BehindTo c low) s n f fs at = (32 ∷ 120 ∷ 93 ∷ closes fs, ends_closed fs (at + 1 + 1 + 1) f _)
live_range (Closing c low high) s n f fs at = (93 ∷ closes fs, ends_closed fs (at + 1) f _)
live_range (Sign b) s n f fs at = (120 ∷ 32 ∷ closes fs, ends_closed fs (at + 1 + 1) f _)

-- a way to the end from each state
live : (m : Mode) (f : Frame) (fs : List Frame) (at : ℕ) → (text : List ℕ) × Ends at (state m f fs) text
unfolding run kind_of said names_set
live (Want b) f fs at = (92 ∷ 120 ∷ 32 ∷ closes fs, ends_closed fs (at + 1 + 1 + 1) f _)
live (After true) f fs at = (32 ∷ 92 ∷ 120 ∷ 32 ∷ closes fs, ends_closed fs (at + 1 + 1 + 1 + 1) f _)
live (After false) f fs at = (32 ∷ 92 ∷ 120 ∷ 32 ∷ closes fs, ends_closed fs (at + 1 + 1 + 1 + 1) f _)
live (InWord h) f fs at = live_word h.escaped h.role h.from h.bytes h.plain f fs at
live (InQuote role from b) f fs at = live_quote b role from f fs at
live (Behind s) f fs at = (92 ∷ 120 ∷ 32 ∷ closes fs, ends_closed fs (at + 1 + 1 + 1) f _)
live (Spaced s) f fs at = (42 ∷ 32 ∷ closes fs, ends_closed fs (at + 1 + 1) f _)
live (LetterI s n) f fs at = (78 ∷ 91 ∷ 93 ∷ closes fs, ends_closed fs (at + 1 + 1 + 1) f _)
live (BehindIn s n) f fs at = (91 ∷ 93 ∷ closes fs, ends_closed fs (at + 1 + 1) f _)
live (InSet s n ms) f fs at = (93 ∷ closes fs, ends_closed fs (at + 1) f _)
live (InRange s n m) f fs at = live_range m s n f fs at

-- where the machine is stuck: after k more bytes, with a way to the end before that place and none behind it
record StuckAfter (at : ℕ) (s : State) (text : List ℕ) (n k : ℕ) : Type 0 where
  pub place : n ≡ at + k
  pub within : k ≤ length text
  pub front : (tail : List ℕ) × Ends at s (take k text ++ tail)
  pub none : k < length text → (tail : List ℕ) → run at s (take (suc k) text ++ tail) ≡ Err (faults.Syntax n)

IsStuck : ℕ → State → List ℕ → ℕ → Type 0
IsStuck at s text n = (k : ℕ) × StuckAfter at s text n k

syntax_place : {a b : ℕ} → ◌≡◌ {A = Result Tree Fault} (Err (faults.Syntax a)) (Err (faults.Syntax b)) → a ≡ b
syntax_place e = cc

one_step : (at : ℕ) (s : State) (c : ℕ) (cs : List ℕ) → run at s (c ∷ cs) ≡ go_on at (step s.mode at c (kind_of c) s.frame s.outer) (λ next. run (at + 1) next cs)
unfolding run
one_step at s c cs = refl

at_end : (at : ℕ) (s : State) (n : ℕ) → n ≡ at → IsStuck at s [] n
unfolding IsStuck
at_end at s n h = (0, record { place = h ∙ sym (add-zero at); within = omega arith; front = live s.mode s.frame s.outer at; none = λ l. absurd (omega arith) })

stuck_step : (cs : List ℕ) (p : Step) (at : ℕ) (s : State) (c n : ℕ) → step s.mode at c (kind_of c) s.frame s.outer ≡ p
    → go_on at p (λ next. run (at + 1) next cs) ≡ Err (faults.Syntax n)
    → ((next : State) → run (at + 1) next cs ≡ Err (faults.Syntax n) → IsStuck (at + 1) next cs n)
    → IsStuck at s (c ∷ cs) n
unfolding IsStuck
stuck_step cs Stuck at s c n e h again = (
  0,
  record {
    place = sym (syntax_place h) ∙ sym (add-zero at);
    within = omega arith;
    front = live s.mode s.frame s.outer at;
    none = λ l tail. one_step at s c tail ∙ ap (λ p. go_on at p (λ next. run (at + 1) next tail)) e ∙ h;
  },
)
stuck_step cs (Deep from) at s c n e h again = absurd (let f : ◌≡◌ {A = Result Tree Fault} (Err (faults.TooDeep from)) (Err (faults.Syntax n)) = h in cc)
stuck_step cs (Go next) at s c n e h again =
    let ih : IsStuck (at + 1) next cs n = again next h in
    let goes : (text : List ℕ) → run at s (c ∷ text) ≡ run (at + 1) next text = λ text. one_step at s c text ∙ ap (λ p. go_on at p (λ x. run (at + 1) x text)) e in (
      suc ih.0,
      record {
        place = omega (arith, ih.1.place);
        within = omega (arith, ih.1.within);
        front = (ih.1.front.0, (ih.1.front.1.0, goes (take ih.0 cs ++ ih.1.front.0) ∙ ih.1.front.1.1));
        none = λ l tail. goes (take (suc ih.0) cs ++ tail) ∙ ih.1.none (omega arith) tail;
      },
    )

-- where the text ends too early is its end
finished_there : (o : Option Tree) (at n : ℕ) → finished at o ≡ Err (faults.Syntax n) → n ≡ at
finished_there (Some t) at n h = absurd (let f : ◌≡◌ {A = Result Tree Fault} (Ok t) (Err (faults.Syntax n)) = h in cc)
finished_there None at n h = sym (syntax_place h)

plain_there : (role : Role) (from at : ℕ) (f : Frame) (fs : List Frame) (n : ℕ) → finish_plain role from at f fs ≡ Err (faults.Syntax n) → n ≡ at
plain_there (InASet s m ms) from at f fs n h = sym (syntax_place h)
plain_there First from at f fs n h = finished_there _ at n h
plain_there Joined from at f fs n h = finished_there _ at n h
plain_there (Fielded s) from at f fs n h = finished_there _ at n h

deep_there : (b : Bool) (from at n : ℕ) → ◌≡◌ {A = Result Tree Fault} (if b then Err (faults.Syntax at) else Err (faults.TooDeep from)) (Err (faults.Syntax n)) → n ≡ at
deep_there true from at n h = sym (syntax_place h)
deep_there false from at n h = absurd (let f : ◌≡◌ {A = Result Tree Fault} (Err (faults.TooDeep from)) (Err (faults.Syntax n)) = h in cc)

not_there : (role : Role) (from at : ℕ) (f : Frame) (n : ℕ) → finish_not role from at f ≡ Err (faults.Syntax n) → n ≡ at
not_there First from at f n h = deep_there (nat_lt f.deep limit) from at n h
not_there Joined from at f n h = deep_there (nat_lt f.deep limit) from at n h
not_there (Fielded s) from at f n h = sym (syntax_place h)
not_there (InASet s m ms) from at f n h = sym (syntax_place h)

word_there : (s : Said) (role : Role) (from at : ℕ) (f : Frame) (fs : List Frame) (n : ℕ) → finish_word role s from at f fs ≡ Err (faults.Syntax n) → n ≡ at
word_there SaidWord role from at f fs n h = plain_there role from at f fs n h
word_there SaidNot role from at f fs n h = not_there role from at f n h
word_there SaidAnd role from at f fs n h = sym (syntax_place h)
word_there SaidOr role from at f fs n h = sym (syntax_place h)

escaped_there : (b : Bool) (h : Head) (at : ℕ) (f : Frame) (fs : List Frame) (n : ℕ) → (if b then Err (faults.Syntax at) else finish_word h.role (said h.plain h.bytes) h.from at f fs) ≡ Err (faults.Syntax n) → n ≡ at
escaped_there true h at f fs n e = sym (syntax_place e)
escaped_there false h at f fs n e = word_there (said h.plain h.bytes) h.role h.from at f fs n e

range_there : (o : Option Ranged) (s : Span) (m at : ℕ) (f : Frame) (fs : List Frame) (n : ℕ) → finish_range s m o at f fs ≡ Err (faults.Syntax n) → n ≡ at
range_there (Some r) s m at f fs n h = finished_there _ at n h
range_there None s m at f fs n h = sym (syntax_place h)

ends_there : (m : Mode) (at : ℕ) (f : Frame) (fs : List Frame) (n : ℕ) → finish m at f fs ≡ Err (faults.Syntax n) → n ≡ at
ends_there (After free) at f fs n h = finished_there (done_with fs (whole f)) at n h
ends_there (InWord w) at f fs n h = escaped_there w.escaped w at f fs n h
ends_there (InRange s m r) at f fs n h = range_there (range_end r at) s m at f fs n h
ends_there _ at f fs n h = sym (syntax_place h)

stuck : (text : List ℕ) (at : ℕ) (s : State) (n : ℕ) → run at s text ≡ Err (faults.Syntax n) → IsStuck at s text n
unfolding run
stuck [] at s n h = at_end at s n (ends_there s.mode at s.frame s.outer n h)
stuck (c ∷ cs) at s n h = stuck_step cs (step s.mode at c (kind_of c) s.frame s.outer) at s c n refl h (λ next. stuck cs (at + 1) next n)

cut_again : (text tail : List ℕ) (k m : ℕ) → k < m → take m text ++ tail ≡ take (suc k) text ++ (take (m - suc k) (drop (suc k) text) ++ tail)
cut_again text tail k m l =
    let e : m ≡ suc k + (m - suc k) = omega arith in
    ap (λ j. take j text ++ tail) e ∙ ap (λ xs. xs ++ tail) (take-add (suc k) (m - suc k) text) ∙ append_assoc (take (suc k) text) (take (m - suc k) (drop (suc k) text)) tail

-- a fault of syntax is the length of the longest prefix that some query has too
pub longest_read : (text : List ℕ) (n : ℕ) → reads text ≡ Err (faults.Syntax n) → IsLongestRead text n
unfolding IsStuck
longest_read text n h =
    let x : IsStuck 0 start text n = stuck text 0 start n h in
    let s : StuckAfter 0 start text n x.0 = x.1 in
    let same : n ≡ x.0 = omega (arith, s.place) in
    record {
      within = omega (arith, s.within);
      begins = rw same (s.front.0, (s.front.1.0, s.front.1.1));
      longest = λ m l b. elim (cases_lt x.0 m) [
        | inl lt ↦ absurd (let far : run 0 start (take m text ++ b.0) ≡ Err (faults.Syntax n) = ap (run 0 start) (cut_again text b.0 x.0 m lt) ∙ s.none (omega arith) (take (m - suc x.0) (drop (suc x.0) text) ++ b.0) in
            let near : run 0 start (take m text ++ b.0) ≡ Ok b.1.0 = b.1.1 in cc)
        | inr le ↦ omega arith
      ];
    }
