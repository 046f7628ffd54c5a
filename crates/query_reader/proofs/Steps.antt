-- One step of the machine over a slice.
use Rattle.std.proofs.Common.{◌≡◌, ◌⊎◌, inl, inr, ◌||◌, nat_lt, lt-ltb, ℕ, suc, ◌+◌, ◌-◌, ◌<◌, ◌≤◌, Bool, true, false, not, List, [], ◌∷◌, ◌++◌, length, take, drop, get_or, refl, ap, sym, ◌∙◌, arith, add-one, length-drop, get_or-drop}
use Rattle.std.specs.Prelude.{slice_range}
use Rattle.std.proofs.Math.Seq.{drop-cons}
use Rattle.std.proofs.lemmas.List.{take_more, drop_all}
use Rattle.query_reader.specs.Kinds.{kind_of}
use Rattle.query_reader.specs.Machine.{run, state, State, Frame, Mode, Role, Go, Stuck, go_on, step, finish, begin, from_operand, step_quote, word, InQuote}
use Rattle.query_reader.specs.declared.kind.Kind.{Kind}
use Rattle.query_reader.specs.declared.kind.Kind.TheVariants.{Quote, Escape, Plain, Angle, Minus}

-- the machine takes the byte at a place
pub steps : (text : List ℕ) (at : ℕ) (m : Mode) (f : Frame) (fs : List Frame) (k : Kind) → at < length text → kind_of (get_or text at 0) ≡ k
    → run at (state m f fs) (drop at text) ≡ go_on at (step m at (get_or text at 0) k f fs) (λ next. run (at + 1) next (drop (at + 1) text))
unfolding run
steps text at m f fs k l e =
    ap (run at (state m f fs)) (drop-cons text at 0 l)
    ∙ ap (λ j. go_on at (step m at (get_or text at 0) j f fs) (λ next. run (at + 1) next (drop (suc at) text))) e
    ∙ ap (λ j. go_on at (step m at (get_or text at 0) k f fs) (λ next. run (at + 1) next (drop j text))) (sym (add-one at))

-- the machine goes on at the byte at a place
pub goes : (text : List ℕ) (at : ℕ) (m : Mode) (f : Frame) (fs : List Frame) (k : Kind) (next : State) → at < length text → kind_of (get_or text at 0) ≡ k
    → step m at (get_or text at 0) k f fs ≡ Go next
    → run at (state m f fs) (drop at text) ≡ run (at + 1) next (drop (at + 1) text)
goes text at m f fs k next l e s = steps text at m f fs k l e ∙ ap (λ p. go_on at p (λ x. run (at + 1) x (drop (at + 1) text))) s

-- the text ends
pub ends : (text : List ℕ) (at : ℕ) (m : Mode) (f : Frame) (fs : List Frame) → length text ≤ at → run at (state m f fs) (drop at text) ≡ finish m at f fs
unfolding run
ends text at m f fs l = ap (run at (state m f fs)) (drop_all at text l)

-- an operand begins at a place
pub begins : (text : List ℕ) (at : ℕ) (f : Frame) (fs : List Frame) (k : Kind) → at < length text → kind_of (get_or text at 0) ≡ k
    → from_operand at f fs (drop at text) ≡ go_on at (begin false at (get_or text at 0) k f fs) (λ next. run (at + 1) next (drop (at + 1) text))
unfolding from_operand
begins text at f fs k l e =
    ap (from_operand at f fs) (drop-cons text at 0 l)
    ∙ ap (λ j. go_on at (begin false at (get_or text at 0) j f fs) (λ next. run (at + 1) next (drop (suc at) text))) e
    ∙ ap (λ j. go_on at (begin false at (get_or text at 0) k f fs) (λ next. run (at + 1) next (drop j text))) (sym (add-one at))

pub slice_more : (xs : List ℕ) (from to : ℕ) → from ≤ to → to < length xs → slice_range xs from (to + 1) ≡ slice_range xs from to ++ get_or xs to 0 ∷ []
slice_more xs from to l m =
    let e : to + 1 - from ≡ (to - from) + 1 = omega arith in
    let b : to - from < length (drop from xs) = simp length-drop (omega arith) in
    let g : from + (to - from) ≡ to = omega arith in
    ap (λ n. take n (drop from xs)) e ∙ take_more (drop from xs) (to - from) 0 b ∙ ap (λ x. take (to - from) (drop from xs) ++ x ∷ []) (get_or-drop from xs (to - from) 0 ∙ ap (λ j. get_or xs j 0) g)

pub free_or : (free : Bool) (m n : ℕ) → m < n → (free || nat_lt m n) ≡ true
free_or true m n l = refl
free_or false m n l = lt-ltb m n l

-- the bytes of a quote
pub in_quote : (text : List ℕ) (at : ℕ) (role : Role) (from : ℕ) (f : Frame) (fs : List Frame) (e e' : Bool) (k : Kind) → at < length text → kind_of (get_or text at 0) ≡ k
    → step_quote role from e at k f fs ≡ Go (state (InQuote role from e') f fs)
    → run at (state (InQuote role from e) f fs) (drop at text) ≡ run (at + 1) (state (InQuote role from e') f fs) (drop (at + 1) text)
in_quote text at role from f fs e e' k l i s = goes text at (InQuote role from e) f fs k (state (InQuote role from e') f fs) l i s

-- an escaped quotation mark
pub quote_hidden : (role : Role) (from at : ℕ) (f : Frame) (fs : List Frame) (e e' : Bool) → e ≡ true → e' ≡ false → step_quote role from e at Quote f fs ≡ Go (state (InQuote role from e') f fs)
quote_hidden role from at f fs e e' x y = rw (x, y) refl

-- a backslash
pub quote_escape : (role : Role) (from at : ℕ) (f : Frame) (fs : List Frame) (e e' : Bool) → e' ≡ not e → step_quote role from e at Escape f fs ≡ Go (state (InQuote role from e') f fs)
quote_escape role from at f fs true e' y = rw y refl
quote_escape role from at f fs false e' y = rw y refl

-- any other byte, without a backslash before it
pub quote_plain : (k : Kind) (role : Role) (from at : ℕ) (f : Frame) (fs : List Frame) (e : Bool) → e ≡ false → (k ≡ Quote → ⊥) → (k ≡ Escape → ⊥)
    → step_quote role from e at k f fs ≡ Go (state (InQuote role from e) f fs)
quote_plain Quote role from at f fs e x a b = absurd (a refl)
quote_plain Escape role from at f fs e x a b = absurd (b refl)
quote_plain _ role from at f fs e x a b = rw x refl

-- any other byte behind a backslash
pub quote_stuck : (k : Kind) (role : Role) (from at : ℕ) (f : Frame) (fs : List Frame) (e : Bool) → e ≡ true → (k ≡ Quote → ⊥) → (k ≡ Escape → ⊥) → step_quote role from e at k f fs ≡ Stuck
quote_stuck Quote role from at f fs e x a b = absurd (a refl)
quote_stuck Escape role from at f fs e x a b = absurd (b refl)
quote_stuck _ role from at f fs e x a b = rw x refl

-- the bytes of a word
pub in_word : (text : List ℕ) (to : ℕ) (role : Role) (from : ℕ) (f : Frame) (fs : List Frame) (p p' e e' : Bool) → from ≤ to → to < length text
    → step (word role from (slice_range text from to) p e) to (get_or text to 0) (kind_of (get_or text to 0)) f fs
    ≡ Go (state (word role from (slice_range text from to ++ get_or text to 0 ∷ []) p' e') f fs)
    → run to (state (word role from (slice_range text from to) p e) f fs) (drop to text)
    ≡ run (to + 1) (state (word role from (slice_range text from (to + 1)) p' e') f fs) (drop (to + 1) text)
in_word text to role from f fs p p' e e' l m s =
    goes text to (word role from (slice_range text from to) p e) f fs (kind_of (get_or text to 0)) _ m refl s
    ∙ ap (λ bytes. run (to + 1) (state (word role from bytes p' e') f fs) (drop (to + 1) text)) (sym (slice_more text from to l m))

pub word_escaped : (c : ℕ) (k : Kind) (role : Role) (from : ℕ) (bytes : List ℕ) (at : ℕ) (f : Frame) (fs : List Frame) (p p' e e' : Bool) → e ≡ true → p' ≡ false → e' ≡ false
    → step (word role from bytes p e) at c k f fs ≡ Go (state (word role from (bytes ++ c ∷ []) p' e') f fs)
word_escaped c k role from bytes at f fs p p' e e' x y z = rw (x, y, z) refl

pub word_escape : (c : ℕ) (k : Kind) (role : Role) (from : ℕ) (bytes : List ℕ) (at : ℕ) (f : Frame) (fs : List Frame) (p p' e e' : Bool) → e ≡ false → k ≡ Escape → p' ≡ false → e' ≡ true
    → step (word role from bytes p e) at c k f fs ≡ Go (state (word role from (bytes ++ c ∷ []) p' e') f fs)
word_escape c k role from bytes at f fs p p' e e' x i y z = rw (x, i, y, z) refl

pub word_plain : (c : ℕ) (k : Kind) (role : Role) (from : ℕ) (bytes : List ℕ) (at : ℕ) (f : Frame) (fs : List Frame) (p p' e e' : Bool) → e ≡ false → (k ≡ Plain) ⊎ ((k ≡ Angle) ⊎ (k ≡ Minus)) → p' ≡ p → e' ≡ e
    → step (word role from bytes p e) at c k f fs ≡ Go (state (word role from (bytes ++ c ∷ []) p' e') f fs)
word_plain c k role from bytes at f fs p p' e e' x (inl i) y z = rw (y, z, x, i) refl
word_plain c k role from bytes at f fs p p' e e' x (inr (inl i)) y z = rw (y, z, x, i) refl
word_plain c k role from bytes at f fs p p' e e' x (inr (inr i)) y z = rw (y, z, x, i) refl
