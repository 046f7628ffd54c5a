-- How a line is put together of pieces, and what then comes next of the text.
use Rattle.std.proofs.Common.{◌≡◌, ◌≢◌, ℕ, suc, ◌+◌, ◌-◌, ◌<◌, ◌≤◌, List, [], ◌∷◌, ◌++◌, length, take, drop, refl, sym, ap, ◌∙◌, subst, Bool, true, false, arith, append_assoc, length-append}
use Rattle.std.proofs.lemmas.Bool.{ne_eqb}
use Rattle.std.proofs.lemmas.List.{append-nil, nil_from_length, drop_all, drop-drop, drop-take, take-append-drop, length-drop, length-take-le}
use Rattle.std.proofs.lemmas.List.Elements.{All-head, All-tail, All-append}
use Rattle.std.specs.Prelude.{if◌then◌else◌, slice_range}
use Rattle.input_lines.specs.declared.lines.Lines.{Lines}
use Rattle.input_lines.specs.declared.lines.Taken.{Taken}
use Rattle.input_lines.specs.declared.lines.Taken.TheVariants as taken
use Rattle.input_lines.specs.declared.lines.Next.{Next}
use Rattle.input_lines.specs.declared.lines.Next.TheVariants as next
use Rattle.input_lines.specs.Reading.{onto_line, raw_lines, max_line, max_input, end_of, feed_behind}
use Rattle.input_lines.specs.Held.{held}
use Rattle.input_lines.specs.Pieces.{IsFed, IsFault, EndsWith, IsUnbroken, Splits, with_feed, Takes, Comes}

abbrev IsByte : ℕ → Type 0
IsByte c = c ≢ 10

true_is_false : true ≡ false → ⊥
true_is_false e = cc

raw-other : (c : ℕ) (text : List ℕ) → c ≢ 10 → raw_lines (c ∷ text) ≡ onto_line c (raw_lines text)
raw-other c text other = ap (λ b. if b then [] ∷ raw_lines text else onto_line c (raw_lines text)) (ne_eqb c 10 other)

raw-fed : (line rest : List ℕ) → IsUnbroken line → raw_lines (line ++ 10 ∷ rest) ≡ line ∷ raw_lines rest
raw-fed [] rest u = refl
raw-fed (c ∷ line) rest u =
    raw-other c (line ++ 10 ∷ rest) (All-head IsByte c line u) ∙ ap (onto_line c) (raw-fed line rest (All-tail IsByte c line u))

raw-last : (line : List ℕ) → IsUnbroken line → 0 < length line → raw_lines line ≡ line ∷ []
raw-last [] u some = absurd (omega (arith, some))
raw-last (c ∷ []) u some = raw-other c [] (All-head IsByte c [] u)
raw-last (c ∷ d ∷ line) u some =
    raw-other c (d ∷ line) (All-head IsByte c (d ∷ line) u)
    ∙ ap (onto_line c) (raw-last (d ∷ line) (All-tail IsByte c (d ∷ line) u) (omega arith))

-- the first line of a text is at least as long as what is known of it
record Begins (front text : List ℕ) : Type 0 where
  raw : List ℕ
  raws : List (List ℕ)
  is : raw_lines text ≡ raw ∷ raws
  longer : length front ≤ length raw

onto_begins : (c : ℕ) (front text : List ℕ) → c ≢ 10 → Begins front text → Begins (c ∷ front) (c ∷ text)
onto_begins c front text other b =
    record { raw = c ∷ b.raw; raws = b.raws; is = raw-other c text other ∙ ap (onto_line c) b.is; longer = omega (arith, b.longer) }

onto_any : (c : ℕ) (raws : List (List ℕ)) → (raw : List ℕ) × (more : List (List ℕ)) × (onto_line c raws ≡ raw ∷ more) × (1 ≤ length raw)
onto_any c [] = (c ∷ [], [], refl, omega arith)
onto_any c (line ∷ lines) = (c ∷ line, lines, refl, omega arith)

begins : (front rest : List ℕ) → IsUnbroken front → 0 < length front → Begins front (front ++ rest)
begins [] rest u some = absurd (omega (arith, some))
begins (c ∷ []) rest u some =
    let any = onto_any c (raw_lines rest) in
    record { raw = any.0; raws = any.1; is = raw-other c rest (All-head IsByte c [] u) ∙ any.2; longer = any.3 }
begins (c ∷ d ∷ front) rest u some =
    onto_begins c (d ∷ front) (d ∷ front ++ rest) (All-head IsByte c (d ∷ front) u)
    (begins (d ∷ front) rest (All-tail IsByte c (d ∷ front) u) (omega arith))

-- no byte of an unbroken piece stands behind the next line feed
pub before_feed : (at : ℕ) (piece rest : List ℕ) → IsUnbroken piece → at + length piece ≤ feed_behind at (raw_lines (piece ++ rest)) 0
before_feed at [] rest u = from_here (raw_lines rest)
  where
    from_here : (raws : List (List ℕ)) → at + 0 ≤ feed_behind at raws 0
    from_here [] = omega arith
    from_here (raw ∷ raws) = omega arith
before_feed at (c ∷ piece) rest u =
    let b = begins (c ∷ piece) rest u (omega arith) in
    subst (λ raws. at + length (c ∷ piece) ≤ feed_behind at raws 0) (sym b.is) (omega (arith, b.longer))

-- ---- a line that is under way

-- of a text behind so many bytes these bytes of a line were taken, and this is left
pub record IsUnderWay (at : ℕ) (text line : List ℕ) (taken : ℕ) (rest : List ℕ) : Type 0 where
  pub is : text ≡ line ++ rest
  pub unbroken : IsUnbroken line
  pub place : taken ≡ at + length line
  pub short : length line ≤ max_line

-- the next chunk was read
pub filled : (at : ℕ) (text line line' : List ℕ) (taken taken' : ℕ) (rest rest' : List ℕ) → line' ≡ line → taken' ≡ taken → rest ≡ rest' →
    IsUnderWay at text line taken rest → IsUnderWay at text line' taken' rest'
filled at text line line' taken taken' rest rest' same_line same_place same_rest u =
    record {
      is = u.is ∙ ap (λ r. line ++ r) same_rest ∙ ap (λ l. l ++ rest') (sym same_line);
      unbroken = subst IsUnbroken (sym same_line) u.unbroken;
      place = same_place ∙ u.place ∙ ap (λ l. at + length l) (sym same_line);
      short = subst (λ l. length l ≤ max_line) (sym same_line) u.short;
    }

module _ (at : ℕ) (text line : List ℕ) (before count : ℕ) (piece more line' : List ℕ) (u : IsUnderWay at text line before (piece ++ more)) (limit : before ≤ max_input) where
  long : length text ≡ length line + (length piece + length more)
  long = ap length u.is ∙ length-append line (piece ++ more) ∙ ap (λ n. length line + n) (length-append piece more)

  pub more_taken : Takes taken.More before count piece line line' → IsUnderWay at text line' (before + count) more
  more_taken t =
      record {
        is = u.is ∙ sym (append_assoc line piece more) ∙ ap (λ l. l ++ more) (sym t.1);
        unbroken = subst IsUnbroken (sym t.1) (All-append IsByte line piece u.unbroken t.0.1);
        place = omega (arith, u.place, t.0.0, ap length t.1, length-append line piece);
        short = t.2;
      }

  pub more_reached : (taken' : ℕ) (held : List ℕ) → taken' ≡ before + count → held ≡ drop count piece → Takes taken.More before count piece line line' →
      IsUnderWay at text line' taken' (held ++ more)
  more_reached taken' held same_place same_held t =
      filled at text line' line' (before + count) taken' more (held ++ more) refl same_place
      (ap (λ h. h ++ more) (sym (drop_all count piece (omega (arith, t.0.0)))) ∙ ap (λ h. h ++ more) (sym same_held)) (more_taken t)

  -- the bytes up to the end of a piece, or up to its line feed
  fed_is : (len : ℕ) → Splits piece len true → line ++ (piece ++ more) ≡ (line ++ take len piece) ++ 10 ∷ (drop (suc len) piece ++ more)
  fed_is len s =
      ap (λ p. line ++ (p ++ more)) (sym (take-append-drop len piece) ∙ ap (λ d. take len piece ++ d) s.2)
      ∙ ap (λ l. line ++ l) (append_assoc (take len piece) (10 ∷ drop (suc len) piece) more)
      ∙ sym (append_assoc line (take len piece) (10 ∷ (drop (suc len) piece ++ more)))

  fed_unbroken : (len : ℕ) → Splits piece len true → IsUnbroken (line ++ take len piece)
  fed_unbroken len s = All-append IsByte line (take len piece) u.unbroken s.1

  fed_length : (len : ℕ) → Splits piece len true → length (line ++ take len piece) ≡ length line + len
  fed_length len s = length-append line (take len piece) ∙ ap (λ n. length line + n) (length-take-le len piece (omega (arith, s.0)))

  pub whole_taken : before + count ≤ max_input → Takes taken.Whole before count piece line line' → Comes next.Line at text line' (before + count) (drop count piece ++ more)
  whole_taken end t = (
    subst (λ l. raw_lines text ≡ l ∷ raw_lines (drop count piece ++ more)) (sym t.3)
        (subst (λ n. raw_lines text ≡ (line ++ take t.0 piece) ∷ raw_lines (drop n piece ++ more)) (sym t.1)
        (ap raw_lines (u.is ∙ fed_is t.0 t.2) ∙ raw-fed (line ++ take t.0 piece) (drop (suc t.0) piece ++ more) (fed_unbroken t.0 t.2))),
    (t.4, omega (arith, u.place, t.1, end, ap length t.3, fed_length t.0 t.2)),
    omega (arith, u.place, t.1, long, t.2.0, ap length t.3, fed_length t.0 t.2),
    omega (arith, u.place, t.1, long, t.2.0, length-append (drop count piece) more, length-drop count piece),
  )

  first_raw : (len : ℕ) (fed : Bool) → Splits piece len fed → (fed ≡ false → 0 < length line + len) →
      (raw : List ℕ) × (raws : List (List ℕ)) × (raw_lines text ≡ raw ∷ raws) × (length line + len ≤ length raw) × (at + length line + with_feed len fed ≤ end_of (at + length text) at raw)
      × (fed ≡ true → length raw ≤ length line + len)
  first_raw len true s some = (
    line ++ take len piece,
    raw_lines (drop (suc len) piece ++ more),
    ap raw_lines (u.is ∙ fed_is len s) ∙ raw-fed (line ++ take len piece) (drop (suc len) piece ++ more) (fed_unbroken len s),
    omega (arith, fed_length len s),
    omega (arith, fed_length len s, long, s.0),
    λ _. omega (arith, fed_length len s),
  )
  first_raw len false s some =
      let b = begins (line ++ piece) more (All-append IsByte line piece u.unbroken s.1) (omega (arith, length-append line piece, s.0, some refl)) in (
        b.raw,
        b.raws,
        ap raw_lines (u.is ∙ sym (append_assoc line piece more)) ∙ b.is,
        omega (arith, b.longer, length-append line piece, s.0),
        omega (arith, b.longer, length-append line piece, s.0, long),
        λ e. absurd (true_is_false (sym e)),
      )

  pub line_over : Takes taken.LineOver before count piece line line' → (line'' : List ℕ) (at' : ℕ) (rest : List ℕ) → Comes next.LineOver at text line'' at' rest
  line_over t line'' at' rest =
      let r = first_raw t.0 t.1 t.2 (λ _. omega (arith, t.3)) in
      (r.0, r.1, r.2, (omega (arith, r.3, t.3), omega (arith, t.4, u.place)))

  pub whole_reached : (taken' : ℕ) (held : List ℕ) → taken' ≡ before + count → held ≡ drop count piece → taken' ≤ max_input → Takes taken.Whole before count piece line line' →
      Comes next.Line at text line' taken' (held ++ more)
  whole_reached taken' held same_place same_held end t =
      subst (λ n. Comes next.Line at text line' n (held ++ more)) (sym same_place)
      (subst (λ h. Comes next.Line at text line' (before + count) (h ++ more)) (sym same_held) (whole_taken (omega (arith, same_place, end)) t))

  over_some : (len : ℕ) (fed : Bool) → max_input < before + with_feed len fed → fed ≡ false → 0 < length line + len
  over_some len true over e = absurd (true_is_false e)
  over_some len false over e = omega (arith, over, limit)

  not_line : (len : ℕ) (fed : Bool) (raw : ℕ) → max_input < before + with_feed len fed → (before + max_line ≤ max_input + length line → length line + len ≤ max_line) →
      (fed ≡ true → raw ≤ length line + len) → max_line < raw → at + max_line ≤ max_input → ⊥
  not_line len true raw over first short passes early =
      let within = first (omega (arith, early, u.place)) in
      let all = short refl in
      omega (arith, within, all, passes)
  not_line len false raw over first short passes early =
      let within = first (omega (arith, early, u.place)) in
      omega (arith, within, over, early, u.place)

  pub input_over : Takes taken.InputOver before count piece line line' → (line'' : List ℕ) (at' : ℕ) (rest : List ℕ) → Comes next.InputOver at text line'' at' rest
  input_over t line'' at' rest =
      let r = first_raw t.0 t.1 t.2 (over_some t.0 t.1 t.3) in
      (r.0, r.1, r.2, (omega (arith, r.4, t.3, u.place), λ passes. not_line t.0 t.1 (length r.0) t.3 t.4 r.5 passes.0 passes.1))

-- ---- the end of the text

last_line : (at : ℕ) (text line : List ℕ) (taken : ℕ) → IsUnderWay at text line taken [] → taken ≤ max_input → at < taken → Comes next.Last at text line taken []
last_line at text line taken u limit some =
    let e : text ≡ line = u.is ∙ append-nil line in (
      (ap raw_lines e ∙ raw-last line u.unbroken (omega (arith, u.place, some)), (u.short, omega (arith, u.place, limit, ap length e)), omega (arith, u.place, ap length e), omega (arith, u.place, ap length e)),
      refl,
    )

ended_at : (n : Next) (at : ℕ) (text line : List ℕ) (taken : ℕ) → EndsWith n at taken → IsUnderWay at text line taken [] → taken ≤ max_input → Comes n at text line taken []
ended_at next.Line at text line taken e u limit = absurd e
ended_at next.Last at text line taken e u limit = last_line at text line taken u limit e
ended_at next.End at text line taken e u limit = u.is ∙ append-nil line ∙ nil_from_length line (omega (arith, u.place, e))
ended_at next.LineOver at text line taken e u limit = absurd e
ended_at next.InputOver at text line taken e u limit = absurd e
ended_at next.Fault at text line taken e u limit = absurd e

pub ended : (n : Next) (at : ℕ) (text line : List ℕ) (taken : ℕ) (rest : List ℕ) → rest ≡ [] → EndsWith n at taken → IsUnderWay at text line taken rest →
    taken ≤ max_input → Comes n at text line taken rest
ended n at text line taken rest none e u limit =
    subst (λ r. Comes n at text line taken r) (sym none) (ended_at n at text line taken e (subst (λ r. IsUnderWay at text line taken r) none u) limit)

-- what comes at the end is no line with a line feed
pub ended_not_fed : (n : Next) (before taken : ℕ) → EndsWith n before taken → IsFed n → ⊥
ended_not_fed next.Line before taken e f = e
ended_not_fed next.Last before taken e f = f
ended_not_fed next.End before taken e f = f
ended_not_fed next.LineOver before taken e f = f
ended_not_fed next.InputOver before taken e f = f
ended_not_fed next.Fault before taken e f = f

-- a fault that comes at the end is none
pub ended_no_fault : (n : Next) (before taken : ℕ) → EndsWith n before taken → IsFault n → ⊥
ended_no_fault next.Line before taken e f = f
ended_no_fault next.Last before taken e f = f
ended_no_fault next.End before taken e f = f
ended_no_fault next.LineOver before taken e f = f
ended_no_fault next.InputOver before taken e f = f
ended_no_fault next.Fault before taken e f = e

-- ---- a line's place, over every input

pub more_place : (v : Taken) (old before count : ℕ) (piece line line' : List ℕ) → v ≡ taken.More → before ≡ old + length line → Takes v before count piece line line' →
    (before + count ≡ old + length line') × (length line' ≤ max_line)
more_place v old before count piece line line' is place takes =
    let t : Takes taken.More before count piece line line' = subst (λ x. Takes x before count piece line line') is takes in
    (omega (arith, place, t.0.0, ap length t.1, length-append line piece), t.2)

pub whole_place : (v : Taken) (old before count : ℕ) (piece line line' : List ℕ) → v ≡ taken.Whole → before ≡ old + length line → Takes v before count piece line line' →
    before + count ≡ old + length line' + 1
whole_place v old before count piece line line' is place takes =
    let t : Takes taken.Whole before count piece line line' = subst (λ x. Takes x before count piece line line') is takes in
    omega (arith, place, t.1, ap length t.3, length-append line (take t.0 piece), length-take-le t.0 piece (omega (arith, t.2.0)))

-- ---- a reader that takes

held_behind : (chunk : List ℕ) (from to count : ℕ) → from + count ≤ to → slice_range chunk (from + count) to ≡ drop count (slice_range chunk from to)
held_behind chunk from to count h =
    let n : to - from ≡ count + (to - (from + count)) = omega (arith, h) in
    ap (λ d. take (to - (from + count)) d) (sym (drop-drop count from chunk))
    ∙ sym (drop-take count (to - (from + count)) (drop from chunk))
    ∙ ap (λ m. drop count (take m (drop from chunk))) (sym n)

-- what a take did to a line that is under way
abbrev pub Reached : Taken → ℕ → List ℕ → List ℕ → ℕ → List ℕ → Type 0
Reached taken.More at text line place rest = IsUnderWay at text line place rest
Reached taken.Whole at text line place rest = Comes next.Line at text line place rest
Reached taken.LineOver at text line place rest = Comes next.LineOver at text line place rest
Reached taken.InputOver at text line place rest = Comes next.InputOver at text line place rest

module _ (at : ℕ) (text more : List ℕ) (old new : Lines) (u : IsUnderWay at text old.line.items old.taken (held old ++ more)) where
  took : (outcome : Taken) (count : ℕ) → new.taken ≡ old.taken + count → held new ≡ drop count (held old) → old.taken ≤ max_input → new.taken ≤ max_input →
      Takes outcome old.taken count (held old) old.line.items new.line.items → Reached outcome at text new.line.items new.taken (held new ++ more)
  took taken.More count place same old_in new_in t = more_reached at text old.line.items old.taken count (held old) more new.line.items u old_in new.taken (held new) place same t
  took taken.Whole count place same old_in new_in t = whole_reached at text old.line.items old.taken count (held old) more new.line.items u old_in new.taken (held new) place same new_in t
  took taken.LineOver count place same old_in new_in t = line_over at text old.line.items old.taken count (held old) more new.line.items u old_in t new.line.items new.taken (held new ++ more)
  took taken.InputOver count place same old_in new_in t = input_over at text old.line.items old.taken count (held old) more new.line.items u old_in t new.line.items new.taken (held new ++ more)

  pub reached : (outcome : Taken) → (new.chunk ≡ old.chunk) × (new.to ≡ old.to) →
      (count : ℕ) × (new.from ≡ old.from + count) × (new.taken ≡ old.taken + count)
      × (length old.line.items ≤ max_line → Takes outcome old.taken count (held old) old.line.items new.line.items) →
      old.taken ≤ max_input → new.taken ≤ max_input → new.from ≤ new.to → Reached outcome at text new.line.items new.taken (held new ++ more)
  reached outcome kept t old_in new_in order = took outcome t.0 t.2 same old_in new_in (t.3 u.short)
    where
      same : held new ≡ drop t.0 (held old)
      same =
          ap (λ v. slice_range v.items new.from new.to) kept.0 ∙ ap (λ n. slice_range old.chunk.items new.from n) kept.1
          ∙ ap (λ n. slice_range old.chunk.items n old.to) t.1 ∙ held_behind old.chunk.items old.from old.to t.0 (omega (arith, kept.1, t.1, order))
