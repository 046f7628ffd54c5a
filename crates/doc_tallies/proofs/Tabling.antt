-- What numbers between two count for, and tables of classes.
use Rattle.std.proofs.Common.{◌≡◌, ℕ, ℤ, pos, negsuc, zero, suc, ◌+◌, ◌-◌, ◌*◌, ◌/◌, ◌<◌, ◌≤◌, ◌≤ℤ◌, ◌-ℤ◌, ◌⊎◌, inl, inr, Bool, true, false, List, [], ◌∷◌, ◌++◌, None, IfSome, set, length, slice_get, Option, Some, refl, ap, sym, subst, ◌∙◌, arith}
use Rattle.std.specs.Bool.{OnTrue}
use Rattle.std.specs.Int.{int_div_euclid}
use Rattle.std.proofs.lemmas.Bool.{cases_lt, lt-ltb, le-ltb}
use Rattle.std.proofs.lemmas.Int.{ints}
use Rattle.doc_value.specs.declared.schema.Kind.{Kind}
use Rattle.doc_value.specs.declared.schema.Kind.TheVariants as kinds
use Rattle.agg_model.specs.Checking.{HasInterval}
use Rattle.agg_model.specs.declared.request.Agg.{Agg}
use Rattle.agg_model.specs.declared.request.Agg.TheVariants.{Terms, Histogram}
use Rattle.doc_tallies.specs.declared.classes.Class.{Class}
use Rattle.doc_tallies.specs.declared.span.Span.{Span}
use Rattle.doc_tallies.specs.Classes.{IsCounted}
use Rattle.doc_tallies.specs.Marks.{mark_of, unturned, whole_number}
use Rattle.doc_tallies.specs.Tables.{IsMarkAt, IsTable, StandsAt}

-- ---- numbers between two

quotient_up : (a b n : ℕ) → a ≤ b → 1 ≤ n → a / n ≤ b / n
quotient_up a b n le one = grind arith

step_up : (a b interval : ℤ) → pos 1 ≤ℤ interval → a ≤ℤ b → int_div_euclid a interval ≤ℤ int_div_euclid b interval
step_up (pos a) (pos b) (pos n) some le = let up = quotient_up a b n (omega (arith, ints)) (omega (arith, ints)) in omega (arith, ints)
step_up (negsuc a) (negsuc b) (pos n) some le = let up = quotient_up b a n (omega (arith, ints)) (omega (arith, ints)) in omega (arith, ints)
step_up (negsuc a) (pos b) (pos n) some le = omega (arith, ints)
step_up (pos a) (negsuc b) (pos n) some le = absurd (omega (arith, ints))
step_up a b (negsuc n) some le = absurd (omega (arith, ints))

unturned_up : (a b : ℕ) → a ≤ b → unturned a ≤ℤ unturned b
unturned_up a b le = elim (cases_lt a 9223372036854775808) [
  | inl low ↦ rw (lt-ltb a 9223372036854775808 low) (elim (cases_lt b 9223372036854775808) [
    | inl other ↦ rw (lt-ltb b 9223372036854775808 other) (omega (arith, ints))
    | inr above ↦ rw (le-ltb b 9223372036854775808 above) (omega (arith, ints))
  ])
  | inr high ↦ rw (le-ltb a 9223372036854775808 high, le-ltb b 9223372036854775808 (omega arith)) (omega (arith, ints))
]

whole_up : (kind : Kind) (a b : ℕ) → a ≤ b → whole_number kind a ≤ℤ whole_number kind b
whole_up kinds.Text a b le = omega (arith, ints)
whole_up kinds.TextList a b le = omega (arith, ints)
whole_up kinds.I64 a b le = unturned_up a b le
whole_up kinds.U64 a b le = omega (arith, ints)
whole_up kinds.Bool a b le = omega (arith, ints)
whole_up kinds.Datetime a b le = unturned_up a b le

less_up : (a b c : ℤ) → a ≤ℤ b → (a -ℤ c) ≤ℤ (b -ℤ c)
less_up a b c le = omega (arith, ints)

mark_up : (agg : Agg) (kind : Kind) (a b : ℕ) → HasInterval agg → a ≤ b → mark_of agg kind a ≤ℤ mark_of agg kind b
mark_up (Terms field size) kind a b some le = omega (arith, ints)
mark_up (Histogram field interval offset least dated) kind a b some le =
    step_up (whole_number kind a -ℤ offset) (whole_number kind b -ℤ offset) interval some (less_up (whole_number kind a) (whole_number kind b) offset (whole_up kind a b le))

between : (low mid high : ℤ) → low ≤ℤ mid → mid ≤ℤ high → high ≡ low → mid ≡ low
between low mid high a b e = omega (arith, ints)

-- numbers between two that count for the same count for it too
pub mark_between : (agg : Agg) (kind : Kind) (low n high : ℕ) → HasInterval agg → low ≤ n → n ≤ high → mark_of agg kind high ≡ mark_of agg kind low → mark_of agg kind n ≡ mark_of agg kind low
mark_between agg kind low n high some a b e = between (mark_of agg kind low) (mark_of agg kind n) (mark_of agg kind high) (mark_up agg kind low n some a) (mark_up agg kind n high some b) e

-- ---- places

-- where numbers stand at a place
pub place_ends : (least n size place : ℕ) → least ≤ n → 0 < size → (n - least) / size ≡ place → (least + place * size ≤ n) × (n ≤ least + place * size + (size - 1))
place_ends least n size place le some at =
    let low : ((n - least) / size) * size ≤ n - least = grind arith in
    let high : n - least < ((n - least) / size) * size + size = grind arith in
    let same : ((n - least) / size) * size ≡ place * size = ap (λ (k : ℕ). k * size) at in
    (omega arith, omega arith)

record HadMark (cells : List Class) (place : ℕ) (mark : ℤ) : Type 0 where
  class : Class
  here : slice_get cells place ≡ Some class
  marked : class.mark ≡ Some mark

had_mark : (cells : List Class) (i place : ℕ) (old new c : Class) (mark : ℤ) → slice_get cells i ≡ Some old → new.mark ≡ old.mark → slice_get (set cells i new) place ≡ Some c → c.mark ≡ Some mark → HadMark cells place mark
had_mark [] i place old new c mark here same got marked = absurd (cc)
had_mark (x ∷ xs) zero zero old new c mark here same got marked =
    let was : x ≡ old = cc in
    let now : new ≡ c = cc in
    record { class = x; here = refl; marked = ap (λ (k : Class). k.mark) was ∙ (sym same ∙ (ap (λ (k : Class). k.mark) now ∙ marked)) }
had_mark (x ∷ xs) zero (suc k) old new c mark here same got marked = record { class = c; here = got; marked = marked }
had_mark (x ∷ xs) (suc i) zero old new c mark here same got marked = record { class = c; here = got; marked = marked }
had_mark (x ∷ xs) (suc i) (suc k) old new c mark here same got marked =
    let had = had_mark xs i k old new c mark here same got marked in
    record { class = had.class; here = had.here; marked = had.marked }

-- a table in which a class has the mark that it had
pub table_set : (agg : Agg) (kind : Kind) (span : Span) (cells : List Class) (i : ℕ) (old new : Class) → slice_get cells i ≡ Some old → new.mark ≡ old.mark → IsTable agg kind span cells → IsTable agg kind span (set cells i new)
table_set agg kind span cells i old new here same is = λ place c mark got marked.
    let had = had_mark cells i place old new c mark here same got marked in
    is place had.class mark had.here had.marked

-- what a number counts for is what its place is marked with
table_mark : (agg : Agg) (kind : Kind) (span : Span) (cells : List Class) (place n : ℕ) (cell : Class) (mark : ℤ) → IsTable agg kind span cells → slice_get cells place ≡ Some cell → cell.mark ≡ Some mark → StandsAt span place n
    → cell.mark ≡ Some (mark_of agg kind n)
table_mark agg kind span cells place n cell mark is here marked at = marked ∙ sym (ap (λ (m : ℤ). Some m) (is place cell mark here marked n at))

-- a document is counted in a table at the place of its number
pub table_counted : (agg : Agg) (kind : Kind) (span : Span) (cells : List Class) (place n document : ℕ) (cell : Class) (mark : ℤ) → IsTable agg kind span cells → slice_get cells place ≡ Some cell → cell.mark ≡ Some mark → StandsAt span place n
    → IsCounted (Some (mark_of agg kind n)) 1 document cells (set cells place (record { mark = cell.mark; count = cell.count + 1; sample = document }))
table_counted agg kind span cells place n document cell mark is here marked at =
    let same = table_mark agg kind span cells place n cell mark is here marked at in
    record {
      place = place;
      class = cell;
      here = here;
      admits = inr same;
      now = ap (λ (m : Option ℤ). set cells place (record { mark = m; count = cell.count + 1; sample = document })) same;
    }

-- the last class, or one before it
push_got : (cells : List Class) (c d : Class) (place : ℕ) → slice_get (cells ++ c ∷ []) place ≡ Some d → (slice_get cells place ≡ Some d) ⊎ ((place ≡ length cells) × (c ≡ d))
push_got [] c d zero got = inr (refl, (let same : c ≡ d = cc in same))
push_got [] c d (suc k) got = absurd (cc)
push_got (x ∷ xs) c d zero got = inl got
push_got (x ∷ xs) c d (suc k) got = elim (push_got xs c d k got) [ inl here ↦ inl here | inr last ↦ inr (ap (λ (n : ℕ). suc n) last.0, last.1) ]

marked_so : (P : ℤ → Type 0) (o : Option ℤ) (mark : ℤ) → IfSome o P → o ≡ Some mark → P mark
marked_so P None mark h e = absurd (cc)
marked_so P (Some x) mark h e = let same : x ≡ mark = cc in subst P same h

-- a table with one more place
pub table_push : (agg : Agg) (kind : Kind) (span : Span) (cells : List Class) (n : ℕ) (c : Class) → n ≡ length cells → IfSome c.mark (IsMarkAt agg kind span n) → IsTable agg kind span cells → IsTable agg kind span (cells ++ c ∷ [])
table_push agg kind span cells n c long new is = λ place d mark got marked. elim (push_got cells c d place got) [
  | inl here ↦ is place d mark here marked
  | inr last ↦ subst (λ (k : ℕ). IsMarkAt agg kind span k mark) (long ∙ sym last.0) (marked_so (IsMarkAt agg kind span n) c.mark mark new (ap (λ (k : Class). k.mark) last.1 ∙ marked))
]

-- what is told where a test passes
pub on_true : (b : Bool) (P Q : Type 0) → (P → Q) → OnTrue b P → OnTrue b Q
on_true true P Q f h = f h
on_true false P Q f h = tt
