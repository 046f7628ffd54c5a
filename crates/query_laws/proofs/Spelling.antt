-- Printed edges and members stand for the edges and members that were printed.
use Rattle.std.proofs.Common.{◌≡◌, ◌≢◌, ℕ, zero, suc, ◌+◌, ◌-◌, ◌^◌, ◌/◌, ◌%◌, ◌<◌, ◌≤◌, ◌&&◌, ◌||◌, Bool, true, false, List, [], ◌∷◌, ◌++◌, length, take, drop, Option, Some, None, Result, Ok, Err, ℤ, pos, negsuc, neg_ℤ, ◌-ℤ◌, ◌≤ℤ◌, int_lt, refl, ap, sym, ◌∙◌, subst, arith, nat_le, is_some, if◌then◌else◌, append_assoc, append-nil, length-append, IsUtf8, IsAscii, get_or, option_map, option_and_then, leb-true}
use Rattle.std.specs.Prelude.{slice_range}
use Rattle.std.specs.Fmt.{decimal, signed_decimal}
use Rattle.std.specs.Str.Lossy.{utf8_lossy}
use Rattle.std.proofs.lemmas.Fmt.{IsAscii-decimal}
use Rattle.std.proofs.lemmas.Str.{utf8_lossy-IsUtf8, IsUtf8-from_ascii}
use Rattle.std.proofs.Math.Seq.{drop-append_seam, take-append_seam}
use Rattle.jiff.specs.Types.{DateTime}
use Rattle.jiff.specs.Words.{IsTimestampNanos, parse_timestamp, full, temporal_datetime, nanos_of_seconds}
use Rattle.jiff_fmt.specs.Reader.{or_err}
use Rattle.jiff_fmt.specs.Offset.{to_offset}
use Rattle.jiff_fmt.specs.Temporal.{to_timestamp, instant, parts_nanos}
use Rattle.jiff_core.specs.declared.error.Error.TheVariants.{Missing, Range}
use Rattle.jiff_core.specs.declared.error.Bound.TheVariants as Bound
use Rattle.jiff_core.specs.declared.error.Part.TheVariants as Part
use Rattle.jiff.proofs.SpanFacts.{signed_arith}
use Rattle.clock_time.specs.Datetimes.{IsTimestampSecond, civil_text, date_text, time_text, two_digits, four_digits, year_digits, rfc3339_seconds, unix_seconds, rounded_down, is_between}
use Rattle.doc_value.specs.declared.schema.Field.{Field}
use Rattle.doc_value.specs.declared.schema.Kind.{Kind as Sort}
use Rattle.doc_value.specs.declared.schema.Kind.TheVariants as kinds
use Rattle.doc_value.specs.declared.doc.Value.{Value}
use Rattle.doc_value.specs.declared.doc.Value.TheVariants as values
use Rattle.query_ast.specs.declared.query.Item.{Item}
use Rattle.query_ast.specs.declared.query.Edge.{Edge}
use Rattle.query_ast.specs.declared.query.Edge.TheVariants as edges
use Rattle.query_ast.specs.Spelled.{spelled, signed_of, unsigned_of, datetime_of, are_digits}
use Rattle.query_reader.specs.Kinds.{kind_of}
use Rattle.query_reader.specs.Texts.{unescaped, text_at, run_at}
use Rattle.query_reader.specs.Grammar.{span}
use Rattle.query_reader.specs.Resolve.{◌>>=◌, bad_bound, is_unplaced, edge_of, edge_with, item_of}
use Rattle.query_ast.specs.Queries.{has_order}
use Rattle.query_reader.specs.Printed.{hides_in_quote, hiding, word_text, quote_text, Written, Second, Spells, IsSecondText, plain_second, dated_second, other_second, IsPlainSecond, value_pieces, edge_pieces, item_text}
use Rattle.query_reader.proofs.Pieces.{spells_written}
use Rattle.query_laws.proofs.Words.{unescaped_word, unescaped_quote}
use Rattle.query_laws.proofs.Edges.{EdgeText, star_edge, run_edge, quoted_edge, edge_bytes, bound_at, is_run, begins_run, ItemText, word_item, quoted_item, item_bytes, member_at}
use Rattle.query_laws.proofs.Digits.{digit_kind, AreDigitsOf, decimal_digits, unsigned_decimal, signed_printed, FitsI64, signed_of_fits, unsigned_of_fits, plain_reads, dated_reads}
use Rattle.query_laws.proofs.Readable.{IsEdgeOf, open_edge, included_edge, excluded_edge, IsItemOf}

-- a part in the middle
pub slice_middle : (text pre x post : List ℕ) (i j : ℕ) → text ≡ pre ++ (x ++ post) → i ≡ length pre → j ≡ i + length x → slice_range text i j ≡ x
slice_middle text pre x post i j e a b =
    ap (λ t. slice_range t i j) e
    ∙ ap (λ k. take (j - i) (drop k (pre ++ (x ++ post)))) a
    ∙ ap (λ t. take (j - i) t) (drop-append_seam pre (x ++ post))
    ∙ ap (λ k. take k (x ++ post)) (let l : j - i ≡ length x = omega (arith, b) in l)
    ∙ take-append_seam x post

pub word_at : (text pre post : List ℕ) (c : ℕ) (cs : List ℕ) (i j : ℕ) → IsUtf8 (c ∷ cs) → text ≡ pre ++ (word_text (c ∷ cs) ++ post) → i ≡ length pre → j ≡ i + length (word_text (c ∷ cs)) → text_at text (span i j) ≡ c ∷ cs
word_at text pre post c cs i j u e a b = ap (λ w. utf8_lossy (unescaped w)) (slice_middle text pre (word_text (c ∷ cs)) post i j e a b) ∙ ap utf8_lossy (unescaped_word c cs) ∙ utf8_lossy-IsUtf8 (c ∷ cs) u

pub quote_at : (text pre post w : List ℕ) (i : ℕ) → IsUtf8 w → text ≡ pre ++ (quote_text w ++ post) → i ≡ length pre → text_at text (span (i + 1) (i + 1 + length (hiding hides_in_quote w))) ≡ w
quote_at text pre post w i u e a =
    let inside : text ≡ (pre ++ 34 ∷ []) ++ (hiding hides_in_quote w ++ (34 ∷ post)) =
    e ∙ ap (λ t. pre ++ (34 ∷ t)) (append_assoc (hiding hides_in_quote w) (34 ∷ []) post) ∙ sym (append_assoc pre (34 ∷ []) (hiding hides_in_quote w ++ (34 ∷ post))) in
    ap (λ w. utf8_lossy (unescaped w)) (slice_middle text (pre ++ 34 ∷ []) (hiding hides_in_quote w) (34 ∷ post) (i + 1) (i + 1 + length (hiding hides_in_quote w)) inside (omega (arith, a, length-append pre (34 ∷ []))) refl)
    ∙ ap utf8_lossy (unescaped_quote w) ∙ utf8_lossy-IsUtf8 w u

-- what an edge stands for
abbrev pub edge_value : EdgeText → List ℕ
edge_value star_edge = []
edge_value (run_edge c cs b r) = c ∷ cs
edge_value (quoted_edge w) = w

-- the bytes of an edge that spell a value of a kind
pub record SpellsValue (kind : Sort) (v : Value) (bytes : List ℕ) : Type 0 where
  pub edge : EdgeText
  pub some : edge ≢ star_edge
  pub are : bytes ≡ edge_bytes edge
  pub value : spelled kind (edge_value edge) ≡ Some v
  pub text : IsUtf8 (edge_value edge)

not_star_run : (c : ℕ) (cs : List ℕ) (b : begins_run (kind_of c) ≡ true) (r : is_run cs ≡ true) → run_edge c cs b r ≢ star_edge
not_star_run c cs b r e = subst is_one e tt
  where
    is_one : EdgeText → Type 0
    is_one star_edge = ⊥
    is_one _ = Unit {0}

not_star_quote : (w : List ℕ) → quoted_edge w ≢ star_edge
not_star_quote w e = subst is_one e tt
  where
    is_one : EdgeText → Type 0
    is_one star_edge = ⊥
    is_one _ = Unit {0}

minus_begins : begins_run (kind_of 45) ≡ true
unfolding kind_of
minus_begins = refl

digit_begins : (c : ℕ) → 48 ≤ c → c ≤ 57 → begins_run (kind_of c) ≡ true
digit_begins c g h = ap begins_run (digit_kind c g h)

digit_is_run : (n : ℕ) (ds : List ℕ) → AreDigitsOf n ds → is_run ds ≡ true
digit_is_run n ds h = ap is_run h.are ∙ rw (digit_kind h.first h.least h.greatest) h.run

-- digits, maybe behind a `-`, are a run
digits_value : (kind : Sort) (v : Value) (n : ℕ) → n < 2 ^ 64 → spelled kind (decimal n) ≡ Some v → SpellsValue kind v (decimal n)
digits_value kind v n l e =
    let h = decimal_digits n l in
    record {
      edge = run_edge h.first h.others (digit_begins h.first h.least h.greatest) h.run;
      some = not_star_run h.first h.others (digit_begins h.first h.least h.greatest) h.run;
      are = h.are;
      value = ap (spelled kind) (sym h.are) ∙ e;
      text = subst IsUtf8 h.are (IsUtf8-from_ascii (decimal n) (IsAscii-decimal n l));
    }

signed_value : (kind : Sort) (v : Value) (n : ℤ) → FitsI64 n → spelled kind (signed_decimal n) ≡ Some v → SpellsValue kind v (signed_decimal n)
signed_value kind v (pos n) l e = digits_value kind v n (omega (arith, l)) e
signed_value kind v (negsuc n) l e =
    let r : is_run (decimal (suc n)) ≡ true = digit_is_run (suc n) (decimal (suc n)) (decimal_digits (suc n) (omega (arith, l))) in
    record {
      edge = run_edge 45 (decimal (suc n)) minus_begins r;
      some = not_star_run 45 (decimal (suc n)) minus_begins r;
      are = refl;
      value = e;
      text = minus_text (decimal (suc n)) (IsAscii-decimal (suc n) (omega (arith, l)));
    }
  where
    minus_text : (ds : List ℕ) → IsAscii ds → IsUtf8 (45 ∷ ds)
    minus_text ds a = IsUtf8-from_ascii (45 ∷ ds) (λ i. one ds a i)
      where
        one : (ds : List ℕ) → IsAscii ds → (i : ℕ) → get_or (45 ∷ ds) i 0 < 128
        one ds a zero = omega arith
        one ds a (suc i) = a i

-- the bytes of a date are ASCII
abbrev are_low : List ℕ → Type 0
are_low [] = Unit {0}
are_low (c ∷ cs) = (c < 128) × are_low cs

low_ascii : (cs : List ℕ) → are_low cs → IsAscii cs
low_ascii [] l i = omega arith
low_ascii (c ∷ cs) l zero = l.0
low_ascii (c ∷ cs) l (suc i) = low_ascii cs l.1 i

low_append : (xs ys : List ℕ) → are_low xs → are_low ys → are_low (xs ++ ys)
low_append [] ys l m = m
low_append (x ∷ xs) ys l m = (l.0, low_append xs ys l.1 m)

two_low : (n : ℕ) → n < 256 → are_low (two_digits n)
two_low n l = (omega (arith, l), (omega (arith, l), tt))

four_low : (n : ℕ) → n < 10_000 → are_low (four_digits n)
four_low n l = low_append (two_digits (n / 100)) (two_digits (n % 100)) (two_low (n / 100) (omega (arith, l))) (two_low (n % 100) (omega (arith, l)))

year_low : (y : ℤ) → (neg_ℤ (pos 9_999) ≤ℤ y) → (y ≤ℤ pos 9_999) → are_low (year_digits y)
year_low (pos n) g h = four_low n (omega (arith, signed_arith, h))
year_low (negsuc n) g h = low_append (45 ∷ 48 ∷ 48 ∷ []) (four_digits (suc n)) (omega arith, (omega arith, (omega arith, tt))) (four_low (suc n) (omega (arith, signed_arith, g)))

day_low : (dt : DateTime) → dt.date.day < 256
day_low dt = grind (arith, dt.date.day_in)

date_low : (dt : DateTime) → are_low (civil_text dt)
date_low dt =
    low_append (date_text dt ++ (84 ∷ time_text dt)) (90 ∷ [])
    (low_append (date_text dt) (84 ∷ time_text dt)
    (low_append (year_digits dt.date.year ++ (45 ∷ two_digits dt.date.month)) (45 ∷ two_digits dt.date.day)
    (low_append (year_digits dt.date.year) (45 ∷ two_digits dt.date.month) (year_low dt.date.year dt.date.year_in.0 dt.date.year_in.1) (omega arith, two_low dt.date.month (omega (arith, dt.date.month_in))))
    (omega arith, two_low dt.date.day (day_low dt))) (
      omega arith,
      low_append (two_digits dt.time.hour ++ (58 ∷ two_digits dt.time.minute)) (58 ∷ two_digits dt.time.second)
          (low_append (two_digits dt.time.hour) (58 ∷ two_digits dt.time.minute) (two_low dt.time.hour (omega (arith, dt.time.hour_in))) (omega arith, two_low dt.time.minute (omega (arith, dt.time.minute_in))))
          (omega arith, two_low dt.time.second (omega (arith, dt.time.second_in))),
    ))
    (omega arith, tt)

date_utf8 : (dt : DateTime) → IsUtf8 (civil_text dt)
date_utf8 dt = IsUtf8-from_ascii (civil_text dt) (low_ascii (civil_text dt) (date_low dt))

-- a second that was read is one that a datetime has
plain_is : (n : ℕ) → n ≤ 8_589_934_591 → IsTimestampSecond (pos n)
plain_is n l = (omega (arith, signed_arith, l), omega (arith, signed_arith, l))

unix_is : (n m : ℤ) → unix_seconds n ≡ Some m → IsTimestampSecond m
unix_is (negsuc n) m e = absurd (let y : ◌≡◌ {A = Option ℤ} None (Some m) = e in cc)
unix_is (pos n) m e = go (is_between 0 8_589_934_591 n) refl (is_between 72_057_595_000 8_589_934_591_000 n) refl (is_between 72_057_595_000_000 8_589_934_591_000_000 n) refl (is_between 72_057_595_000_000_000 8_589_934_591_000_000_000 n) refl
  where
    high : (a b n : ℕ) → is_between a b n ≡ true → n ≤ b
    high a b n h = leb-true n b (and_right (nat_le a n) (nat_le n b) h)
      where
        and_right : (p q : Bool) → p && q ≡ true → q ≡ true
        and_right true q h = h
        and_right false q h = absurd (let y : false ≡ true = h in cc)

    go : (a : Bool) → is_between 0 8_589_934_591 n ≡ a → (b : Bool) → is_between 72_057_595_000 8_589_934_591_000 n ≡ b → (c : Bool) → is_between 72_057_595_000_000 8_589_934_591_000_000 n ≡ c
        → (d : Bool) → is_between 72_057_595_000_000_000 8_589_934_591_000_000_000 n ≡ d → IsTimestampSecond m
    go true ha b hb c hc d hd = let y : ◌≡◌ {A = Option ℤ} (Some (pos n)) (Some m) = rw ha at e in let z : pos n ≡ m = cc in subst IsTimestampSecond z (plain_is n (high 0 8_589_934_591 n ha))
    go false ha true hb c hc d hd = let y : ◌≡◌ {A = Option ℤ} (Some (pos (n / 1_000))) (Some m) = rw (ha, hb) at e in let z : pos (n / 1_000) ≡ m = cc in subst IsTimestampSecond z (plain_is (n / 1_000) (omega (arith, high 72_057_595_000 8_589_934_591_000 n hb)))
    go false ha false hb true hc d hd = let y : ◌≡◌ {A = Option ℤ} (Some (pos (n / 1_000_000))) (Some m) = rw (ha, hb, hc) at e in let z : pos (n / 1_000_000) ≡ m = cc in subst IsTimestampSecond z (plain_is (n / 1_000_000) (omega (arith, high 72_057_595_000_000 8_589_934_591_000_000 n hc)))
    go false ha false hb false hc true hd = let y : ◌≡◌ {A = Option ℤ} (Some (pos (n / 1_000_000_000))) (Some m) = rw (ha, hb, hc, hd) at e in let z : pos (n / 1_000_000_000) ≡ m = cc in subst IsTimestampSecond z (plain_is (n / 1_000_000_000) (omega (arith, high 72_057_595_000_000_000 8_589_934_591_000_000_000 n hd)))
    go false ha false hb false hc false hd = absurd (let y : ◌≡◌ {A = Option ℤ} None (Some m) = rw (ha, hb, hc, hd) at e in cc)

nanos_is : (n : ℤ) → IsTimestampNanos n → IsTimestampSecond (rounded_down n)
nanos_is (pos n) t = (omega (arith, signed_arith, t.0, t.1), omega (arith, signed_arith, t.0, t.1))
nanos_is (negsuc n) t = (omega (arith, signed_arith, t.0, t.1), omega (arith, signed_arith, t.0, t.1))

-- what a chain of readings gives, its last one gives
bind_last : {A B E : Type 0} (P : B → Type 0) (r : Result A E) (k : A → Result B E) → ((x : A) (y : B) → k x ≡ Ok y → P y) → (y : B) → r >>= k ≡ Ok y → P y
bind_last P (Ok x) k h y e = h x y e
bind_last {A} {B} {E} P (Err r) k h y e = absurd (let z : ◌≡◌ {A = Result B E} (Err r) (Ok y) = e in cc)

kept_is : {E : Type 0} (r : E) (n m : ℤ) → (if int_lt n (neg_ℤ (pos 377_705_023_201_000_000_000)) || int_lt (pos 253_402_207_200_999_999_999) n then Err r else Ok n) ≡ Ok m → IsTimestampNanos m
kept_is {E} r n m e = go (int_lt n (neg_ℤ (pos 377_705_023_201_000_000_000))) refl (int_lt (pos 253_402_207_200_999_999_999) n) refl
  where
    go : (a : Bool) → int_lt n (neg_ℤ (pos 377_705_023_201_000_000_000)) ≡ a → (b : Bool) → int_lt (pos 253_402_207_200_999_999_999) n ≡ b → IsTimestampNanos m
    go true ha b hb = absurd (let y : ◌≡◌ {A = Result ℤ E} (Err r) (Ok m) = rw ha at e in cc)
    go false ha true hb = absurd (let y : ◌≡◌ {A = Result ℤ E} (Err r) (Ok m) = rw (ha, hb) at e in cc)
    go false ha false hb = let y : ◌≡◌ {A = Result ℤ E} (Ok n) (Ok m) = rw (ha, hb) at e in let z : n ≡ m = cc in subst IsTimestampNanos z (grind (arith, signed_arith, ha, hb))

parsed_is : (text : List ℕ) (n : ℤ) → parse_timestamp text ≡ Ok n → IsTimestampNanos n
parsed_is text n e =
    bind_last IsTimestampNanos (full (temporal_datetime text)) to_timestamp (λ p n e.
    bind_last IsTimestampNanos (or_err (Missing Part.Time) p.time) (λ time. or_err (Missing Part.Offset) p.offset >>= λ offset. to_offset offset >>= λ seconds. instant (parts_nanos p.date time -ℤ nanos_of_seconds seconds)) (λ t n e.
    bind_last IsTimestampNanos (or_err (Missing Part.Offset) p.offset) (λ offset. to_offset offset >>= λ seconds. instant (parts_nanos p.date t -ℤ nanos_of_seconds seconds)) (λ o n e.
    bind_last IsTimestampNanos (to_offset o) (λ seconds. instant (parts_nanos p.date t -ℤ nanos_of_seconds seconds)) (λ s n e.
    kept_is (Range Bound.UnixEpochSeconds) (parts_nanos p.date t -ℤ nanos_of_seconds s) n e) n e) n e) n e) n e

text_is : (text : List ℕ) (m : ℤ) → rfc3339_seconds text ≡ Some m → IsTimestampSecond m
text_is text m e = go (parse_timestamp text) refl
  where
    go : (r : Result ℤ _) → parse_timestamp text ≡ r → IsTimestampSecond m
    go (Ok n) h = let y : ◌≡◌ {A = Option ℤ} (Some (rounded_down n)) (Some m) = rw h at e in let z : rounded_down n ≡ m = cc in subst IsTimestampSecond z (nanos_is n (parsed_is text n h))
    go (Err r) h = absurd (let y : ◌≡◌ {A = Option ℤ} None (Some m) = rw h at e in cc)

unix_of : (o : Option ℤ) (m : ℤ) → option_and_then unix_seconds o ≡ Some m → IsTimestampSecond m
unix_of None m e = absurd (let y : ◌≡◌ {A = Option ℤ} None (Some m) = e in cc)
unix_of (Some n) m e = unix_is n m e

pub datetime_is : (text : List ℕ) (m : ℤ) → datetime_of text ≡ Some m → IsTimestampSecond m
datetime_is text m e = go (are_digits text) refl
  where
    go : (t : Bool) → are_digits text ≡ t → IsTimestampSecond m
    go true h = unix_of (signed_of text) m (rw h at e)
    go false h = text_is text m (rw h at e)

-- a value of a kind with an order, as it is printed
some_is : {A B : Type 0} (f : A → B) (o : Option A) (y : B) → option_map f o ≡ Some y → (x : A) × (o ≡ Some x) × (f x ≡ y)
some_is {A} {B} f None y e = absurd (let z : ◌≡◌ {A = Option B} None (Some y) = e in cc)
some_is {A} {B} f (Some x) y e = (x, refl, (let z : ◌≡◌ {A = Option B} (Some (f x)) (Some y) = e in cc))

second_value : (n : ℤ) (t w : List ℕ) → datetime_of t ≡ Some n → IsSecondText n w → SpellsValue kinds.Datetime (values.Datetime n) w
second_value n t w e (plain_second p) = plain n p
  where
    plain : (n : ℤ) → IsPlainSecond n → SpellsValue kinds.Datetime (values.Datetime n) (signed_decimal n)
    plain (pos n) p = digits_value kinds.Datetime (values.Datetime (pos n)) n (omega (arith, p)) (ap (option_map values.Datetime) (plain_reads (pos n) p))
    plain (negsuc n) p = absurd p
second_value n t w e (dated_second wide shown at is) = record {
  edge = quoted_edge (civil_text shown);
  some = not_star_quote (civil_text shown);
  are = refl;
  value = ap (option_map values.Datetime) (dated_reads n shown at is);
  text = date_utf8 shown;
}
second_value n t w e (other_second none) = absurd (none (datetime_is t n e))

pub value_spelled : (kind : Sort) (t : List ℕ) (v : Value) (bytes : List ℕ) → has_order kind ≡ true → spelled kind t ≡ Some v → Spells (value_pieces v) bytes → SpellsValue kind v bytes
value_spelled kinds.I64 t v bytes o e s =
    let p = some_is values.I64 (signed_of t) v e in
    let q : Spells (Written (signed_decimal p.0) ∷ []) bytes = subst (λ v. Spells (value_pieces v) bytes) (sym p.2) s in
    subst (λ v. SpellsValue kinds.I64 v bytes) p.2 (subst (SpellsValue kinds.I64 (values.I64 p.0)) (sym (spells_written (signed_decimal p.0) bytes q))
    (signed_value kinds.I64 (values.I64 p.0) p.0 (signed_of_fits t p.0 p.1) (ap (option_map values.I64) (signed_printed p.0 (signed_of_fits t p.0 p.1)))))
value_spelled kinds.U64 t v bytes o e s =
    let p = some_is values.U64 (unsigned_of t) v e in
    let q : Spells (Written (decimal p.0) ∷ []) bytes = subst (λ v. Spells (value_pieces v) bytes) (sym p.2) s in
    subst (λ v. SpellsValue kinds.U64 v bytes) p.2 (subst (SpellsValue kinds.U64 (values.U64 p.0)) (sym (spells_written (decimal p.0) bytes q))
    (digits_value kinds.U64 (values.U64 p.0) p.0 (unsigned_of_fits t p.0 p.1) (ap (option_map values.U64) (unsigned_decimal p.0 (unsigned_of_fits t p.0 p.1)))))
value_spelled kinds.Datetime t v bytes o e s =
    let p = some_is values.Datetime (datetime_of t) v e in
    let q : Spells (Second p.0 ∷ []) bytes = subst (λ v. Spells (value_pieces v) bytes) (sym p.2) s in
    let same : bytes ≡ q.0 = q.3 ∙ ap (λ r. q.0 ++ r) q.4 ∙ append-nil q.0 in
    subst (λ v. SpellsValue kinds.Datetime v bytes) p.2 (subst (SpellsValue kinds.Datetime (values.Datetime p.0)) (sym same) (second_value p.0 t q.0 p.1 q.2))
value_spelled kinds.Text t v bytes o e s = absurd (let y : false ≡ true = o in cc)
value_spelled kinds.TextList t v bytes o e s = absurd (let y : false ≡ true = o in cc)
value_spelled kinds.Bool t v bytes o e s = absurd (let y : false ≡ true = o in cc)

-- an edge as it is printed
abbrev pub is_closed : Edge → Bool
is_closed (edges.Excluded v) = false
is_closed _ = true

pub record SpellsEdge (kind : Sort) (e : Edge) (bytes : List ℕ) : Type 0 where
  pub edge : EdgeText
  pub are : bytes ≡ edge_bytes edge
  pub means : (text before after : List ℕ) (j : ℕ) → text ≡ before ++ (edge_bytes edge ++ after) → j ≡ length before
      → (bad_bound text kind (bound_at j edge) ≡ None) × (edge_of text kind (is_closed e) (bound_at j edge) ≡ e)

-- what stands at the place of an edge is its value
at_edge : (kind : Sort) (v : Value) (closed : Bool) (t : EdgeText) → t ≢ star_edge → spelled kind (edge_value t) ≡ Some v → IsUtf8 (edge_value t)
    → (text before after : List ℕ) (j : ℕ) → text ≡ before ++ (edge_bytes t ++ after) → j ≡ length before
    → (bad_bound text kind (bound_at j t) ≡ None) × (edge_of text kind closed (bound_at j t) ≡ edge_with closed (Some v))
at_edge kind v closed star_edge n s u text before after j e a = absurd (n refl)
at_edge kind v closed (run_edge c cs b r) n s u text before after j e a =
    let is : run_at text (span j (j + 1 + length cs)) ≡ c ∷ cs =
    ap utf8_lossy (slice_middle text before (c ∷ cs) after j (j + 1 + length cs) e a (omega arith)) ∙ utf8_lossy-IsUtf8 (c ∷ cs) u in
    (rw (is, s) refl, rw (is, s) refl)
at_edge kind v closed (quoted_edge w) n s u text before after j e a =
    let is : text_at text (span (j + 1) (j + 1 + length (hiding hides_in_quote w))) ≡ w = quote_at text before after w j u e a in
    (rw (is, s) refl, rw (is, s) refl)

pub edge_spelled : (kind : Sort) (e : Edge) (bytes : List ℕ) → has_order kind ≡ true → IsEdgeOf kind e → Spells (edge_pieces e) bytes → SpellsEdge kind e bytes
edge_spelled kind e bytes o open_edge s = record {
  edge = star_edge;
  are = spells_written (42 ∷ []) bytes s;
  means = λ text before after j e a. (refl, refl);
}
edge_spelled kind e bytes o (included_edge t {v} h) s =
    let x = value_spelled kind t v bytes o h s in
    record { edge = x.edge; are = x.are; means = at_edge kind v true x.edge x.some x.value x.text }
edge_spelled kind e bytes o (excluded_edge t {v} h) s =
    let x = value_spelled kind t v bytes o h s in
    record { edge = x.edge; are = x.are; means = at_edge kind v false x.edge x.some x.value x.text }

-- the members of a set as they are printed
pub record SpellsItem (f : Field) (i : Item) : Type 0 where
  pub shown : ItemText
  pub are : item_text i ≡ item_bytes shown
  pub means : (text before after : List ℕ) (j : ℕ) → text ≡ before ++ (item_bytes shown ++ after) → j ≡ length before
      → (item_of text (member_at j shown) ≡ i) × (is_some (spelled f.kind (text_at text (member_at j shown).place)) ≡ true) × ((member_at j shown).quoted && is_unplaced f (text_at text (member_at j shown).place) ≡ false)

pub item_spelled : (f : Field) (i : Item) → IsItemOf f i → SpellsItem f i
item_spelled f i h = go i.quoted refl
  where
    go : (q : Bool) → i.quoted ≡ q → SpellsItem f i
    go true e = record {
      shown = quoted_item i.text;
      are = rw e refl;
      means = λ text before after j x a.
          let is : text_at text (span (j + 1) (j + 1 + length (hiding hides_in_quote i.text))) ≡ i.text = quote_at text before after i.text j h.text x a in
          ((λ k. record { text = is k; quoted = sym e k }), ap (λ t. is_some (spelled f.kind t)) is ∙ h.value, ap (λ t. is_unplaced f t) is ∙ (let p : is_unplaced f i.text ≡ false = rw e at h.placed in p));
    }
    go false e =
        let w = h.first e in
        record {
          shown = word_item w.0 w.1;
          are = rw e (ap word_text w.2);
          means = λ text before after j x a.
              let is : text_at text (span j (j + length (word_text (w.0 ∷ w.1)))) ≡ i.text =
              word_at text before after w.0 w.1 j (j + length (word_text (w.0 ∷ w.1))) (subst IsUtf8 w.2 h.text) x a refl ∙ sym w.2 in
              ((λ k. record { text = is k; quoted = sym e k }), ap (λ t. is_some (spelled f.kind t)) is ∙ h.value, refl);
        }
