-- The values of a record's document have 64 bits.
use Rattle.std.proofs.Common.{◌≡◌, ℕ, suc, ◌/◌, ◌^◌, ◌≤◌, ◌||◌, Bool, true, false, List, [], ◌∷◌, ◌++◌, Option, Some, None, Result, Ok, Err, refl, subst, arith, if◌then◌else◌}
use Rattle.std.specs.Prelude.{ℤ, pos, negsuc, neg_ℤ, ◌-ℤ◌, int_lt, nat_lt, nat_le, map, option_and_then}
use Rattle.std.specs.Str.{is_utf8}
use Rattle.std.proofs.lemmas.Bool.{and_parts, ltb-true, leb-true}
use Rattle.jiff.specs.Words.{IsTimestampNanos, parse_timestamp, full, temporal_datetime, nanos_of_seconds}
use Rattle.jiff_fmt.specs.Reader.{◌>>=◌, or_err}
use Rattle.jiff_fmt.specs.Offset.{to_offset}
use Rattle.jiff_fmt.specs.Temporal.{to_timestamp, instant, parts_nanos}
use Rattle.jiff_core.specs.declared.error.Error.{Error}
use Rattle.jiff_core.specs.declared.error.Error.TheVariants.{Missing, Range}
use Rattle.jiff_core.specs.declared.error.Bound.TheVariants as Bound
use Rattle.jiff_core.specs.declared.error.Part.TheVariants as Part
use Rattle.jiff.proofs.SpanFacts.{signed_arith}
use Rattle.clock_time.specs.Datetimes.{rfc3339_seconds, unix_seconds, rounded_down, is_between}
use Rattle.serde_json.specs.Data.{Num, unsigned, negative, float, Data, null, boolean, number, string, array, object, Items, no_items, item}
use Rattle.serde_json.specs.Find.{as_i64, as_u64}
use Rattle.serde_json.specs.Read.{read}
use Rattle.doc_value.specs.Printed.{names_of}
use Rattle.doc_value.specs.declared.doc.DocField.{DocField}
use Rattle.doc_value.specs.declared.doc.Value.{Value}
use Rattle.doc_value.specs.declared.doc.Value.TheVariants as values
use Rattle.dynamic_paths.specs.LeafTexts.{fitting_texts}
use Rattle.dynamic_paths.specs.Leaves.{is_number, leaf_list}
use Rattle.doc_value.specs.declared.schema.Field.{Field}
use Rattle.doc_value.specs.declared.schema.Kind.{Kind}
use Rattle.doc_value.specs.declared.schema.Kind.TheVariants as kinds
use Rattle.index_config.specs.declared.config.IndexConfig.{IndexConfig}
use Rattle.doc_mapping.specs.Answer.{answer, value_of}
use Rattle.doc_mapping.specs.Documents.{value_at, i64_values, u64_values, date_values, texts_in, values_of, found_values, part_of, leaf_values, leaves_for, values_from, doc_from}
use Rattle.document_laws.specs.ReadBack.{IsI64, AreInType, HasNumbers}
use Rattle.document_laws.proofs.Recorded.{made_from}
use Rattle.document_laws.proofs.Numbers.{IsNum64, Has64, read_64, at_64}

-- ---- a second

none_is : {A P : Type 0} (a : A) → None ≡ Some a → P
none_is a e = absurd cc

some_is : {A : Type 0} (a b : A) → Some a ≡ Some b → a ≡ b
some_is a b e = cc

high : (a b n : ℕ) → is_between a b n ≡ true → n ≤ b
high a b n h = leb-true n b (and_parts (nat_le a n) (nat_le n b) h).1

unix_64 : (n m : ℤ) → unix_seconds n ≡ Some m → IsI64 m
unix_64 (negsuc n) m e = none_is m e
unix_64 (pos n) m e = first (is_between 0 8_589_934_591 n) refl e
  where
    fourth : (d : Bool) → is_between 72_057_595_000_000_000 8_589_934_591_000_000_000 n ≡ d → (if d then Some (pos (n / 1_000_000_000)) else None) ≡ Some m → IsI64 m
    fourth true b e = subst IsI64 (some_is (pos (n / 1_000_000_000)) m e) (omega (arith, high 72_057_595_000_000_000 8_589_934_591_000_000_000 n b))
    fourth false b e = none_is m e

    third : (d : Bool) → is_between 72_057_595_000_000 8_589_934_591_000_000 n ≡ d
        → (if d then Some (pos (n / 1_000_000)) else (if is_between 72_057_595_000_000_000 8_589_934_591_000_000_000 n then Some (pos (n / 1_000_000_000)) else None)) ≡ Some m → IsI64 m
    third true b e = subst IsI64 (some_is (pos (n / 1_000_000)) m e) (omega (arith, high 72_057_595_000_000 8_589_934_591_000_000 n b))
    third false b e = fourth (is_between 72_057_595_000_000_000 8_589_934_591_000_000_000 n) refl e

    second : (d : Bool) → is_between 72_057_595_000 8_589_934_591_000 n ≡ d
        → (if d then Some (pos (n / 1_000)) else (if is_between 72_057_595_000_000 8_589_934_591_000_000 n then Some (pos (n / 1_000_000)) else (if is_between 72_057_595_000_000_000 8_589_934_591_000_000_000 n then Some (pos (n / 1_000_000_000)) else None))) ≡ Some m → IsI64 m
    second true b e = subst IsI64 (some_is (pos (n / 1_000)) m e) (omega (arith, high 72_057_595_000 8_589_934_591_000 n b))
    second false b e = third (is_between 72_057_595_000_000 8_589_934_591_000_000 n) refl e

    first : (d : Bool) → is_between 0 8_589_934_591 n ≡ d
        → (if d then Some (pos n) else (if is_between 72_057_595_000 8_589_934_591_000 n then Some (pos (n / 1_000)) else (if is_between 72_057_595_000_000 8_589_934_591_000_000 n then Some (pos (n / 1_000_000)) else (if is_between 72_057_595_000_000_000 8_589_934_591_000_000_000 n then Some (pos (n / 1_000_000_000)) else None)))) ≡ Some m → IsI64 m
    first true b e = subst IsI64 (some_is (pos n) m e) (omega (arith, high 0 8_589_934_591 n b))
    first false b e = second (is_between 72_057_595_000 8_589_934_591_000 n) refl e

nanos_64 : (n : ℤ) → IsTimestampNanos n → IsI64 (rounded_down n)
nanos_64 (pos n) t = omega (arith, signed_arith, t.0, t.1)
nanos_64 (negsuc n) t = omega (arith, signed_arith, t.0, t.1)

-- what a chain of readings gives, its last one gives
bind_last : {A B : Type 0} (P : B → Type 0) (r : Result A Error) (k : A → Result B Error) → ((x : A) (y : B) → k x ≡ Ok y → P y) → (y : B) → r >>= k ≡ Ok y → P y
bind_last P (Ok x) k h y e = h x y e
bind_last {A} {B} P (Err r) k h y e = absurd (let z : ◌≡◌ {A = Result B Error} (Err r) (Ok y) = e in cc)

kept_is : {E : Type 0} (r : E) (n m : ℤ) → (if int_lt n (neg_ℤ (pos 377_705_023_201_000_000_000)) || int_lt (pos 253_402_207_200_999_999_999) n then Err r else Ok n) ≡ Ok m → IsTimestampNanos m
kept_is {E} r n m e = go (int_lt n (neg_ℤ (pos 377_705_023_201_000_000_000))) refl (int_lt (pos 253_402_207_200_999_999_999) n) refl
  where
    go : (a : Bool) → int_lt n (neg_ℤ (pos 377_705_023_201_000_000_000)) ≡ a → (b : Bool) → int_lt (pos 253_402_207_200_999_999_999) n ≡ b → IsTimestampNanos m
    go true ha b hb = absurd (let y : ◌≡◌ {A = Result ℤ E} (Err r) (Ok m) = rw ha at e in cc)
    go false ha true hb = absurd (let y : ◌≡◌ {A = Result ℤ E} (Err r) (Ok m) = rw (ha, hb) at e in cc)
    go false ha false hb = let y : ◌≡◌ {A = Result ℤ E} (Ok n) (Ok m) = rw (ha, hb) at e in let z : n ≡ m = cc in subst IsTimestampNanos z (grind (arith, signed_arith, ha, hb))

parsed_is : (text : List ℕ) (n : ℤ) → parse_timestamp text ≡ Ok n → IsTimestampNanos n
parsed_is text n e =
    bind_last IsTimestampNanos (full (temporal_datetime text)) to_timestamp (λ p n e.
    bind_last IsTimestampNanos (or_err (Missing Part.Time) p.time) (λ time. or_err (Missing Part.Offset) p.offset >>= λ offset. to_offset offset >>= λ seconds. instant (parts_nanos p.date time -ℤ nanos_of_seconds seconds)) (λ t n e.
    bind_last IsTimestampNanos (or_err (Missing Part.Offset) p.offset) (λ offset. to_offset offset >>= λ seconds. instant (parts_nanos p.date t -ℤ nanos_of_seconds seconds)) (λ o n e.
    bind_last IsTimestampNanos (to_offset o) (λ seconds. instant (parts_nanos p.date t -ℤ nanos_of_seconds seconds)) (λ s n e.
    kept_is (Range Bound.UnixEpochSeconds) (parts_nanos p.date t -ℤ nanos_of_seconds s) n e) n e) n e) n e) n e

text_64 : (text : List ℕ) (m : ℤ) → rfc3339_seconds text ≡ Some m → IsI64 m
text_64 text m e = go (parse_timestamp text) refl
  where
    go : (r : Result ℤ _) → parse_timestamp text ≡ r → IsI64 m
    go (Ok n) h = let y : ◌≡◌ {A = Option ℤ} (Some (rounded_down n)) (Some m) = rw h at e in subst IsI64 (some_is (rounded_down n) m y) (nanos_64 n (parsed_is text n h))
    go (Err r) h = absurd (let y : ◌≡◌ {A = Option ℤ} None (Some m) = rw h at e in cc)

-- ---- the values of a field

i64_number : (n : Num) → IsNum64 n → AreInType (i64_values (as_i64 n))
i64_number (unsigned n) h = by (nat_lt n (2 ^ 63)) refl
  where
    by : (b : Bool) → nat_lt n (2 ^ 63) ≡ b → AreInType (i64_values (if b then Some (pos n) else None))
    by true e = (ltb-true n (2 ^ 63) e, tt)
    by false e = tt
i64_number (negative z) h = (h, tt)
i64_number (float x) h = tt

u64_number : (n : Num) → IsNum64 n → AreInType (u64_values (as_u64 n))
u64_number (unsigned n) h = (h, tt)
u64_number (negative z) h = tt
u64_number (float x) h = tt

date_of : (o : Option ℤ) → ((m : ℤ) → o ≡ Some m → IsI64 m) → AreInType (date_values o)
date_of None h = tt
date_of (Some m) h = (h m refl, tt)

unix_of : (o : Option ℤ) (m : ℤ) → option_and_then unix_seconds o ≡ Some m → IsI64 m
unix_of None m e = none_is m e
unix_of (Some n) m e = unix_64 n m e

texts_fit : (ds : Items) → AreInType (texts_in ds)
texts_fit no_items = tt
texts_fit (item null ds) = texts_fit ds
texts_fit (item (boolean b) ds) = texts_fit ds
texts_fit (item (number n) ds) = texts_fit ds
texts_fit (item (string s) ds) = (tt, texts_fit ds)
texts_fit (item (array es) ds) = texts_fit ds
texts_fit (item (object ms) ds) = texts_fit ds

values_fit : (kind : Kind) (d : Data) → Has64 d → AreInType (values_of kind d)
values_fit kinds.Text (string s) h = (tt, tt)
values_fit kinds.I64 (number n) h = i64_number n h
values_fit kinds.U64 (number n) h = u64_number n h
values_fit kinds.Bool (boolean b) h = (tt, tt)
values_fit kinds.Datetime (string s) h = date_of (rfc3339_seconds s) (text_64 s)
values_fit kinds.Datetime (number n) h = date_of (option_and_then unix_seconds (as_i64 n)) (unix_of (as_i64 n))
values_fit kinds.TextList (string s) h = (tt, tt)
values_fit kinds.TextList (array ds) h = texts_fit ds
values_fit kinds.Text null h = tt
values_fit kinds.Text (boolean b) h = tt
values_fit kinds.Text (number n) h = tt
values_fit kinds.Text (array ds) h = tt
values_fit kinds.Text (object ms) h = tt
values_fit kinds.I64 null h = tt
values_fit kinds.I64 (boolean b) h = tt
values_fit kinds.I64 (string s) h = tt
values_fit kinds.I64 (array ds) h = tt
values_fit kinds.I64 (object ms) h = tt
values_fit kinds.U64 null h = tt
values_fit kinds.U64 (boolean b) h = tt
values_fit kinds.U64 (string s) h = tt
values_fit kinds.U64 (array ds) h = tt
values_fit kinds.U64 (object ms) h = tt
values_fit kinds.Bool null h = tt
values_fit kinds.Bool (number n) h = tt
values_fit kinds.Bool (string s) h = tt
values_fit kinds.Bool (array ds) h = tt
values_fit kinds.Bool (object ms) h = tt
values_fit kinds.Datetime null h = tt
values_fit kinds.Datetime (boolean b) h = tt
values_fit kinds.Datetime (array ds) h = tt
values_fit kinds.Datetime (object ms) h = tt
values_fit kinds.TextList null h = tt
values_fit kinds.TextList (boolean b) h = tt
values_fit kinds.TextList (number n) h = tt
values_fit kinds.TextList (object ms) h = tt

-- ---- the document

texts_have : (ts : List (List ℕ)) → AreInType (map values.Text ts)
texts_have [] = tt
texts_have (t ∷ ts) = (tt, texts_have ts)

leaves_have : (kind : Kind) (ls : List Value) → AreInType ls → AreInType (leaves_for kind ls)
leaves_have kinds.Text ls h = tt
leaves_have kinds.I64 ls h = tt
leaves_have kinds.U64 ls h = tt
leaves_have kinds.Bool ls h = tt
leaves_have kinds.Datetime ls h = tt
leaves_have kinds.TextList ls h = h

module _ (o : Option ℕ) (ls : List Value) (d : Data) (leaves : AreInType ls) (h : Has64 d) where
  found_have : (f : Field) → AreInType (found_values f.kind (value_at (names_of f.path) d))
  found_have f = go (value_at (names_of f.path) d) refl
    where
      go : (x : Option Data) → value_at (names_of f.path) d ≡ x → AreInType (found_values f.kind x)
      go None e = tt
      go (Some x) e = values_fit f.kind x (at_64 (names_of f.path) d x h e)

  field_has : (n : ℕ) (f : Field) → AreInType (values_from o ls n f d)
  field_has n f = by (is_number o n) refl
    where
      by : (b : Bool) → is_number o n ≡ b → AreInType (values_from o ls n f d)
      by true e = rw e (leaves_have f.kind ls leaves)
      by false e = rw e (found_have f)

  fields_fit : (n : ℕ) (fs : List Field) → HasNumbers (doc_from o ls n fs d)
  fields_fit n [] = tt
  fields_fit n (f ∷ fs) = with (values_from o ls n f d) (field_has n f) (fields_fit (suc n) fs)
    where
      with : (vs : List Value) → AreInType vs → HasNumbers (doc_from o ls (suc n) fs d) → HasNumbers (part_of n vs ++ doc_from o ls (suc n) fs d)
      with [] l rest = rest
      with (v ∷ vs) l rest = (l, rest)

value_64 : (bytes : List ℕ) (d : Data) → value_of bytes ≡ Some d → Has64 d
value_64 bytes d e = by (is_utf8 bytes) e
  where
    by : (b : Bool) → (if b then read bytes else None) ≡ Some d → Has64 d
    by true h = read_64 bytes d h
    by false h = none_is d h

pub record_numbers : (config : IndexConfig) (bytes : List ℕ) (doc : List DocField) → answer config bytes ≡ Ok doc → HasNumbers doc
record_numbers config bytes doc e =
    let m = made_from config bytes doc e in
    subst HasNumbers m.3
    (fields_fit config.schema.dynamic (leaf_values config.schema m.0) m.0 (texts_have (fitting_texts (leaf_list config.schema m.0))) (value_64 bytes m.0 m.1) 0 config.schema.fields)
