-- How heavy a document of a schema is.
use Rattle.std.proofs.Common.{◌≡◌, ◌≢◌, ℕ, zero, suc, ◌==◌, ◌+◌, ◌-◌, ◌*◌, ◌/◌, ◌%◌, ◌^◌, ◌<◌, ◌≤◌, Bool, true, false, List, [], ◌∷◌, ◌++◌, length, slice_get, Option, Some, None, Ok, refl, ap, sym, ◌∙◌, subst, inl, inr, arith, if◌then◌else◌}
use Rattle.std.specs.Prelude.{ℤ, pos, negsuc, nat_lt, MatchOption}
use Rattle.std.specs.List.{flat_map}
use Rattle.std.proofs.lemmas.Bool.{cases_Bool}
use Rattle.std.proofs.lemmas.Bool.Decides.{nat_tests}
use Rattle.std.proofs.lemmas.List.{length-append}
use Rattle.byte_fields.specs.Spelling.{varint, varint_within, byte_string, signed}
use Rattle.doc_value.specs.Documents.{IsSchema, IsOfSchema, AreOfKind, HasGoodCount, FitsField, FitsFrom}
use Rattle.doc_value.specs.declared.doc.DocField.{DocField}
use Rattle.doc_value.specs.declared.doc.Value.{Value}
use Rattle.doc_value.specs.declared.doc.Value.TheVariants as values
use Rattle.doc_value.specs.declared.schema.Field.{Field}
use Rattle.doc_value.specs.declared.schema.Kind.{Kind}
use Rattle.doc_value.specs.declared.schema.Kind.TheVariants as kinds
use Rattle.doc_value.specs.declared.schema.Schema.{Schema}
use Rattle.index_config.specs.Answer.{config_answer}
use Rattle.index_config.specs.declared.config.IndexConfig.{IndexConfig}
use Rattle.index_config.proofs.Accepted.{accepted-schema}
use Rattle.doc_mapping.specs.Answer.{answer, max_record}
use Rattle.doc_mapping.proofs.Fitting.{accepted-fits}
use Rattle.document_laws.specs.ReadBack.{IsI64, IsInType, AreInType, HasNumbers}
use Rattle.document_laws.specs.Sizes.{value_size, values_size, doc_size, mapped_size}
use Rattle.document_laws.proofs.Recorded.{made_from}
use Rattle.document_laws.proofs.Sized.{AreShortTexts, record_size, record_leaves}
use Rattle.dynamic_paths.specs.Leaves.{is_number}
use Rattle.doc_mapping.specs.Documents.{leaf_values}
use Rattle.doc_mapping.specs.Held.{values_at}
use Rattle.doc_mapping.specs.Walk.{RiseFrom}
use Rattle.doc_mapping.proofs.Numbering.{doc_rises, values_below}
use Rattle.doc_mapping.proofs.Recorded.{its_number, not_its_number}
use Rattle.std.specs.Cmp.{unsigned_Decides}
use Rattle.split_bundle.specs.Documents.{value_bytes, field_bytes, doc_bytes, weight}
use Rattle.split_bundle.specs.declared.placed.Placed.{Placed}
use Rattle.document_laws.proofs.Fitting.{record_numbers}

-- ---- how long a varint is

abbrev limit : ℕ → ℕ
limit zero = 128
limit (suc k) = 128 * limit k

within_few : (k s n : ℕ) → n < limit k → length (varint_within s n) ≤ suc k
within_few k zero n low = omega arith
within_few zero (suc s) n low = by (nat_lt n 128) refl
  where
    by : (b : Bool) → nat_lt n 128 ≡ b → length (if b then n ∷ [] else (n % 128 + 128) ∷ varint_within s (n / 128)) ≤ 1
    by true e = omega arith
    by false e = absurd (grind (e, low, arith, nat_tests))
within_few (suc k) (suc s) n low = by (nat_lt n 128) (within_few k s (n / 128) (omega (arith, low)))
  where
    by : (b : Bool) → length (varint_within s (n / 128)) ≤ suc k → length (if b then n ∷ [] else (n % 128 + 128) ∷ varint_within s (n / 128)) ≤ suc (suc k)
    by true h = omega arith
    by false h = omega (arith, h)

varint_few : (n : ℕ) → n < 2 ^ 64 → length (varint n) ≤ 10
unfolding varint
varint_few n low = within_few 9 n n (omega (arith, low))

-- ---- a value

text_few : (t : List ℕ) → length t < 2 ^ 64 → length (byte_string t) ≤ 10 + length t
text_few t low = omega (arith, length-append (varint (length t)) t, varint_few (length t) low)

text_digits : (n : ℕ) → n ≤ 255 → length (varint n) ≤ 2
unfolding varint
text_digits n low = within_few 1 n n (omega (arith, low))

signed_few : (z : ℤ) → IsI64 z → length (signed z) ≤ 10
signed_few (pos n) h = varint_few (2 * n) (omega (arith, h))
signed_few (negsuc n) h = varint_few (2 * n + 1) (omega (arith, h))

truth_few : (b : Bool) → length (value_bytes (values.Bool b)) ≤ 10
truth_few true = omega arith
truth_few false = omega arith

value_few : (v : Value) → IsInType v → value_size v < 2 ^ 60 → length (value_bytes v) ≤ 10 + 10 * value_size v
value_few (values.Text t) h low = omega (arith, low, text_few t (omega (arith, low)))
value_few (values.I64 z) h low = omega (arith, signed_few z h)
value_few (values.U64 n) h low = omega (arith, varint_few n h)
value_few (values.Bool b) h low = omega (arith, truth_few b)
value_few (values.Datetime z) h low = omega (arith, signed_few z h)

-- ---- the values of a field

one_few : (vs : List Value) → length vs ≡ 1 → AreInType vs → values_size vs < 2 ^ 60 → length (flat_map value_bytes vs) ≤ 10 + 10 * values_size vs
one_few [] one h low = absurd (omega (arith, one))
one_few (v ∷ w ∷ vs) one h low = absurd (omega (arith, one))
one_few (v ∷ []) one h low = omega (arith, low, value_few v h.0 (omega (arith, low)), length-append (value_bytes v) [])

texts_few : (vs : List Value) → AreOfKind kinds.TextList vs → values_size vs < 2 ^ 60 → length (flat_map value_bytes vs) ≤ 10 * values_size vs
texts_few [] h low = omega arith
texts_few (values.Text t ∷ vs) h low =
    let here = text_few t (omega (arith, low)) in
    let more = texts_few vs h.1 (omega (arith, low)) in
    let both = length-append (byte_string t) (flat_map value_bytes vs) in
    omega (arith, here, more, both)
texts_few (values.I64 z ∷ vs) h low = absurd h.0
texts_few (values.U64 n ∷ vs) h low = absurd h.0
texts_few (values.Bool b ∷ vs) h low = absurd h.0
texts_few (values.Datetime z ∷ vs) h low = absurd h.0

texts_count : (vs : List Value) → AreOfKind kinds.TextList vs → length vs ≤ values_size vs
texts_count [] h = omega arith
texts_count (values.Text t ∷ vs) h = omega (arith, texts_count vs h.1)
texts_count (values.I64 z ∷ vs) h = absurd h.0
texts_count (values.U64 n ∷ vs) h = absurd h.0
texts_count (values.Bool b ∷ vs) h = absurd h.0
texts_count (values.Datetime z ∷ vs) h = absurd h.0

-- their bytes, and how many they are
record AreFew (vs : List Value) : Type 0 where
  bytes : length (flat_map value_bytes vs) ≤ 10 + 10 * values_size vs
  count : length vs ≤ 1 + values_size vs

one_value : (vs : List Value) → length vs ≡ 1 → AreInType vs → values_size vs < 2 ^ 60 → AreFew vs
one_value vs one h low = record { bytes = one_few vs one h low; count = omega (arith, one) }

values_few : (kind : Kind) (vs : List Value) → AreOfKind kind vs → HasGoodCount kind vs → AreInType vs → values_size vs < 2 ^ 60 → AreFew vs
values_few kinds.TextList vs k c h low = record { bytes = omega (arith, texts_few vs k low); count = omega (arith, texts_count vs k) }
values_few kinds.Text vs k c h low = one_value vs c h low
values_few kinds.I64 vs k c h low = one_value vs c h low
values_few kinds.U64 vs k c h low = one_value vs c h low
values_few kinds.Bool vs k c h low = one_value vs c h low
values_few kinds.Datetime vs k c h low = one_value vs c h low

-- ---- the fields of a document

within : (fields : List Field) (n : ℕ) (f : Field) → slice_get fields n ≡ Some f → n < length fields
within [] n f e = absurd (let z : ◌≡◌ {A = Option Field} None (Some f) = e in cc)
within (g ∷ fs) zero f e = omega arith
within (g ∷ fs) (suc n) f e = omega (arith, within fs n f e)

-- a field's number is one of the schema's, and its bytes are few
record IsFew (fields : List Field) (part : DocField) : Type 0 where
  number : part.number < length fields
  bytes : length (field_bytes part) ≤ 30 + 10 * values_size part.values

part_few : (fields : List Field) (part : DocField) → length fields ≤ 256 → FitsField fields part → AreInType part.values → values_size part.values < 2 ^ 60 → IsFew fields part
part_few fields part few fits h low = by (slice_get fields part.number) refl fits
  where
    by : (o : Option Field) → slice_get fields part.number ≡ o → MatchOption o ⊥ (λ f. AreOfKind f.kind part.values × HasGoodCount f.kind part.values) → IsFew fields part
    by None e m = absurd m
    by (Some f) e m =
        let number = within fields part.number f e in
        let v = values_few f.kind part.values m.0 m.1 h low in
        let a = length-append (varint part.number) (varint (length part.values) ++ flat_map value_bytes part.values) in
        let b = length-append (varint (length part.values)) (flat_map value_bytes part.values) in
        let c = varint_few part.number (omega (arith, number, few)) in
        let d = varint_few (length part.values) (omega (arith, v.count, low)) in
        record { number = number; bytes = omega (arith, a, b, c, d, v.bytes) }

-- the fields of a document are no more than those of the schema, and their bytes are few
record AreFieldsFew (fields : List Field) (least : ℕ) (doc : List DocField) : Type 0 where
  count : length doc ≤ length fields - least
  bytes : length (flat_map field_bytes doc) ≤ 30 * length doc + 10 * doc_size doc

fields_few : (fields : List Field) (least : ℕ) (doc : List DocField) → length fields ≤ 256 → FitsFrom fields least doc → HasNumbers doc → doc_size doc < 2 ^ 60 → AreFieldsFew fields least doc
fields_few fields least [] few fits h low = record { count = omega arith; bytes = omega arith }
fields_few fields least (part ∷ parts) few fits h low =
    let here = part_few fields part few fits.1 h.0 (omega (arith, low)) in
    let more = fields_few fields (suc part.number) parts few fits.2 h.1 (omega (arith, low)) in
    record {
      count = omega (arith, fits.0, here.number, more.count);
      bytes = omega (arith, here.bytes, more.bytes, length-append (field_bytes part) (flat_map field_bytes parts));
    }

-- ---- the fields of a record's document

short_few : (vs : List Value) → AreShortTexts vs → length (flat_map value_bytes vs) ≤ 257 * length vs
short_few [] h = omega arith
short_few (values.Text t ∷ vs) h =
    let more = short_few vs h.1 in
    let digits = text_digits (length t) h.0 in
    omega (arith, h.0, more, digits, length-append (varint (length t)) t, length-append (byte_string t) (flat_map value_bytes vs))
short_few (values.I64 z ∷ vs) h = absurd h
short_few (values.U64 n ∷ vs) h = absurd h
short_few (values.Bool b ∷ vs) h = absurd h
short_few (values.Datetime z ∷ vs) h = absurd h

number_in : (fields : List Field) (part : DocField) → FitsField fields part → part.number < length fields
number_in fields part fits = by (slice_get fields part.number) refl fits
  where
    by : (o : Option Field) → slice_get fields part.number ≡ o → MatchOption o ⊥ (λ f. AreOfKind f.kind part.values × HasGoodCount f.kind part.values) → part.number < length fields
    by None e m = absurd m
    by (Some f) e m = within fields part.number f e

leaves_few : (fields : List Field) (part : DocField) → length fields ≤ 256 → FitsField fields part → AreShortTexts part.values → length part.values < 2 ^ 60
    → length (field_bytes part) ≤ 30 + 257 * length part.values
leaves_few fields part few fits short low =
    let number = number_in fields part fits in
    let a = length-append (varint part.number) (varint (length part.values) ++ flat_map value_bytes part.values) in
    let b = length-append (varint (length part.values)) (flat_map value_bytes part.values) in
    let c = varint_few part.number (omega (arith, number, few)) in
    let d = varint_few (length part.values) (omega (arith, low)) in
    omega (arith, a, b, c, d, short_few part.values short)

module _ (o : Option ℕ) where
  -- the bytes that leaves can have, and that they are short
  abbrev leaf_room : List DocField → ℕ
  leaf_room [] = 0
  leaf_room (part ∷ parts) = (if is_number o part.number then 257 * length part.values else 0) + leaf_room parts

  abbrev HasShortLeaves : List DocField → Type 0
  HasShortLeaves [] = Unit {0}
  HasShortLeaves (part ∷ parts) = (is_number o part.number ≡ true → AreShortTexts part.values) × HasShortLeaves parts

  record AreRecordFew (fields : List Field) (least : ℕ) (doc : List DocField) : Type 0 where
    count : length doc ≤ length fields - least
    bytes : length (flat_map field_bytes doc) ≤ 30 * length doc + 10 * mapped_size o doc + leaf_room doc

  part_bytes : (fields : List Field) (part : DocField) → length fields ≤ 256 → FitsField fields part → AreInType part.values
      → (is_number o part.number ≡ true → AreShortTexts part.values) → mapped_size o (part ∷ []) < 2 ^ 60 → leaf_room (part ∷ []) < 2 ^ 60
      → length (field_bytes part) ≤ 30 + 10 * mapped_size o (part ∷ []) + leaf_room (part ∷ [])
  part_bytes fields part few fits h short low room = by (is_number o part.number) refl
    where
      by : (b : Bool) → is_number o part.number ≡ b → length (field_bytes part) ≤ 30 + 10 * mapped_size o (part ∷ []) + leaf_room (part ∷ [])
      by true e =
          let small : 257 * length part.values + 0 < 2 ^ 60 = rw e at room in
          let own = leaves_few fields part few fits (short e) (omega (arith, small)) in
          rw e (omega (arith, own))
      by false e =
          let small : values_size part.values + 0 < 2 ^ 60 = rw e at low in
          let own = part_few fields part few fits h (omega (arith, small)) in
          let bytes = own.bytes in
          rw e (omega (arith, bytes))

  record_few : (fields : List Field) (least : ℕ) (doc : List DocField) → length fields ≤ 256 → FitsFrom fields least doc → HasNumbers doc → HasShortLeaves doc
      → mapped_size o doc < 2 ^ 60 → leaf_room doc < 2 ^ 60 → AreRecordFew fields least doc
  record_few fields least [] few fits h short low room = record { count = omega arith; bytes = omega arith }
  record_few fields least (part ∷ parts) few fits h short low room =
      let here = part_bytes fields part few fits.1 h.0 short.0 (omega (arith, low)) (omega (arith, room)) in
      let more = record_few fields (suc part.number) parts few fits.2 h.1 short.1 (omega (arith, low)) (omega (arith, room)) in
      record {
        count = omega (arith, fits.0, number_in fields part fits.1, more.count);
        bytes = omega (arith, here, more.bytes, length-append (field_bytes part) (flat_map field_bytes parts));
      }

  -- the field of a number is one part
  leaf_parts : (n : ℕ) → o ≡ Some n → (doc : List DocField) (least : ℕ) → RiseFrom least doc → AreShortTexts (values_at doc n)
      → HasShortLeaves doc × (leaf_room doc ≤ 257 * length (values_at doc n))
  leaf_parts n its [] least h short = (tt, omega arith)
  leaf_parts n its (part ∷ parts) least h short = by (part.number == n) refl (leaf_parts n its parts (suc part.number) h.2)
    where
      Goal : Type 0
      Goal = HasShortLeaves (part ∷ parts) × (leaf_room (part ∷ parts) ≤ 257 * length (values_at (part ∷ parts) n))

      by : (b : Bool) → (part.number == n) ≡ b → (AreShortTexts (values_at parts n) → HasShortLeaves parts × (leaf_room parts ≤ 257 * length (values_at parts n))) → Goal
      by true e rest =
          let same : part.number ≡ n = (unsigned_Decides part.number n).0 e in
          let own : is_number o part.number ≡ true = its_number o part.number (its ∙ ap Some (sym same)) in
          let below : values_at parts n ≡ [] = values_below parts (suc part.number) n h.2 (omega (arith, same)) in
          let left = rest (subst AreShortTexts (sym below) tt) in
          let none : length (values_at parts n) ≡ 0 = ap length below in
          let texts : AreShortTexts part.values = rw e at short in
          let bytes : leaf_room (part ∷ parts) ≤ 257 * length (values_at (part ∷ parts) n) = rw (own, e) (omega (arith, left.1, none)) in
          ((λ _. texts, left.0), bytes)
      by false e rest =
          let other : n ≢ part.number = λ same. let yes = (unsigned_Decides part.number n).1 (sym same) in let wrong : true ≡ false = sym yes ∙ e in cc in
          let mapped : is_number o part.number ≡ false = not_its_number o n part.number its (λ same. other (sym same)) in
          let left = rest (rw e at short) in
          let bytes : leaf_room (part ∷ parts) ≤ 257 * length (values_at (part ∷ parts) n) = rw (mapped, e) (omega (arith, left.1)) in
          ((λ own. absurd (let wrong : true ≡ false = sym own ∙ mapped in cc), left.0), bytes)

  no_leaves : o ≡ None → (doc : List DocField) → HasShortLeaves doc × (leaf_room doc ≤ 0)
  no_leaves none [] = (tt, omega arith)
  no_leaves none (part ∷ parts) =
      let mapped : is_number o part.number ≡ false = ap (λ (x : Option ℕ). is_number x part.number) none in
      let rest = no_leaves none parts in
      let bytes : leaf_room (part ∷ parts) ≤ 0 = rw mapped (omega (arith, rest.1)) in
      ((λ own. absurd (let wrong : true ≡ false = sym own ∙ mapped in cc), rest.0), bytes)

-- ---- the laws

pub document_weight : (s : Schema) (p : Placed) → IsSchema s → IsOfSchema s p.doc → HasNumbers p.doc → doc_size p.doc < 2 ^ 60 → p.offset < 2 ^ 64 → weight p ≤ 8000 + 10 * doc_size p.doc
document_weight s p schema fits h low offset =
    let few = schema.few in
    let all = fields_few s.fields 0 p.doc few fits h low in
    let count = all.count in
    let a = length-append (varint p.offset) (doc_bytes p.doc) in
    let b = length-append (varint (length p.doc)) (flat_map field_bytes p.doc) in
    let c = varint_few p.offset offset in
    let d = varint_few (length p.doc) (omega (arith, count, few)) in
    omega (arith, few, count, all.bytes, a, b, c, d)

record_short : (config : IndexConfig) (bytes : List ℕ) (doc : List DocField) → answer config bytes ≡ Ok doc → length bytes ≤ max_record
record_short config bytes doc e =
    elim (cases_Bool (nat_lt max_record (length bytes))) [
      | inl long ↦ absurd (let refused = rw long at e in cc)
      | inr short ↦ grind (short, arith, nat_tests)
    ]

module _ (config : IndexConfig) (bytes : List ℕ) (doc : List DocField) (e : answer config bytes ≡ Ok doc) where
  rises : RiseFrom 0 doc
  rises =
      let m = made_from config bytes doc e in
      subst (RiseFrom 0) m.3 (doc_rises config.schema.dynamic (leaf_values config.schema m.0) 0 0 config.schema.fields m.0 (omega arith))

  -- what a record's leaves take of its document
  leaves_of : (o : Option ℕ) → config.schema.dynamic ≡ o → HasShortLeaves config.schema.dynamic doc × (leaf_room config.schema.dynamic doc ≤ 16842752)
  leaves_of None none = let left = no_leaves config.schema.dynamic none doc in (left.0, omega (arith, left.1))
  leaves_of (Some n) its =
      let kept = record_leaves config bytes doc n e its in
      let few = kept.few in
      let left = leaf_parts config.schema.dynamic n its doc 0 rises kept.short in
      (left.0, omega (arith, left.1, few))

-- the document of a record under a schema
pub schema_weight : (config : IndexConfig) (bytes : List ℕ) (p : Placed) → IsSchema config.schema → answer config bytes ≡ Ok p.doc → p.offset < 2 ^ 64
    → weight p ≤ 8000 + 10 * length bytes + 16842752
schema_weight config bytes p schema e offset =
    let size = record_size config bytes p.doc schema.rise e in
    let short = record_short config bytes p.doc e in
    let few = schema.few in
    let leaves = leaves_of config bytes p.doc e config.schema.dynamic refl in
    let room = leaves.1 in
    let all = record_few config.schema.dynamic config.schema.fields 0 p.doc few (accepted-fits config bytes p.doc e) (record_numbers config bytes p.doc e) leaves.0
    (omega (arith, size, short)) (omega (arith, room)) in
    let count = all.count in
    let a = length-append (varint p.offset) (doc_bytes p.doc) in
    let b = length-append (varint (length p.doc)) (flat_map field_bytes p.doc) in
    let c = varint_few p.offset offset in
    let d = varint_few (length p.doc) (omega (arith, count, few)) in
    omega (arith, few, count, all.bytes, a, b, c, d, size, room)

pub record_weight : (text bytes : List ℕ) (config : IndexConfig) (p : Placed) → config_answer text ≡ Ok config → answer config bytes ≡ Ok p.doc → p.offset < 2 ^ 64
    → weight p ≤ 8000 + 10 * length bytes + 16842752
record_weight text bytes config p read e offset = schema_weight config bytes p (accepted-schema text config read) e offset

pub record_light : (text bytes : List ℕ) (config : IndexConfig) (p : Placed) → config_answer text ≡ Ok config → answer config bytes ≡ Ok p.doc → p.offset < 2 ^ 64 → weight p ≤ 134217728
record_light text bytes config p read e offset =
    omega (arith, record_weight text bytes config p read e offset, record_short config bytes p.doc e)
