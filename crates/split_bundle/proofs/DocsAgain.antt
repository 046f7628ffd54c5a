-- A document that is spelled is read.
use Rattle.std.proofs.Common.{◌≡◌, ℕ, suc, ◌+◌, ◌<◌, ◌≤◌, ◌^◌, Bool, true, false, List, [], ◌∷◌, ◌++◌, length, drop, Option, Some, None, Result, Ok, refl, sym, ap, ◌∙◌, arith, append_assoc, length-append, eq-eqb}
use Rattle.std.specs.Prelude.{MatchOption}
use Rattle.std.specs.List.{flat_map, slice_get, AllByRecursion}
use Rattle.std.proofs.lemmas.Bool.{lt-ltb, le-ltb}
use Rattle.std.proofs.lemmas.List.{append-nil}
use Rattle.std.proofs.lemmas.Option.{slice_get_within}
use Rattle.byte_fields.specs.declared.corrupt.Corrupt.{Corrupt}
use Rattle.byte_fields.specs.Spelling.{varint, zigzag, byte_string, flag}
use Rattle.byte_fields.proofs.Others.{text_again, signed_again, flag_again}
use Rattle.term_dict.proofs.Areas.{drop_behind, varint_some}
use Rattle.doc_value.specs.declared.doc.DocField.{DocField}
use Rattle.doc_value.specs.declared.doc.Value.{Value}
use Rattle.doc_value.specs.declared.doc.Value.TheVariants as values
use Rattle.doc_value.specs.declared.schema.Field.{Field}
use Rattle.doc_value.specs.declared.schema.Kind.{Kind}
use Rattle.doc_value.specs.declared.schema.Kind.TheVariants as kinds
use Rattle.doc_value.specs.declared.schema.Schema.{Schema}
use Rattle.doc_value.specs.Documents.{IsSchema, IsOfSchema, IsOfKind, AreOfKind, HasGoodCount, FitsField, FitsFrom}
use Rattle.split_bundle.specs.declared.documents.Stored.{Stored}
use Rattle.split_bundle.specs.declared.placed.Placed.{Placed}
use Rattle.split_bundle.specs.Documents.{value_bytes, field_bytes, place_among, placed_bytes}
use Rattle.split_bundle.specs.DocReading.{text_value_at, value_at, values_at, may_have, kind_at, doc_field_at, doc_fields_at, stored_in}
use Rattle.split_bundle.specs.Held.{IsHeldValue, AreHeld, IsHeld}
use Rattle.split_bundle.proofs.Spelled.{number_again, fits_in}

-- ---- a value

abbrev got_value : Value → ℕ → Result (Value × ℕ) Corrupt
got_value v at = Ok (v, at)

length-flag : (b : Bool) → length (flag b) ≡ 1
length-flag true = refl
length-flag false = refl

module _ (bytes : List ℕ) (short : length bytes < 2 ^ 64) (at : ℕ) (rest : List ℕ) where
  text_value_again : (t : List ℕ) → IsHeldValue (values.Text t) → drop at bytes ≡ byte_string t ++ rest → text_value_at bytes at ≡ got_value (values.Text t) (at + length (byte_string t))
  unfolding text_value_at
  text_value_again t held e =
      let few : length t < 2 ^ 64 = omega (arith, fits_in bytes (byte_string t) rest at short e, length-append (varint (length t)) t) in
      rw (text_again bytes at t rest few held e) refl

  pub value_again : (kind : Kind) (v : Value) → IsOfKind kind v → IsHeldValue v → drop at bytes ≡ value_bytes v ++ rest → value_at kind bytes at ≡ got_value v (at + length (value_bytes v))
  unfolding value_at
  value_again kinds.Text (values.Text t) is held e = text_value_again t held e
  value_again kinds.TextList (values.Text t) is held e = text_value_again t held e
  value_again kinds.I64 (values.I64 z) is held e = rw (signed_again bytes at z rest held e) refl
  value_again kinds.U64 (values.U64 n) is held e =
      let a = number_again bytes at n rest held e in
      rw a.is (ap (λ (next : ℕ). got_value (values.U64 n) next) a.stands.next_is)
  value_again kinds.Bool (values.Bool b) is held e = rw (flag_again bytes at b rest e) (ap (λ (width : ℕ). got_value (values.Bool b) (at + width)) (sym (length-flag b)))
  value_again kinds.Datetime (values.Datetime z) is held e = rw (signed_again bytes at z rest held e) refl
  value_again kind v is held e = absurd is

pub value_some : (v : Value) → 0 < length (value_bytes v)
value_some (values.Text t) = omega (arith, varint_some (length t), length-append (varint (length t)) t)
value_some (values.I64 z) = varint_some (zigzag z)
value_some (values.U64 n) = varint_some n
value_some (values.Bool b) = omega (arith, length-flag b)
value_some (values.Datetime z) = varint_some (zigzag z)

-- items that each have bytes are not more than these
pub many : {X : Type 0} (spelled : X → List ℕ) → ((x : X) → 0 < length (spelled x)) → (xs : List X) → length xs ≤ length (flat_map spelled xs)
many spelled some [] = omega arith
many spelled some (x ∷ xs) = omega (arith, some x, many spelled some xs, length-append (spelled x) (flat_map spelled xs))

-- ---- a field

abbrev got_values : List Value → ℕ → Result (List Value × ℕ) Corrupt
got_values vs at = Ok (vs, at)

may_have_good : (kind : Kind) (vs : List Value) → HasGoodCount kind vs → may_have kind (length vs) ≡ true
may_have_good kinds.Text vs good = eq-eqb (length vs) 1 good
may_have_good kinds.I64 vs good = eq-eqb (length vs) 1 good
may_have_good kinds.U64 vs good = eq-eqb (length vs) 1 good
may_have_good kinds.Bool vs good = eq-eqb (length vs) 1 good
may_have_good kinds.Datetime vs good = eq-eqb (length vs) 1 good
may_have_good kinds.TextList vs good = lt-ltb 0 (length vs) good

-- what holds of the value that there is
matched : {X : Type 0} (P : X → Type 0) (o : Option X) → MatchOption o ⊥ P → (x : X) × (o ≡ Some x) × P x
matched P None is = absurd is
matched P (Some x) is = (x, refl, is)

field_some : (f : DocField) → 0 < length (field_bytes f)
field_some f = omega (arith, varint_some f.number, length-append (varint f.number) (varint (length f.values) ++ flat_map value_bytes f.values))

abbrev got_field : DocField → ℕ → Result (DocField × ℕ) Corrupt
got_field f at = Ok (f, at)

abbrev got_fields : List DocField → ℕ → Result (List DocField × ℕ) Corrupt
got_fields fs at = Ok (fs, at)

abbrev got_kind : Kind → Result Kind Corrupt
got_kind kind = Ok kind

module _ (bytes : List ℕ) (short : length bytes < 2 ^ 64) where
  values_again : (kind : Kind) (vs : List Value) (at : ℕ) (rest : List ℕ) → AreOfKind kind vs → AllByRecursion IsHeldValue vs → drop at bytes ≡ flat_map value_bytes vs ++ rest
      → values_at kind (length vs) bytes at ≡ got_values vs (at + length (flat_map value_bytes vs))
  unfolding values_at
  values_again kind [] at rest are held e = ap (λ (n : ℕ). got_values [] n) (omega arith)
  values_again kind (v ∷ vs) at rest are held e =
      let e0 : drop at bytes ≡ value_bytes v ++ (flat_map value_bytes vs ++ rest) = e ∙ append_assoc (value_bytes v) (flat_map value_bytes vs) rest in
      let one = value_again bytes short at (flat_map value_bytes vs ++ rest) kind v are.0 held.0 e0 in
      let more = values_again kind vs (at + length (value_bytes v)) rest are.1 held.1 (drop_behind bytes (value_bytes v) (flat_map value_bytes vs ++ rest) at e0) in
      rw (one, more) (ap (λ (n : ℕ). got_values (v ∷ vs) n) (omega (arith, length-append (value_bytes v) (flat_map value_bytes vs))))

  module _ (fields : List Field) (few : length fields ≤ 256) where
    kind_again : (least number at : ℕ) (g : Field) → least ≤ number → slice_get fields number ≡ Some g → kind_at fields least number at ≡ got_kind g.kind
    unfolding kind_at
    kind_again least number at g le here = rw (le-ltb number least le, here) refl

    field_again : (least : ℕ) (f : DocField) (at : ℕ) (rest : List ℕ) → least ≤ f.number → FitsField fields f → AllByRecursion IsHeldValue f.values → drop at bytes ≡ field_bytes f ++ rest
        → doc_field_at fields least bytes at ≡ got_field f (at + length (field_bytes f))
    unfolding doc_field_at
    field_again least f at rest le fits held e =
        let found = matched (λ (g : Field). AreOfKind g.kind f.values × HasGoodCount g.kind f.values) (slice_get fields f.number) fits in
        let within : f.number < length fields = slice_get_within fields f.number found.0 found.1 in
        let e0 : drop at bytes ≡ varint f.number ++ (varint (length f.values) ++ (flat_map value_bytes f.values ++ rest)) = e ∙ simp append_assoc in
        let a = number_again bytes at f.number (varint (length f.values) ++ (flat_map value_bytes f.values ++ rest)) (omega arith) e0 in
        let kind = kind_again least f.number at found.0 le found.1 in
        let room : length (flat_map value_bytes f.values) < 2 ^ 64 =
        fits_in bytes (flat_map value_bytes f.values) rest (a.next + length (varint (length f.values))) short (drop_behind bytes (varint (length f.values)) (flat_map value_bytes f.values ++ rest) a.next a.stands.behind) in
        let c = number_again bytes a.next (length f.values) (flat_map value_bytes f.values ++ rest) (omega (arith, many value_bytes value_some f.values)) a.stands.behind in
        let may = may_have_good found.0.kind f.values found.2.1 in
        let vs = values_again found.0.kind f.values c.next rest found.2.0 held c.stands.behind in
        rw (a.is, kind, c.is, may, vs) (ap (λ (n : ℕ). got_field f n) (omega (arith, a.stands.next_is, c.stands.next_is, length-append (varint f.number) (varint (length f.values) ++ flat_map value_bytes f.values), length-append (varint (length f.values)) (flat_map value_bytes f.values))))

    fields_again : (fs : List DocField) (least at : ℕ) (rest : List ℕ) → FitsFrom fields least fs → AreHeld fs → drop at bytes ≡ flat_map field_bytes fs ++ rest
        → doc_fields_at fields least (length fs) bytes at ≡ got_fields fs (at + length (flat_map field_bytes fs))
    unfolding doc_fields_at
    fields_again [] least at rest fits held e = ap (λ (n : ℕ). got_fields [] n) (omega arith)
    fields_again (f ∷ fs) least at rest fits held e =
        let e0 : drop at bytes ≡ field_bytes f ++ (flat_map field_bytes fs ++ rest) = e ∙ append_assoc (field_bytes f) (flat_map field_bytes fs) rest in
        let one = field_again least f at (flat_map field_bytes fs ++ rest) fits.0 fits.1 held.0 e0 in
        let more = fields_again fs (suc f.number) (at + length (field_bytes f)) rest fits.2 held.1 (drop_behind bytes (field_bytes f) (flat_map field_bytes fs ++ rest) at e0) in
        rw (one, more) (ap (λ (n : ℕ). got_fields (f ∷ fs) n) (omega (arith, length-append (field_bytes f) (flat_map field_bytes fs))))

-- ---- a document

abbrev got_stored : Stored → Result Stored Corrupt
got_stored d = Ok d

pub stored_again : (s : Schema) (partitions : List (List ℕ)) (d : Placed) → IsSchema s → IsOfSchema s d.doc → IsHeld d → place_among partitions d.partition < 2 ^ 64 → length (placed_bytes partitions d) < 2 ^ 64
    → stored_in s.fields (placed_bytes partitions d) ≡ got_stored (record { place = place_among partitions d.partition; offset = d.offset; doc = d.doc })
unfolding stored_in
stored_again s partitions d schema of_schema held place short =
    let bytes : List ℕ = placed_bytes partitions d in
    let k : ℕ = place_among partitions d.partition in
    let fs : List ℕ = flat_map field_bytes d.doc in
    let e0 : drop 0 bytes ≡ varint k ++ (varint d.offset ++ (varint (length d.doc) ++ (fs ++ []))) = ap (λ (l : List ℕ). varint k ++ (varint d.offset ++ (varint (length d.doc) ++ l))) (sym (append-nil fs)) in
    let a = number_again bytes 0 k (varint d.offset ++ (varint (length d.doc) ++ (fs ++ []))) place e0 in
    let b = number_again bytes a.next d.offset (varint (length d.doc) ++ (fs ++ [])) held.offset a.stands.behind in
    let room : length fs < 2 ^ 64 = fits_in bytes fs [] (b.next + length (varint (length d.doc))) short (drop_behind bytes (varint (length d.doc)) (fs ++ []) b.next b.stands.behind) in
    let c = number_again bytes b.next (length d.doc) (fs ++ []) (omega (arith, many field_bytes field_some d.doc)) b.stands.behind in
    let all = fields_again bytes short s.fields schema.few d.doc 0 c.next [] of_schema held.doc c.stands.behind in
    let size : length bytes ≡ length (varint k) + (length (varint d.offset) + (length (varint (length d.doc)) + length fs)) =
    length-append (varint k) (varint d.offset ++ (varint (length d.doc) ++ fs)) ∙ ap (λ (n : ℕ). length (varint k) + n) (length-append (varint d.offset) (varint (length d.doc) ++ fs)
    ∙ ap (λ (n : ℕ). length (varint d.offset) + n) (length-append (varint (length d.doc)) fs)) in
    let end : c.next + length fs ≡ length bytes = omega (arith, a.stands.next_is, b.stands.next_is, c.stands.next_is, size) in
    rw (a.is, b.is, c.is, all, eq-eqb (c.next + length fs) (length bytes) end) refl
