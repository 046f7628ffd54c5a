-- The places of a key in a document rise.
use Rattle.std.proofs.Common.{◌≡◌, ℕ, suc, ◌+◌, ◌*◌, ◌/◌, ◌%◌, ◌^◌, ◌<◌, ◌≤◌, Bool, true, false, List, [], ◌∷◌, ◌++◌, Option, Some, None, refl, sym, ◌∙◌, ap, subst, arith, inl, inr}
use Rattle.std.specs.Prelude.{slice_get, ◌⊎◌, if◌then◌else◌}
use Rattle.std.specs.List.{AllByRecursion}
use Rattle.std.specs.Str.{bytes_eq}
use Rattle.std.specs.Option.{option_map_or}
use Rattle.std.proofs.Math.Nat.{mod-add-div}
use Rattle.std.proofs.lemmas.Bool.{cases_order}
use Rattle.std.proofs.lemmas.Option.{slice_get_within}
use Rattle.doc_value.specs.declared.schema.Field.{Field}
use Rattle.doc_value.specs.declared.schema.Schema.{Schema}
use Rattle.doc_value.specs.declared.doc.Value.{Value}
use Rattle.doc_value.specs.declared.doc.Value.TheVariants as values
use Rattle.doc_value.specs.declared.doc.DocField.{DocField}
use Rattle.doc_value.specs.Documents.{IsSchema, values_in}
use Rattle.doc_value.specs.Terms.{term_bytes}
use Rattle.text_tokens.specs.declared.tokens.Token.{Token}
use Rattle.term_postings.specs.Postings.{AreRising}
use Rattle.query_ast.specs.FieldTokens.{field_tokens}
use Rattle.split_bundle.specs.Keys.{Occurrence, field_key, presence_key, value_place, of_tokens, of_value, of_values, of_presence, of_field, of_fields, keys_of}
use Rattle.split_bundle.specs.Lists.{places_of, keeps_places}
use Rattle.split_build.specs.Walks.{IsShort, IsShortDoc}
use Rattle.split_build.proofs.SaidLemmas.{eq_false}
use Rattle.split_bundle.proofs.TokenPlaces.{TokensRise, AreBelow, tokens_rise, tokens_below}

-- numbers from a first one on and below a last one, each above the one before
abbrev pub RiseWithin : ℕ → ℕ → List ℕ → Type 0
RiseWithin low high [] = Unit {0}
RiseWithin low high (x ∷ xs) = (low ≤ x) × (x < high) × RiseWithin (suc x) high xs

abbrev pub RiseFrom : ℕ → List ℕ → Type 0
RiseFrom low [] = Unit {0}
RiseFrom low (x ∷ xs) = (low ≤ x) × RiseFrom (suc x) xs

within_weaker : (a b high : ℕ) (xs : List ℕ) → a ≤ b → RiseWithin b high xs → RiseWithin a high xs
within_weaker a b high [] le h = tt
within_weaker a b high (x ∷ xs) le h = (omega (arith, h.0), h.1, h.2)

from_weaker : (a b : ℕ) (xs : List ℕ) → a ≤ b → RiseFrom b xs → RiseFrom a xs
from_weaker a b [] le h = tt
from_weaker a b (x ∷ xs) le h = (omega (arith, h.0), h.1)

from_append : (a b : ℕ) (xs ys : List ℕ) → a ≤ b → RiseWithin a b xs → RiseFrom b ys → RiseFrom a (xs ++ ys)
from_append a b [] ys le p q = from_weaker a b ys le q
from_append a b (x ∷ xs) ys le p q = (p.0, from_append (suc x) b xs ys (omega (arith, p.1)) p.2 q)

rise_nil : (n : ℕ) (xs : List ℕ) → RiseFrom n xs → RiseFrom n (xs ++ [])
rise_nil n [] h = tt
rise_nil n (x ∷ xs) h = (h.0, rise_nil (suc x) xs h.1)

above_all : (n low : ℕ) (xs : List ℕ) → n < low → RiseFrom low xs → AllByRecursion (λ m. n < m) xs
above_all n low [] lt h = tt
above_all n low (x ∷ xs) lt h = (omega (arith, h.0), above_all n (suc x) xs (omega (arith, h.0)) h.1)

pub rising_of : (low : ℕ) (xs : List ℕ) → RiseFrom low xs → AreRising xs
rising_of low [] h = tt
rising_of low (x ∷ xs) h = (above_all x (suc x) xs (omega arith) h.1, rising_of (suc x) xs h.1)

places_append : (key : List ℕ) (xs ys : List Occurrence) → places_of key (xs ++ ys) ≡ places_of key xs ++ places_of key ys
places_append key [] ys = refl
places_append key (x ∷ xs) ys = by (bytes_eq x.key key) refl (places_append key xs ys)
  where
    by : (b : Bool) → bytes_eq x.key key ≡ b → places_of key (xs ++ ys) ≡ places_of key xs ++ places_of key ys → places_of key ((x ∷ xs) ++ ys) ≡ places_of key (x ∷ xs) ++ places_of key ys
    by true is ih = rw is (ap (λ (l : List ℕ). x.place ∷ l) ih)
    by false is ih = rw is ih

-- ---- in a value

module _ (key : List ℕ) (number p : ℕ) where
  tokens_within : (n : ℕ) (ts : List Token) → TokensRise n ts → AreBelow (2 ^ 32) ts → RiseWithin (p * 2 ^ 32 + n) (p * 2 ^ 32 + 2 ^ 32) (places_of key (of_tokens number p ts))
  tokens_within n [] rise below = tt
  tokens_within n (t ∷ ts) rise below = by (bytes_eq (field_key number t.text) key) refl (tokens_within (suc t.position) ts rise.1 below.1)
    where
      by : (b : Bool) → bytes_eq (field_key number t.text) key ≡ b → RiseWithin (p * 2 ^ 32 + suc t.position) (p * 2 ^ 32 + 2 ^ 32) (places_of key (of_tokens number p ts))
          → RiseWithin (p * 2 ^ 32 + n) (p * 2 ^ 32 + 2 ^ 32) (places_of key (of_tokens number p (t ∷ ts)))
      by true is rest = rw is (
        omega (arith, rise.0),
        omega (arith, below.0),
        within_weaker (suc (p * 2 ^ 32 + t.position)) (p * 2 ^ 32 + suc t.position) (p * 2 ^ 32 + 2 ^ 32) (places_of key (of_tokens number p ts)) (omega arith) rest,
      )
      by false is rest = rw is (within_weaker (p * 2 ^ 32 + n) (p * 2 ^ 32 + suc t.position) (p * 2 ^ 32 + 2 ^ 32) (places_of key (of_tokens number p ts)) (omega (arith, rise.0)) rest)

  one_within : (term : List ℕ) → RiseWithin (p * 2 ^ 32) (p * 2 ^ 32 + 2 ^ 32) (places_of key (record { key = field_key number term; place = value_place p 0 } ∷ []))
  one_within term = by (bytes_eq (field_key number term) key) refl
    where
      by : (b : Bool) → bytes_eq (field_key number term) key ≡ b → RiseWithin (p * 2 ^ 32) (p * 2 ^ 32 + 2 ^ 32) (places_of key (record { key = field_key number term; place = value_place p 0 } ∷ []))
      by true is = rw is (omega arith, omega arith, tt)
      by false is = rw is tt

  value_within : (f : Field) (v : Value) → IsShort v → RiseWithin (p * 2 ^ 32) (p * 2 ^ 32 + 2 ^ 32) (places_of key (of_value f number p v))
  value_within f (values.Text t) short =
      within_weaker (p * 2 ^ 32) (p * 2 ^ 32 + 0) (p * 2 ^ 32 + 2 ^ 32) (places_of key (of_tokens number p (field_tokens f t))) (omega arith)
      (tokens_within 0 (field_tokens f t) (tokens_rise f t) (tokens_below f t (2 ^ 32) short))
  value_within f (values.I64 z) short = one_within (term_bytes (values.I64 z))
  value_within f (values.U64 n) short = one_within (term_bytes (values.U64 n))
  value_within f (values.Bool b) short = one_within (term_bytes (values.Bool b))
  value_within f (values.Datetime z) short = one_within (term_bytes (values.Datetime z))

values_rise : (key : List ℕ) (f : Field) (number p : ℕ) (vs : List Value) → AllByRecursion IsShort vs → RiseFrom (p * 2 ^ 32) (places_of key (of_values f number p vs))
values_rise key f number p [] short = tt
values_rise key f number p (v ∷ vs) short =
    let rest = from_weaker (p * 2 ^ 32 + 2 ^ 32) (suc p * 2 ^ 32) (places_of key (of_values f number (suc p) vs)) (omega arith) (values_rise key f number (suc p) vs short.1) in
    subst (λ (l : List ℕ). RiseFrom (p * 2 ^ 32) l) (sym (places_append key (of_value f number p v) (of_values f number (suc p) vs)))
    (from_append (p * 2 ^ 32) (p * 2 ^ 32 + 2 ^ 32) (places_of key (of_value f number p v)) (places_of key (of_values f number (suc p) vs)) (omega arith) (value_within key number p f v short.0) rest)

-- ---- a key of one field is no key of another

module _ (high low : ℕ) (term : List ℕ) where
  abbrev key : List ℕ
  key = high ∷ low ∷ term

  other_key : (number : ℕ) (t : List ℕ) → (number ≡ high * 256 + low → ⊥) → bytes_eq (field_key number t) key ≡ false
  other_key number t ne = eq_false (field_key number t) key (λ same.
      (let first : number / 256 ≡ high = cc in
      let second : number % 256 ≡ low = cc in
      ne (omega (arith, mod-add-div number 256))))

  other_tokens : (number p : ℕ) (ts : List Token) → (number ≡ high * 256 + low → ⊥) → places_of key (of_tokens number p ts) ≡ []
  other_tokens number p [] ne = refl
  other_tokens number p (t ∷ ts) ne = rw (other_key number t.text ne) (other_tokens number p ts ne)

  other_value : (f : Field) (number p : ℕ) (v : Value) → (number ≡ high * 256 + low → ⊥) → places_of key (of_value f number p v) ≡ []
  other_value f number p (values.Text t) ne = other_tokens number p (field_tokens f t) ne
  other_value f number p (values.I64 z) ne = rw (other_key number (term_bytes (values.I64 z)) ne) refl
  other_value f number p (values.U64 n) ne = rw (other_key number (term_bytes (values.U64 n)) ne) refl
  other_value f number p (values.Bool b) ne = rw (other_key number (term_bytes (values.Bool b)) ne) refl
  other_value f number p (values.Datetime z) ne = rw (other_key number (term_bytes (values.Datetime z)) ne) refl

  other_values : (f : Field) (number p : ℕ) (vs : List Value) → (number ≡ high * 256 + low → ⊥) → places_of key (of_values f number p vs) ≡ []
  other_values f number p [] ne = refl
  other_values f number p (v ∷ vs) ne =
      places_append key (of_value f number p v) (of_values f number (suc p) vs) ∙ ap (λ (l : List ℕ). l ++ places_of key (of_values f number (suc p) vs)) (other_value f number p v ne)
      ∙ other_values f number (suc p) vs ne

  no_presence : (number : ℕ) (vs : List Value) → (high ≡ 255 → ⊥) → places_of key (of_presence number vs) ≡ []
  no_presence number [] ne = refl
  no_presence number (v ∷ vs) ne =
      let other : bytes_eq (presence_key number) key ≡ false = eq_false (presence_key number) key (λ same. ne cc) in
      rw other refl

  other_field : (f : Field) (number : ℕ) (vs : List Value) → (high ≡ 255 → ⊥) → (number ≡ high * 256 + low → ⊥) → places_of key (of_field f number vs) ≡ []
  other_field f number vs apart ne = by f.indexed
    where
      by : (b : Bool) → places_of key (if b then of_presence number vs ++ of_values f number 0 vs else []) ≡ []
      by true =
          places_append key (of_presence number vs) (of_values f number 0 vs) ∙ ap (λ (l : List ℕ). l ++ places_of key (of_values f number 0 vs)) (no_presence number vs apart)
          ∙ other_values f number 0 vs ne
      by false = refl

  other_fields : (fs : List Field) (number : ℕ) (d : List DocField) → (high ≡ 255 → ⊥) → high * 256 + low < number → places_of key (of_fields fs number d) ≡ []
  other_fields [] number d apart lt = refl
  other_fields (f ∷ fs) number d apart lt =
      places_append key (of_field f number (values_in d number)) (of_fields fs (suc number) d)
      ∙ ap (λ (l : List ℕ). l ++ places_of key (of_fields fs (suc number) d)) (other_field f number (values_in d number) apart (λ e. absurd (omega arith)))
      ∙ other_fields fs (suc number) d apart (omega arith)

  own_field : (f : Field) (number : ℕ) (vs : List Value) → (high ≡ 255 → ⊥) → AllByRecursion IsShort vs → RiseFrom 0 (places_of key (of_field f number vs))
  own_field f number vs apart short = by f.indexed
    where
      by : (b : Bool) → RiseFrom 0 (places_of key (if b then of_presence number vs ++ of_values f number 0 vs else []))
      by true =
          let is : places_of key (of_presence number vs ++ of_values f number 0 vs) ≡ places_of key (of_values f number 0 vs) =
          places_append key (of_presence number vs) (of_values f number 0 vs) ∙ ap (λ (l : List ℕ). l ++ places_of key (of_values f number 0 vs)) (no_presence number vs apart) in
          subst (λ (l : List ℕ). RiseFrom 0 l) (sym is) (from_weaker 0 (0 * 2 ^ 32) (places_of key (of_values f number 0 vs)) (omega arith) (values_rise key f number 0 vs short))
      by false = tt

  fields_rise : (fs : List Field) (number : ℕ) (d : List DocField) → (high ≡ 255 → ⊥) → IsShortDoc d → RiseFrom 0 (places_of key (of_fields fs number d))
  fields_rise [] number d apart short = tt
  fields_rise (f ∷ fs) number d apart short = by (cases_order number (high * 256 + low)) (fields_rise fs (suc number) d apart short)
    where
      parts : places_of key (of_fields (f ∷ fs) number d) ≡ places_of key (of_field f number (values_in d number)) ++ places_of key (of_fields fs (suc number) d)
      parts = places_append key (of_field f number (values_in d number)) (of_fields fs (suc number) d)

      own : high * 256 + low < suc number → RiseFrom 0 (places_of key (of_fields (f ∷ fs) number d))
      own lt =
          let none = other_fields fs (suc number) d apart lt in
          subst (λ (l : List ℕ). RiseFrom 0 l) (sym (parts ∙ ap (λ (l : List ℕ). places_of key (of_field f number (values_in d number)) ++ l) none))
          (rise_nil 0 (places_of key (of_field f number (values_in d number))) (own_field f number (values_in d number) apart (short number).each))

      other : RiseFrom 0 (places_of key (of_fields fs (suc number) d)) → (number ≡ high * 256 + low → ⊥) → RiseFrom 0 (places_of key (of_fields (f ∷ fs) number d))
      other rest ne =
          let none = other_field f number (values_in d number) apart ne in
          subst (λ (l : List ℕ). RiseFrom 0 l) (sym (parts ∙ ap (λ (l : List ℕ). l ++ places_of key (of_fields fs (suc number) d)) none)) rest

      by : (number ≡ high * 256 + low) ⊎ ((number < high * 256 + low) ⊎ (high * 256 + low < number)) → RiseFrom 0 (places_of key (of_fields fs (suc number) d)) → RiseFrom 0 (places_of key (of_fields (f ∷ fs) number d))
      by (inl same) rest = own (omega (arith, same))
      by (inr (inl lt)) rest = other rest (λ e. absurd (omega (arith, lt, e)))
      by (inr (inr gt)) rest = other rest (λ e. absurd (omega (arith, gt, e)))

-- ---- of a key whose places are kept

kept_field : (o : Option Field) → option_map_or (λ f. f.positions) o false ≡ true → (f : Field) × (o ≡ Some f)
kept_field None e = absurd cc
kept_field (Some f) e = (f, refl)

pub places_rise : (s : Schema) (d : List DocField) (k : List ℕ) → IsSchema s → IsShortDoc d → keeps_places s k ≡ true → AreRising (places_of k (keys_of s d))
places_rise s d [] schema short kept = absurd cc
places_rise s d (high ∷ []) schema short kept = absurd cc
places_rise s d (high ∷ low ∷ term) schema short kept =
    let there = kept_field (slice_get s.fields (high * 256 + low)) kept in
    let within = slice_get_within s.fields (high * 256 + low) there.0 there.1 in
    let apart : high ≡ 255 → ⊥ = λ e. absurd (omega (arith, within, schema.few, e)) in
    rising_of 0 (places_of (high ∷ low ∷ term) (of_fields s.fields 0 d)) (fields_rise high low term s.fields 0 d apart short)
