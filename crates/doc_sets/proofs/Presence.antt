-- A field has a value in a document exactly where the document has the field's presence key.
use Rattle.std.proofs.Common.{◌≡◌, ℕ, zero, suc, ◌+◌, ◌/◌, ◌%◌, ◌<◌, ◌≤◌, ◌≢◌, ◌⊎◌, inl, inr, Bool, true, false, ◌||◌, List, [], ◌∷◌, ◌++◌, length, slice_get, Some, if◌then◌else◌, refl, ap, sym, ◌∙◌, arith}
use Rattle.std.specs.Str.{bytes_eq}
use Rattle.std.proofs.lemmas.Bool.{cases_eq}
use Rattle.doc_value.specs.declared.schema.Field.{Field}
use Rattle.doc_value.specs.declared.schema.Schema.{Schema}
use Rattle.doc_value.specs.declared.doc.Value.{Value}
use Rattle.doc_value.specs.declared.doc.Value.TheVariants as values
use Rattle.doc_value.specs.declared.doc.DocField.{DocField}
use Rattle.doc_value.specs.Terms.{term_bytes}
use Rattle.text_tokens.specs.declared.tokens.Token.{Token}
use Rattle.query_ast.specs.FieldTokens.{field_tokens}
use Rattle.query_ast.specs.Meaning.{is_there}
use Rattle.doc_value.specs.Documents.{values_in}
use Rattle.split_bundle.specs.Keys.{Occurrence, field_key, presence_key, of_tokens, of_value, of_values, of_presence, of_field, of_fields, keys_of}
use Rattle.split_bundle.specs.Lists.{has_key}
use Rattle.doc_sets.proofs.KeyTests.{same_number, other_number}

presence_same : (n : ℕ) → bytes_eq (presence_key n) (presence_key n) ≡ true
presence_same n = rw (same_number (n / 256), same_number (n % 256))

presence_other : (m n : ℕ) → m ≢ n → bytes_eq (presence_key m) (presence_key n) ≡ false
presence_other m n h = go (cases_eq (m / 256) (n / 256)) (cases_eq (m % 256) (n % 256))
  where
    go : ((m / 256 ≡ n / 256) ⊎ (m / 256 ≢ n / 256)) → ((m % 256 ≡ n % 256) ⊎ (m % 256 ≢ n % 256)) → bytes_eq (presence_key m) (presence_key n) ≡ false
    go (inr ne) _ = rw (other_number (m / 256) (n / 256) ne)
    go (inl e) (inr ne) = rw (e, same_number (n / 256), other_number (m % 256) (n % 256) ne)
    go (inl e) (inl d) = absurd (h (omega arith))

term_no_presence : (m n : ℕ) (t : List ℕ) → m < 65280 → bytes_eq (field_key m t) (presence_key n) ≡ false
term_no_presence m n t lt = let ne : m / 256 ≢ 255 = (λ e. absurd (omega arith)) in let h = other_number (m / 256) 255 ne in rw (h)

or_group : (a b r : Bool) → a || (b || r) ≡ (a || b) || r
or_group true b r = refl
or_group false b r = refl

or_false : (a : Bool) → a || false ≡ a
or_false true = refl
or_false false = refl

pub has_append : (key : List ℕ) (xs ys : List Occurrence) → has_key key (xs ++ ys) ≡ has_key key xs || has_key key ys
has_append key [] ys = refl
has_append key (x ∷ xs) ys = ap (λ b. bytes_eq x.key key || b) (has_append key xs ys) ∙ or_group (bytes_eq x.key key) (has_key key xs) (has_key key ys)

no_tokens : (m n place : ℕ) (ts : List Token) → m < 65280 → has_key (presence_key n) (of_tokens m place ts) ≡ false
no_tokens m n place [] lt = refl
no_tokens m n place (t ∷ ts) lt = rw (term_no_presence m n t.text lt, no_tokens m n place ts lt)

no_value : (f : Field) (m n place : ℕ) (v : Value) → m < 65280 → has_key (presence_key n) (of_value f m place v) ≡ false
no_value f m n place (values.Text s) lt = no_tokens m n place (field_tokens f s) lt
no_value f m n place (values.I64 s) lt = rw (term_no_presence m n (term_bytes (values.I64 s)) lt)
no_value f m n place (values.U64 s) lt = rw (term_no_presence m n (term_bytes (values.U64 s)) lt)
no_value f m n place (values.Bool s) lt = rw (term_no_presence m n (term_bytes (values.Bool s)) lt)
no_value f m n place (values.Datetime s) lt = rw (term_no_presence m n (term_bytes (values.Datetime s)) lt)

no_values : (f : Field) (m n place : ℕ) (vs : List Value) → m < 65280 → has_key (presence_key n) (of_values f m place vs) ≡ false
no_values f m n place [] lt = refl
no_values f m n place (v ∷ vs) lt =
    has_append (presence_key n) (of_value f m place v) (of_values f m (suc place) vs)
    ∙ (ap (λ b. b || has_key (presence_key n) (of_values f m (suc place) vs)) (no_value f m n place v lt) ∙ no_values f m n (suc place) vs lt)

presence_here : (n : ℕ) (vs : List Value) → has_key (presence_key n) (of_presence n vs) ≡ is_there vs
presence_here n [] = refl
presence_here n (v ∷ vs) = rw (presence_same n)

presence_elsewhere : (m n : ℕ) (vs : List Value) → m ≢ n → has_key (presence_key n) (of_presence m vs) ≡ false
presence_elsewhere m n [] ne = refl
presence_elsewhere m n (v ∷ vs) ne = rw (presence_other m n ne)

field_presence : (f : Field) (n : ℕ) (vs : List Value) → n < 65280 → f.indexed ≡ true → has_key (presence_key n) (of_field f n vs) ≡ is_there vs
field_presence f n vs lt on = rw on
    (has_append (presence_key n) (of_presence n vs) (of_values f n 0 vs)
    ∙ (ap (λ b. has_key (presence_key n) (of_presence n vs) || b) (no_values f n n 0 vs lt)
    ∙ (or_false (has_key (presence_key n) (of_presence n vs)) ∙ presence_here n vs)))

other_presence : (f : Field) (m n : ℕ) (vs : List Value) → m < 65280 → m ≢ n → has_key (presence_key n) (of_field f m vs) ≡ false
other_presence f m n vs lt ne = go f.indexed
  where
    go : (b : Bool) → has_key (presence_key n) (if b then of_presence m vs ++ of_values f m 0 vs else []) ≡ false
    go false = refl
    go true = has_append (presence_key n) (of_presence m vs) (of_values f m 0 vs)
        ∙ (ap (λ b. b || has_key (presence_key n) (of_values f m 0 vs)) (presence_elsewhere m n vs ne) ∙ no_values f m n 0 vs lt)

-- fields behind the one with the number
later_presence : (fs : List Field) (m n : ℕ) (d : List DocField) → m + length fs ≤ 65280 → n < m → has_key (presence_key n) (of_fields fs m d) ≡ false
later_presence [] m n d few below = refl
later_presence (f ∷ fs) m n d few below =
    has_append (presence_key n) (of_field f m (values_in d m)) (of_fields fs (suc m) d)
    ∙ (ap (λ b. b || has_key (presence_key n) (of_fields fs (suc m) d)) (other_presence f m n (values_in d m) (omega arith) (λ e. absurd (omega arith)))
    ∙ later_presence fs (suc m) n d (omega arith) (omega arith))

fields_presence : (fs : List Field) (m i n : ℕ) (f : Field) (d : List DocField) → n ≡ m + i → slice_get fs i ≡ Some f → m + length fs ≤ 65280 → f.indexed ≡ true
    → has_key (presence_key n) (of_fields fs m d) ≡ is_there (values_in d n)
fields_presence [] m i n f d e got few on = absurd (cc)
fields_presence (g ∷ fs) m zero n f d e got few on =
    let here : m ≡ n = omega arith in
    let same : g ≡ f = cc in
    has_append (presence_key n) (of_field g m (values_in d m)) (of_fields fs (suc m) d)
    ∙ (ap (λ b. has_key (presence_key n) (of_field g m (values_in d m)) || b) (later_presence fs (suc m) n d (omega arith) (omega arith))
    ∙ (or_false (has_key (presence_key n) (of_field g m (values_in d m)))
    ∙ (ap (λ k. has_key (presence_key n) (of_field g k (values_in d k))) here
    ∙ (ap (λ x. has_key (presence_key n) (of_field x n (values_in d n))) same ∙ field_presence f n (values_in d n) (omega arith) on))))
fields_presence (g ∷ fs) m (suc i) n f d e got few on =
    has_append (presence_key n) (of_field g m (values_in d m)) (of_fields fs (suc m) d)
    ∙ (ap (λ b. b || has_key (presence_key n) (of_fields fs (suc m) d)) (other_presence g m n (values_in d m) (omega arith) (λ x. absurd (omega arith)))
    ∙ fields_presence fs (suc m) i n f d (omega arith) got (omega arith) on)

pub presence_is_key : (s : Schema) (n : ℕ) (f : Field) (d : List DocField) → slice_get s.fields n ≡ Some f → length s.fields ≤ 65280 → f.indexed ≡ true
    → is_there (values_in d n) ≡ has_key (presence_key n) (keys_of s d)
presence_is_key s n f d got few on = sym (fields_presence s.fields 0 n n f d (omega arith) got (omega arith) on)
