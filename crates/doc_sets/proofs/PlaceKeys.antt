-- The places of a field's term among the keys of a document are its places among the tokens of the field's values.
use Rattle.std.proofs.Common.{◌≡◌, ℕ, zero, suc, ◌+◌, ◌<◌, ◌≢◌, Bool, true, false, ◌||◌, List, [], ◌∷◌, ◌++◌, slice_get, Some, if◌then◌else◌, refl, ap, sym, ◌∙◌, arith, append-nil}
use Rattle.std.specs.Str.{bytes_eq}
use Rattle.doc_value.specs.declared.schema.Field.{Field}
use Rattle.doc_value.specs.declared.schema.Schema.{Schema}
use Rattle.doc_value.specs.declared.doc.Value.{Value}
use Rattle.doc_value.specs.declared.doc.Value.TheVariants as values
use Rattle.doc_value.specs.declared.doc.DocField.{DocField}
use Rattle.text_tokens.specs.declared.tokens.Token.{Token}
use Rattle.query_ast.specs.FieldTokens.{field_tokens}
use Rattle.query_ast.specs.Meaning.{tokens_in, has_token, some_has_token}
use Rattle.doc_value.specs.Documents.{values_in}
use Rattle.doc_value.specs.Terms.{term_bytes}
use Rattle.split_bundle.specs.Keys.{Occurrence, field_key, value_place, of_tokens, of_value, of_values, of_presence, of_field, of_fields, keys_of}
use Rattle.split_bundle.specs.Lists.{has_key, places_of}
use Rattle.doc_sets.specs.Asked.{token_places, term_places, AreTexts}
use Rattle.doc_sets.proofs.KeyTests.{same_field, other_field, no_presence}

pub places_append : (key : List ℕ) (xs ys : List Occurrence) → places_of key (xs ++ ys) ≡ places_of key xs ++ places_of key ys
places_append key [] ys = refl
places_append key (x ∷ xs) ys = go (bytes_eq x.key key) (places_append key xs ys)
  where
    go : (b : Bool) → places_of key (xs ++ ys) ≡ places_of key xs ++ places_of key ys → (if b then x.place ∷ places_of key (xs ++ ys) else places_of key (xs ++ ys)) ≡ (if b then x.place ∷ places_of key xs else places_of key xs) ++ places_of key ys
    go true h = ap (λ ps. x.place ∷ ps) h
    go false h = h

-- the tokens of a field's value
places_tokens : (n place : ℕ) (term : List ℕ) (ts : List Token) → places_of (field_key n term) (of_tokens n place ts) ≡ token_places term place ts
places_tokens n place term [] = refl
places_tokens n place term (t ∷ ts) = rw (same_field n t.text term, places_tokens n place term ts)

places_values : (f : Field) (n place : ℕ) (term : List ℕ) (vs : List Value) → AreTexts vs → places_of (field_key n term) (of_values f n place vs) ≡ term_places f term place vs
places_values f n place term [] h = refl
places_values f n place term (values.Text s ∷ vs) h =
    places_append (field_key n term) (of_tokens n place (field_tokens f s)) (of_values f n (suc place) vs)
    ∙ (ap (λ ps. ps ++ places_of (field_key n term) (of_values f n (suc place) vs)) (places_tokens n place term (field_tokens f s))
    ∙ ap (λ ps. token_places term place (field_tokens f s) ++ ps) (places_values f n (suc place) term vs h))
places_values f n place term (values.I64 s ∷ vs) h = absurd h
places_values f n place term (values.U64 s ∷ vs) h = absurd h
places_values f n place term (values.Bool s ∷ vs) h = absurd h
places_values f n place term (values.Datetime s ∷ vs) h = absurd h

-- no key of another field
other_tokens : (m n place : ℕ) (term : List ℕ) (ts : List Token) → m ≢ n → places_of (field_key n term) (of_tokens m place ts) ≡ []
other_tokens m n place term [] ne = refl
other_tokens m n place term (t ∷ ts) ne = rw (other_field m n t.text term ne, other_tokens m n place term ts ne)

other_value : (f : Field) (m n place : ℕ) (term : List ℕ) (v : Value) → m ≢ n → places_of (field_key n term) (of_value f m place v) ≡ []
other_value f m n place term (values.Text s) ne = other_tokens m n place term (field_tokens f s) ne
other_value f m n place term (values.I64 s) ne = rw (other_field m n (term_bytes (values.I64 s)) term ne)
other_value f m n place term (values.U64 s) ne = rw (other_field m n (term_bytes (values.U64 s)) term ne)
other_value f m n place term (values.Bool s) ne = rw (other_field m n (term_bytes (values.Bool s)) term ne)
other_value f m n place term (values.Datetime s) ne = rw (other_field m n (term_bytes (values.Datetime s)) term ne)

other_values : (f : Field) (m n place : ℕ) (term : List ℕ) (vs : List Value) → m ≢ n → places_of (field_key n term) (of_values f m place vs) ≡ []
other_values f m n place term [] ne = refl
other_values f m n place term (v ∷ vs) ne =
    places_append (field_key n term) (of_value f m place v) (of_values f m (suc place) vs)
    ∙ (ap (λ ps. ps ++ places_of (field_key n term) (of_values f m (suc place) vs)) (other_value f m n place term v ne) ∙ other_values f m n (suc place) term vs ne)

presence_places : (m n : ℕ) (term : List ℕ) (vs : List Value) → n < 65280 → places_of (field_key n term) (of_presence m vs) ≡ []
presence_places m n term [] lt = refl
presence_places m n term (v ∷ vs) lt = rw (no_presence m n term lt)

field_places : (f : Field) (m n : ℕ) (term : List ℕ) (vs : List Value) → n < 65280 → f.indexed ≡ true → places_of (field_key n term) (of_field f m vs) ≡ places_of (field_key n term) (of_values f m 0 vs)
field_places f m n term vs lt on = rw on
    (places_append (field_key n term) (of_presence m vs) (of_values f m 0 vs)
    ∙ ap (λ ps. ps ++ places_of (field_key n term) (of_values f m 0 vs)) (presence_places m n term vs lt))

other_field_places : (f : Field) (m n : ℕ) (term : List ℕ) (vs : List Value) → n < 65280 → m ≢ n → places_of (field_key n term) (of_field f m vs) ≡ []
other_field_places f m n term vs lt ne = go f.indexed
  where
    go : (b : Bool) → places_of (field_key n term) (if b then of_presence m vs ++ of_values f m 0 vs else []) ≡ []
    go false = refl
    go true = places_append (field_key n term) (of_presence m vs) (of_values f m 0 vs)
        ∙ (ap (λ ps. ps ++ places_of (field_key n term) (of_values f m 0 vs)) (presence_places m n term vs lt) ∙ other_values f m n 0 term vs ne)

-- fields behind the one with the number
later_fields : (fs : List Field) (m n : ℕ) (term : List ℕ) (d : List DocField) → n < 65280 → n < m → places_of (field_key n term) (of_fields fs m d) ≡ []
later_fields [] m n term d lt below = refl
later_fields (f ∷ fs) m n term d lt below =
    places_append (field_key n term) (of_field f m (values_in d m)) (of_fields fs (suc m) d)
    ∙ (ap (λ ps. ps ++ places_of (field_key n term) (of_fields fs (suc m) d)) (other_field_places f m n term (values_in d m) lt (λ e. absurd (omega arith)))
    ∙ later_fields fs (suc m) n term d lt (omega arith))

pub fields_places : (fs : List Field) (m i n : ℕ) (f : Field) (term : List ℕ) (d : List DocField) → n ≡ m + i → slice_get fs i ≡ Some f → n < 65280 → f.indexed ≡ true
    → places_of (field_key n term) (of_fields fs m d) ≡ places_of (field_key n term) (of_values f n 0 (values_in d n))
fields_places [] m i n f term d e got lt on = absurd (cc)
fields_places (g ∷ fs) m zero n f term d e got lt on =
    let here : m ≡ n = omega arith in
    let same : g ≡ f = cc in
    places_append (field_key n term) (of_field g m (values_in d m)) (of_fields fs (suc m) d)
    ∙ (ap (λ ps. places_of (field_key n term) (of_field g m (values_in d m)) ++ ps) (later_fields fs (suc m) n term d lt (omega arith))
    ∙ (append-nil _ ∙ (ap (λ k. places_of (field_key n term) (of_field g k (values_in d k))) here
    ∙ (ap (λ x. places_of (field_key n term) (of_field x n (values_in d n))) same ∙ field_places f n n term (values_in d n) lt on))))
fields_places (g ∷ fs) m (suc i) n f term d e got lt on =
    places_append (field_key n term) (of_field g m (values_in d m)) (of_fields fs (suc m) d)
    ∙ (ap (λ ps. ps ++ places_of (field_key n term) (of_fields fs (suc m) d)) (other_field_places g m n term (values_in d m) lt (λ x. absurd (omega arith)))
    ∙ fields_places fs (suc m) i n f term d (omega arith) got lt on)

-- the places of a term of a field of texts
pub places_are : (s : Schema) (n : ℕ) (f : Field) (term : List ℕ) (d : List DocField) → slice_get s.fields n ≡ Some f → n < 65280 → f.indexed ≡ true → AreTexts (values_in d n)
    → places_of (field_key n term) (keys_of s d) ≡ term_places f term 0 (values_in d n)
places_are s n f term d got lt on texts = fields_places s.fields 0 n n f term d (omega arith) got lt on ∙ places_values f n 0 term (values_in d n) texts

-- whether there is a place
abbrev pub some_place : List ℕ → Bool
some_place [] = false
some_place (p ∷ ps) = true

some_append : (xs ys : List ℕ) → some_place (xs ++ ys) ≡ some_place xs || some_place ys
some_append [] ys = refl
some_append (x ∷ xs) ys = refl

pub has_place : (key : List ℕ) (os : List Occurrence) → has_key key os ≡ some_place (places_of key os)
has_place key [] = refl
has_place key (o ∷ os) = go (bytes_eq o.key key) (has_place key os)
  where
    go : (b : Bool) → has_key key os ≡ some_place (places_of key os) → b || has_key key os ≡ some_place (if b then o.place ∷ places_of key os else places_of key os)
    go true h = refl
    go false h = h

some_token : (term : List ℕ) (place : ℕ) (ts : List Token) → some_place (token_places term place ts) ≡ has_token term ts
some_token term place [] = refl
some_token term place (t ∷ ts) = go (bytes_eq t.text term) (some_token term place ts)
  where
    go : (b : Bool) → some_place (token_places term place ts) ≡ has_token term ts → some_place (if b then value_place place t.position ∷ token_places term place ts else token_places term place ts) ≡ b || has_token term ts
    go true h = refl
    go false h = h

some_term : (f : Field) (term : List ℕ) (place : ℕ) (vs : List Value) → some_place (term_places f term place vs) ≡ some_has_token f term vs
some_term f term place [] = refl
some_term f term place (v ∷ vs) =
    some_append (token_places term place (tokens_in f v)) (term_places f term (suc place) vs)
    ∙ (ap (λ b. b || some_place (term_places f term (suc place) vs)) (some_token term place (tokens_in f v))
    ∙ ap (λ b. has_token term (tokens_in f v) || b) (some_term f term (suc place) vs))

-- a word of one token stands in the document exactly where it has the token's key
pub token_is_key : (s : Schema) (n : ℕ) (f : Field) (term : List ℕ) (d : List DocField) → slice_get s.fields n ≡ Some f → n < 65280 → f.indexed ≡ true → AreTexts (values_in d n)
    → some_has_token f term (values_in d n) ≡ has_key (field_key n term) (keys_of s d)
token_is_key s n f term d got lt on texts =
    sym (some_term f term 0 (values_in d n)) ∙ (ap some_place (sym (places_are s n f term d got lt on texts)) ∙ sym (has_place (field_key n term) (keys_of s d)))
