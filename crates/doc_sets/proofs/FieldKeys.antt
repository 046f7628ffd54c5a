-- A test that only keys of one field pass holds of a document's keys exactly where it holds of those of the field's values.
use Rattle.std.proofs.Common.{◌≡◌, ℕ, zero, suc, ◌+◌, ◌<◌, ◌≢◌, Bool, true, false, ◌||◌, List, [], ◌∷◌, ◌++◌, slice_get, Some, if◌then◌else◌, refl, ap, ◌∙◌, arith}
use Rattle.doc_value.specs.declared.schema.Field.{Field}
use Rattle.doc_value.specs.declared.schema.Schema.{Schema}
use Rattle.doc_value.specs.declared.doc.Value.{Value}
use Rattle.doc_value.specs.declared.doc.Value.TheVariants as values
use Rattle.doc_value.specs.declared.doc.DocField.{DocField}
use Rattle.doc_value.specs.Terms.{term_bytes}
use Rattle.text_tokens.specs.declared.tokens.Token.{Token}
use Rattle.query_ast.specs.FieldTokens.{field_tokens}
use Rattle.doc_value.specs.Documents.{values_in}
use Rattle.split_bundle.specs.Keys.{Occurrence, field_key, presence_key, of_tokens, of_value, of_values, of_presence, of_field, of_fields, keys_of}
use Rattle.doc_sets.specs.Asked.{such}

or_group : (a b r : Bool) → a || (b || r) ≡ (a || b) || r
or_group true b r = refl
or_group false b r = refl

or_false : (a : Bool) → a || false ≡ a
or_false true = refl
or_false false = refl

pub such_append : (test : List ℕ → Bool) (xs ys : List Occurrence) → such test (xs ++ ys) ≡ such test xs || such test ys
such_append test [] ys = refl
such_append test (x ∷ xs) ys = ap (λ b. test x.key || b) (such_append test xs ys) ∙ or_group (test x.key) (such test xs) (such test ys)

-- tests that agree on each key
pub such_alike : (test more : List ℕ → Bool) (os : List Occurrence) → ((key : List ℕ) → test key ≡ more key) → such test os ≡ such more os
such_alike test more [] same = refl
such_alike test more (o ∷ os) same = ap (λ b. b || such test os) (same o.key) ∙ ap (λ b. more o.key || b) (such_alike test more os same)

module _ (test : List ℕ → Bool) (n : ℕ) (other : (m : ℕ) (t : List ℕ) → m ≢ n → test (field_key m t) ≡ false) (absent : (m : ℕ) → test (presence_key m) ≡ false) where
  no_tokens : (m place : ℕ) (ts : List Token) → m ≢ n → such test (of_tokens m place ts) ≡ false
  no_tokens m place [] ne = refl
  no_tokens m place (t ∷ ts) ne = rw (other m t.text ne, no_tokens m place ts ne)

  no_value : (f : Field) (m place : ℕ) (v : Value) → m ≢ n → such test (of_value f m place v) ≡ false
  no_value f m place (values.Text s) ne = no_tokens m place (field_tokens f s) ne
  no_value f m place (values.I64 s) ne = rw (other m (term_bytes (values.I64 s)) ne)
  no_value f m place (values.U64 s) ne = rw (other m (term_bytes (values.U64 s)) ne)
  no_value f m place (values.Bool s) ne = rw (other m (term_bytes (values.Bool s)) ne)
  no_value f m place (values.Datetime s) ne = rw (other m (term_bytes (values.Datetime s)) ne)

  no_values : (f : Field) (m place : ℕ) (vs : List Value) → m ≢ n → such test (of_values f m place vs) ≡ false
  no_values f m place [] ne = refl
  no_values f m place (v ∷ vs) ne =
      such_append test (of_value f m place v) (of_values f m (suc place) vs)
      ∙ (ap (λ b. b || such test (of_values f m (suc place) vs)) (no_value f m place v ne) ∙ no_values f m (suc place) vs ne)

  no_presence : (m : ℕ) (vs : List Value) → such test (of_presence m vs) ≡ false
  no_presence m [] = refl
  no_presence m (v ∷ vs) = rw (absent m)

  of_this : (f : Field) (vs : List Value) → f.indexed ≡ true → such test (of_field f n vs) ≡ such test (of_values f n 0 vs)
  of_this f vs on = rw on
      (such_append test (of_presence n vs) (of_values f n 0 vs) ∙ ap (λ b. b || such test (of_values f n 0 vs)) (no_presence n vs))

  no_field : (f : Field) (m : ℕ) (vs : List Value) → m ≢ n → such test (of_field f m vs) ≡ false
  no_field f m vs ne = go f.indexed
    where
      go : (b : Bool) → such test (if b then of_presence m vs ++ of_values f m 0 vs else []) ≡ false
      go false = refl
      go true = such_append test (of_presence m vs) (of_values f m 0 vs)
          ∙ (ap (λ b. b || such test (of_values f m 0 vs)) (no_presence m vs) ∙ no_values f m 0 vs ne)

  no_later : (fs : List Field) (m : ℕ) (d : List DocField) → n < m → such test (of_fields fs m d) ≡ false
  no_later [] m d below = refl
  no_later (f ∷ fs) m d below =
      such_append test (of_field f m (values_in d m)) (of_fields fs (suc m) d)
      ∙ (ap (λ b. b || such test (of_fields fs (suc m) d)) (no_field f m (values_in d m) (λ e. absurd (omega arith)))
      ∙ no_later fs (suc m) d (omega arith))

  in_fields : (fs : List Field) (m i : ℕ) (f : Field) (d : List DocField) → n ≡ m + i → slice_get fs i ≡ Some f → f.indexed ≡ true
      → such test (of_fields fs m d) ≡ such test (of_values f n 0 (values_in d n))
  in_fields [] m i f d e got on = absurd (cc)
  in_fields (g ∷ fs) m zero f d e got on =
      let here : m ≡ n = omega arith in
      let same : g ≡ f = cc in
      such_append test (of_field g m (values_in d m)) (of_fields fs (suc m) d)
      ∙ (ap (λ b. such test (of_field g m (values_in d m)) || b) (no_later fs (suc m) d (omega arith))
      ∙ (or_false (such test (of_field g m (values_in d m))) ∙ (ap (λ k. such test (of_field g k (values_in d k))) here
      ∙ (ap (λ x. such test (of_field x n (values_in d n))) same ∙ of_this f (values_in d n) on))))
  in_fields (g ∷ fs) m (suc i) f d e got on =
      such_append test (of_field g m (values_in d m)) (of_fields fs (suc m) d)
      ∙ (ap (λ b. b || such test (of_fields fs (suc m) d)) (no_field g m (values_in d m) (λ x. absurd (omega arith)))
      ∙ in_fields fs (suc m) i f d (omega arith) got on)

  pub in_field : (s : Schema) (f : Field) (d : List DocField) → slice_get s.fields n ≡ Some f → f.indexed ≡ true → such test (keys_of s d) ≡ such test (of_values f n 0 (values_in d n))
  in_field s f d got on = in_fields s.fields 0 n f d (omega arith) got on
