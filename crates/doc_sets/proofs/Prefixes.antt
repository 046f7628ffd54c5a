-- A prefix stands in the values of a field exactly where some key of the document begins with the prefix's key.
use Rattle.std.proofs.Common.{◌≡◌, ℕ, suc, ◌/◌, ◌%◌, ◌<◌, ◌≢◌, ◌⊎◌, inl, inr, true, false, ◌||◌, List, [], ◌∷◌, nat_eq, slice_get, Some, refl, ap, sym, ◌∙◌, arith}
use Rattle.std.specs.List.{starts_with}
use Rattle.std.proofs.lemmas.Bool.{cases_eq}
use Rattle.doc_value.specs.declared.schema.Field.{Field}
use Rattle.doc_value.specs.declared.schema.Schema.{Schema}
use Rattle.doc_value.specs.declared.doc.Value.{Value}
use Rattle.doc_value.specs.declared.doc.Value.TheVariants as values
use Rattle.doc_value.specs.declared.doc.DocField.{DocField}
use Rattle.text_tokens.specs.declared.tokens.Token.{Token}
use Rattle.query_ast.specs.FieldTokens.{field_tokens}
use Rattle.query_ast.specs.Meaning.{has_prefix, some_has_prefix}
use Rattle.doc_value.specs.Documents.{values_in}
use Rattle.split_bundle.specs.Keys.{field_key, presence_key, of_tokens, of_values, keys_of}
use Rattle.doc_sets.specs.Asked.{AreTexts, begins}
use Rattle.doc_sets.proofs.FieldKeys.{such_append, in_field}
use Rattle.doc_sets.proofs.KeyTests.{same_number, other_number}

pub begin_same : (n : ℕ) (t u : List ℕ) → starts_with nat_eq (field_key n t) (field_key n u) ≡ starts_with nat_eq t u
begin_same n t u = rw (same_number (n / 256), same_number (n % 256))

pub begin_other : (m n : ℕ) (t u : List ℕ) → m ≢ n → starts_with nat_eq (field_key m t) (field_key n u) ≡ false
begin_other m n t u h = go (cases_eq (m / 256) (n / 256)) (cases_eq (m % 256) (n % 256))
  where
    go : ((m / 256 ≡ n / 256) ⊎ (m / 256 ≢ n / 256)) → ((m % 256 ≡ n % 256) ⊎ (m % 256 ≢ n % 256)) → starts_with nat_eq (field_key m t) (field_key n u) ≡ false
    go (inr ne) _ = rw (other_number (n / 256) (m / 256) (λ e. ne (sym e)))
    go (inl e) (inr ne) = rw (e, same_number (n / 256), other_number (n % 256) (m % 256) (λ x. ne (sym x)))
    go (inl e) (inl d) = absurd (h (omega arith))

pub begin_presence : (m n : ℕ) (u : List ℕ) → n < 65280 → starts_with nat_eq (presence_key m) (field_key n u) ≡ false
begin_presence m n u lt = let ne : n / 256 ≢ 255 = (λ e. absurd (omega arith)) in let h = other_number (n / 256) 255 ne in rw (h)

begin_tokens : (n place : ℕ) (u : List ℕ) (ts : List Token) → begins (field_key n u) (of_tokens n place ts) ≡ has_prefix u ts
begin_tokens n place u [] = refl
begin_tokens n place u (t ∷ ts) = rw (begin_same n t.text u, begin_tokens n place u ts)

begin_values : (f : Field) (n place : ℕ) (u : List ℕ) (vs : List Value) → AreTexts vs → begins (field_key n u) (of_values f n place vs) ≡ some_has_prefix f u vs
begin_values f n place u [] h = refl
begin_values f n place u (values.Text s ∷ vs) h =
    such_append (λ key. starts_with nat_eq key (field_key n u)) (of_tokens n place (field_tokens f s)) (of_values f n (suc place) vs)
    ∙ (ap (λ b. b || begins (field_key n u) (of_values f n (suc place) vs)) (begin_tokens n place u (field_tokens f s))
    ∙ ap (λ b. has_prefix u (field_tokens f s) || b) (begin_values f n (suc place) u vs h))
begin_values f n place u (values.I64 s ∷ vs) h = absurd h
begin_values f n place u (values.U64 s ∷ vs) h = absurd h
begin_values f n place u (values.Bool s ∷ vs) h = absurd h
begin_values f n place u (values.Datetime s ∷ vs) h = absurd h

pub prefix_is_begins : (s : Schema) (n : ℕ) (f : Field) (u : List ℕ) (d : List DocField) → slice_get s.fields n ≡ Some f → n < 65280 → f.indexed ≡ true → AreTexts (values_in d n)
    → some_has_prefix f u (values_in d n) ≡ begins (field_key n u) (keys_of s d)
prefix_is_begins s n f u d got lt on texts =
    sym (in_field (λ key. starts_with nat_eq key (field_key n u)) n (λ m t ne. begin_other m n t u ne) (λ m. begin_presence m n u lt) s f d got on ∙ begin_values f n 0 u (values_in d n) texts)
