-- A value that is no text stands in a document exactly where the document has the value's key.
use Rattle.std.proofs.Common.{◌≡◌, ℕ, ℤ, pos, negsuc, suc, ◌^◌, ◌<◌, Bool, true, false, ◌&&◌, ◌||◌, ◌==◌, List, [], ◌∷◌, slice_get, Some, int_le, refl, ap, sym, ◌∙◌, arith, w64, eq-eqb}
use Rattle.std.specs.Str.{bytes_eq}
use Rattle.std.specs.Int.{to_be_bytes, from_be_bytes}
use Rattle.std.specs.Int.RustNames.{FitsSigned}
use Rattle.std.proofs.lemmas.Bool.{eqb-true}
use Rattle.std.proofs.lemmas.Int.{ints}
use Rattle.std.proofs.lemmas.Slice.Eq.{bytes_eq-Decides}
use Rattle.std.proofs.lemmas.Nat.{from_be_bytes-to_be_bytes_8}
use Rattle.doc_value.specs.declared.schema.Field.{Field}
use Rattle.doc_value.specs.declared.schema.Kind.{Kind}
use Rattle.doc_value.specs.declared.schema.Kind.TheVariants as kinds
use Rattle.doc_value.specs.declared.schema.Schema.{Schema}
use Rattle.doc_value.specs.declared.doc.Value.{Value}
use Rattle.doc_value.specs.declared.doc.Value.TheVariants as values
use Rattle.doc_value.specs.declared.doc.DocField.{DocField}
use Rattle.doc_value.specs.Documents.{IsOfKind, AreOfKind, values_in}
use Rattle.doc_value.specs.Terms.{term_bytes, turned, truth_byte}
use Rattle.query_ast.specs.Meaning.{is_text, same_value, equals_some}
use Rattle.split_bundle.specs.Keys.{field_key, of_value, of_values, keys_of}
use Rattle.split_bundle.specs.Lists.{has_key}
use Rattle.doc_sets.specs.Values.{Has64, AllHave64}
use Rattle.doc_sets.proofs.KeyTests.{same_field}
use Rattle.doc_sets.proofs.PhraseKeys.{alike}
use Rattle.doc_sets.proofs.PlaceKeys.{fields_places, has_place, some_place}
use Rattle.doc_sets.proofs.Presence.{has_append}

bytes_same : (a b : List ℕ) → bytes_eq a b ≡ true → a ≡ b
bytes_same a b h = (bytes_eq-Decides a b).0 h

same_bytes : (a b : List ℕ) → a ≡ b → bytes_eq a b ≡ true
same_bytes a b h = (bytes_eq-Decides a b).1 h

-- numbers of 64 bits have the same bytes exactly where they are equal
word_test : (a b : ℕ) → a < 2 ^ 64 → b < 2 ^ 64 → bytes_eq (to_be_bytes w64 a) (to_be_bytes w64 b) ≡ (a == b)
word_test a b la lb = alike (bytes_eq (to_be_bytes w64 a) (to_be_bytes w64 b)) (a == b)
    (λ h. eq-eqb a b (sym (from_be_bytes-to_be_bytes_8 a la) ∙ (ap (λ x. from_be_bytes w64 x) (bytes_same (to_be_bytes w64 a) (to_be_bytes w64 b) h) ∙ from_be_bytes-to_be_bytes_8 b lb)))
    (λ h. same_bytes (to_be_bytes w64 a) (to_be_bytes w64 b) (ap (λ x. to_be_bytes w64 x) (eqb-true a b h)))

pub turned_fits : (z : ℤ) → FitsSigned w64 z → turned z < 2 ^ 64
turned_fits (pos n) h = omega (arith, h)
turned_fits (negsuc n) h = omega (arith, h)

turned_same : (a b : ℤ) → FitsSigned w64 a → FitsSigned w64 b → turned a ≡ turned b → a ≡ b
turned_same (pos a) (pos b) fa fb e = let same : a ≡ b = omega (arith, e) in ap pos same
turned_same (negsuc a) (negsuc b) fa fb e = let same : a ≡ b = omega (arith, e, fa, fb) in ap negsuc same
turned_same (pos a) (negsuc b) fa fb e = absurd (omega (arith, e, fb))
turned_same (negsuc a) (pos b) fa fb e = absurd (omega (arith, e, fa))

int_same : (a b : ℤ) → (int_le a b && int_le b a) ≡ true → a ≡ b
int_same a b h = grind (arith, ints)

same_int : (a b : ℤ) → a ≡ b → (int_le a b && int_le b a) ≡ true
same_int a b h = grind (arith, ints)

signed_test : (a b : ℤ) → FitsSigned w64 a → FitsSigned w64 b → bytes_eq (to_be_bytes w64 (turned a)) (to_be_bytes w64 (turned b)) ≡ (int_le a b && int_le b a)
signed_test a b fa fb = alike (bytes_eq (to_be_bytes w64 (turned a)) (to_be_bytes w64 (turned b))) (int_le a b && int_le b a)
    (λ h. same_int a b (turned_same a b fa fb (eqb-true (turned a) (turned b) (sym (word_test (turned a) (turned b) (turned_fits a fa) (turned_fits b fb)) ∙ h))))
    (λ h. same_bytes (to_be_bytes w64 (turned a)) (to_be_bytes w64 (turned b)) (ap (λ z. to_be_bytes w64 (turned z)) (int_same a b h)))

truth_test : (a b : Bool) → bytes_eq (truth_byte a ∷ []) (truth_byte b ∷ []) ≡ same_value (values.Bool a) (values.Bool b)
truth_test false false = refl
truth_test false true = refl
truth_test true false = refl
truth_test true true = refl

-- values of one kind that is no text
term_test : (k : Kind) (v w : Value) → is_text k ≡ false → IsOfKind k v → IsOfKind k w → Has64 v → Has64 w → bytes_eq (term_bytes v) (term_bytes w) ≡ same_value v w
term_test kinds.I64 (values.I64 a) (values.I64 b) no_text of_v of_w fv fw = signed_test a b fv fw
term_test kinds.I64 (values.I64 a) _ no_text of_v of_w fv fw = absurd of_w
term_test kinds.I64 _ w no_text of_v of_w fv fw = absurd of_v
term_test kinds.Datetime (values.Datetime a) (values.Datetime b) no_text of_v of_w fv fw = signed_test a b fv fw
term_test kinds.Datetime (values.Datetime a) _ no_text of_v of_w fv fw = absurd of_w
term_test kinds.Datetime _ w no_text of_v of_w fv fw = absurd of_v
term_test kinds.U64 (values.U64 a) (values.U64 b) no_text of_v of_w fv fw = word_test a b fv fw
term_test kinds.U64 (values.U64 a) _ no_text of_v of_w fv fw = absurd of_w
term_test kinds.U64 _ w no_text of_v of_w fv fw = absurd of_v
term_test kinds.Bool (values.Bool a) (values.Bool b) no_text of_v of_w fv fw = truth_test a b
term_test kinds.Bool (values.Bool a) _ no_text of_v of_w fv fw = absurd of_w
term_test kinds.Bool _ w no_text of_v of_w fv fw = absurd of_v
term_test kinds.Text v w no_text of_v of_w fv fw = absurd (let x : true ≡ false = no_text in cc)
term_test kinds.TextList v w no_text of_v of_w fv fw = absurd (let x : true ≡ false = no_text in cc)

no_text_of : (k : Kind) (t : List ℕ) → is_text k ≡ false → IsOfKind k (values.Text t) → ⊥
no_text_of kinds.Text t no_text of_v = let x : true ≡ false = no_text in cc
no_text_of kinds.TextList t no_text of_v = let x : true ≡ false = no_text in cc
no_text_of kinds.I64 t no_text of_v = of_v
no_text_of kinds.U64 t no_text of_v = of_v
no_text_of kinds.Bool t no_text of_v = of_v
no_text_of kinds.Datetime t no_text of_v = of_v

or_false : (a : Bool) → a || false ≡ a
or_false true = refl
or_false false = refl

one_term : (k : Kind) (n : ℕ) (v w : Value) → is_text k ≡ false → IsOfKind k v → IsOfKind k w → Has64 v → Has64 w
    → bytes_eq (field_key n (term_bytes v)) (field_key n (term_bytes w)) || false ≡ same_value v w
one_term k n v w no_text of_v of_w fv fw = or_false (bytes_eq (field_key n (term_bytes v)) (field_key n (term_bytes w))) ∙ (same_field n (term_bytes v) (term_bytes w) ∙ term_test k v w no_text of_v of_w fv fw)

one_value : (k : Kind) (f : Field) (n place : ℕ) (v w : Value) → is_text k ≡ false → IsOfKind k v → IsOfKind k w → Has64 v → Has64 w
    → has_key (field_key n (term_bytes w)) (of_value f n place v) ≡ same_value v w
one_value k f n place (values.Text t) w no_text of_v of_w fv fw = absurd (no_text_of k t no_text of_v)
one_value k f n place (values.I64 z) w no_text of_v of_w fv fw = one_term k n (values.I64 z) w no_text of_v of_w fv fw
one_value k f n place (values.U64 z) w no_text of_v of_w fv fw = one_term k n (values.U64 z) w no_text of_v of_w fv fw
one_value k f n place (values.Bool z) w no_text of_v of_w fv fw = one_term k n (values.Bool z) w no_text of_v of_w fv fw
one_value k f n place (values.Datetime z) w no_text of_v of_w fv fw = one_term k n (values.Datetime z) w no_text of_v of_w fv fw

has_values : (k : Kind) (f : Field) (n place : ℕ) (w : Value) (vs : List Value) → is_text k ≡ false → AreOfKind k vs → IsOfKind k w → AllHave64 vs → Has64 w
    → has_key (field_key n (term_bytes w)) (of_values f n place vs) ≡ equals_some (Some w) vs
has_values k f n place w [] no_text of_vs of_w fvs fw = refl
has_values k f n place w (v ∷ vs) no_text of_vs of_w fvs fw =
    has_append (field_key n (term_bytes w)) (of_value f n place v) (of_values f n (suc place) vs)
    ∙ (ap (λ b. b || has_key (field_key n (term_bytes w)) (of_values f n (suc place) vs)) (one_value k f n place v w no_text of_vs.0 of_w fvs.0 fw)
    ∙ ap (λ b. same_value v w || b) (has_values k f n (suc place) w vs no_text of_vs.1 of_w fvs.1 fw))

pub value_is_key : (s : Schema) (n : ℕ) (f : Field) (w : Value) (d : List DocField) → slice_get s.fields n ≡ Some f → n < 65280 → f.indexed ≡ true → is_text f.kind ≡ false
    → AreOfKind f.kind (values_in d n) → IsOfKind f.kind w → AllHave64 (values_in d n) → Has64 w
    → equals_some (Some w) (values_in d n) ≡ has_key (field_key n (term_bytes w)) (keys_of s d)
value_is_key s n f w d got lt on no_text of_vs of_w fvs fw =
    let key : List ℕ = field_key n (term_bytes w) in
    sym (has_values f.kind f n 0 w (values_in d n) no_text of_vs of_w fvs fw)
    ∙ (has_place key (of_values f n 0 (values_in d n))
    ∙ (ap some_place (sym (fields_places s.fields 0 n n f (term_bytes w) d (omega arith) got lt on))
    ∙ sym (has_place key (keys_of s d))))
