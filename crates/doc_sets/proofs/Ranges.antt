-- A value lies between two edges exactly where its number does.
use Rattle.std.proofs.Common.{◌≡◌, ℕ, ℤ, pos, negsuc, suc, ◌+◌, ◌^◌, ◌<◌, ◌≤◌, ◌≢◌, Bool, true, false, ◌&&◌, ◌||◌, ◌==◌, nat_le, nat_lt, int_le, int_lt, List, [], ◌∷◌, length, slice_get, Some, None, refl, ap, sym, ◌∙◌, arith, w64}
use Rattle.std.specs.Int.{to_be_bytes, from_be_bytes}
use Rattle.std.specs.Int.RustNames.{FitsSigned}
use Rattle.std.proofs.lemmas.Bool.Decides.{nat_tests}
use Rattle.std.proofs.lemmas.Int.{ints}
use Rattle.std.proofs.lemmas.Nat.{from_be_bytes-to_be_bytes_8}
use Rattle.doc_value.specs.declared.schema.Field.{Field}
use Rattle.doc_value.specs.declared.schema.Kind.{Kind}
use Rattle.doc_value.specs.declared.schema.Kind.TheVariants as kinds
use Rattle.doc_value.specs.declared.schema.Schema.{Schema}
use Rattle.doc_value.specs.declared.doc.Value.{Value}
use Rattle.doc_value.specs.declared.doc.Value.TheVariants as values
use Rattle.doc_value.specs.declared.doc.DocField.{DocField}
use Rattle.doc_value.specs.Documents.{IsOfKind, AreOfKind, values_in}
use Rattle.doc_value.specs.Terms.{term_bytes, turned}
use Rattle.query_ast.specs.declared.query.Edge.{Edge}
use Rattle.query_ast.specs.declared.query.Edge.TheVariants as edges
use Rattle.query_ast.specs.Meaning.{value_below, same_value, is_above, is_below, between}
use Rattle.query_ast.specs.Queries.{has_order}
use Rattle.split_bundle.specs.Keys.{field_key, presence_key, of_value, of_values, keys_of}
use Rattle.doc_sets.specs.Asked.{such}
use Rattle.doc_sets.specs.Values.{Has64, AllHave64, EdgeHas64}
use Rattle.doc_sets.specs.Walks.{place_of, from_of, until_of, range_of, is_within, is_walked}
use Rattle.doc_sets.specs.declared.wanted.Wanted.TheVariants.{Within}
use Rattle.doc_sets.proofs.FieldKeys.{such_append, in_field}
use Rattle.doc_sets.proofs.PhraseKeys.{alike}
use Rattle.doc_sets.proofs.Prefixes.{begin_same, begin_other, begin_presence}
use Rattle.doc_sets.proofs.ValueKeys.{turned_fits}

le_of : (a b : ℕ) → nat_le a b ≡ true → a ≤ b
le_of a b h = grind (arith, nat_tests)

of_le : (a b : ℕ) → a ≤ b → nat_le a b ≡ true
of_le a b h = grind (arith, nat_tests)

lt_of : (a b : ℕ) → nat_lt a b ≡ true → a < b
lt_of a b h = grind (arith, nat_tests)

of_lt : (a b : ℕ) → a < b → nat_lt a b ≡ true
of_lt a b h = grind (arith, nat_tests)

int_le_turned : (a b : ℤ) → FitsSigned w64 a → FitsSigned w64 b → int_le a b ≡ true → turned a ≤ turned b
int_le_turned (pos a) (pos b) fa fb h = grind (arith, ints)
int_le_turned (negsuc a) (negsuc b) fa fb h = grind (arith, ints)
int_le_turned (pos a) (negsuc b) fa fb h = grind (arith, ints)
int_le_turned (negsuc a) (pos b) fa fb h = grind (arith, ints)

turned_int_le : (a b : ℤ) → FitsSigned w64 a → FitsSigned w64 b → turned a ≤ turned b → int_le a b ≡ true
turned_int_le (pos a) (pos b) fa fb h = grind (arith, ints)
turned_int_le (negsuc a) (negsuc b) fa fb h = grind (arith, ints)
turned_int_le (pos a) (negsuc b) fa fb h = grind (arith, ints)
turned_int_le (negsuc a) (pos b) fa fb h = grind (arith, ints)

-- signed numbers stand as their turned ones do
turned_le : (a b : ℤ) → FitsSigned w64 a → FitsSigned w64 b → nat_le (turned a) (turned b) ≡ int_le a b
turned_le a b fa fb = alike (nat_le (turned a) (turned b)) (int_le a b) (λ h. turned_int_le a b fa fb (le_of (turned a) (turned b) h)) (λ h. of_le (turned a) (turned b) (int_le_turned a b fa fb h))

int_lt_turned : (a b : ℤ) → FitsSigned w64 a → FitsSigned w64 b → int_lt a b ≡ true → turned a < turned b
int_lt_turned (pos a) (pos b) fa fb h = grind (arith, ints)
int_lt_turned (negsuc a) (negsuc b) fa fb h = grind (arith, ints)
int_lt_turned (pos a) (negsuc b) fa fb h = grind (arith, ints)
int_lt_turned (negsuc a) (pos b) fa fb h = grind (arith, ints)

turned_int_lt : (a b : ℤ) → FitsSigned w64 a → FitsSigned w64 b → turned a < turned b → int_lt a b ≡ true
turned_int_lt (pos a) (pos b) fa fb h = grind (arith, ints)
turned_int_lt (negsuc a) (negsuc b) fa fb h = grind (arith, ints)
turned_int_lt (pos a) (negsuc b) fa fb h = grind (arith, ints)
turned_int_lt (negsuc a) (pos b) fa fb h = grind (arith, ints)

turned_lt : (a b : ℤ) → FitsSigned w64 a → FitsSigned w64 b → nat_lt (turned a) (turned b) ≡ int_lt a b
turned_lt a b fa fb = alike (nat_lt (turned a) (turned b)) (int_lt a b) (λ h. turned_int_lt a b fa fb (lt_of (turned a) (turned b) h)) (λ h. of_lt (turned a) (turned b) (int_lt_turned a b fa fb h))

int_or : (a b : ℤ) → int_le a b ≡ int_lt a b || (int_le a b && int_le b a)
int_or a b = grind (arith, ints)

nat_or : (a b : ℕ) → nat_le a b ≡ nat_lt a b || (a == b)
nat_or a b = grind (arith, nat_tests)

next_le : (a b : ℕ) → nat_le (a + 1) b ≡ nat_lt a b
next_le a b = grind (arith, nat_tests)

lt_next : (a b : ℕ) → nat_lt a (b + 1) ≡ nat_le a b
lt_next a b = grind (arith, nat_tests)

too_high : (a : ℕ) → a < 2 ^ 64 → nat_le (2 ^ 64) a ≡ false
too_high a lt = grind (arith, nat_tests)

in_type : (a : ℕ) → a < 2 ^ 64 → nat_lt a (2 ^ 64) ≡ true
in_type a lt = grind (arith, nat_tests)

none_below : (a : ℕ) → nat_lt a 0 ≡ false
none_below a = grind (arith, nat_tests)

all_above : (a : ℕ) → nat_le 0 a ≡ true
all_above a = grind (arith, nat_tests)

-- the number of a value of an ordered kind
abbrev pub number_of : Value → ℕ
number_of (values.I64 z) = turned z
number_of (values.U64 n) = n
number_of (values.Datetime z) = turned z
number_of _ = 0

pub number_fits : (v : Value) → Has64 v → number_of v < 2 ^ 64
number_fits (values.I64 z) h = turned_fits z h
number_fits (values.U64 n) h = h
number_fits (values.Datetime z) h = turned_fits z h
number_fits (values.Bool b) h = omega arith
number_fits (values.Text t) h = omega arith

-- a value of another kind stands neither below nor beside a number
unlike_i64 : (w : Value) (z : ℤ) → place_of kinds.I64 w ≡ None → (value_below w (values.I64 z) || same_value w (values.I64 z)) ≡ false
unlike_i64 (values.Text t) z e = refl
unlike_i64 (values.I64 y) z e = absurd (cc)
unlike_i64 (values.U64 y) z e = refl
unlike_i64 (values.Bool true) z e = refl
unlike_i64 (values.Bool false) z e = refl
unlike_i64 (values.Datetime y) z e = refl

unlike_datetime : (w : Value) (z : ℤ) → place_of kinds.Datetime w ≡ None → (value_below w (values.Datetime z) || same_value w (values.Datetime z)) ≡ false
unlike_datetime (values.Text t) z e = refl
unlike_datetime (values.I64 y) z e = refl
unlike_datetime (values.U64 y) z e = refl
unlike_datetime (values.Bool true) z e = refl
unlike_datetime (values.Bool false) z e = refl
unlike_datetime (values.Datetime y) z e = absurd (cc)

unlike_u64 : (w : Value) (n : ℕ) → place_of kinds.U64 w ≡ None → (value_below w (values.U64 n) || same_value w (values.U64 n)) ≡ false
unlike_u64 (values.Text t) n e = refl
unlike_u64 (values.I64 y) n e = refl
unlike_u64 (values.U64 y) n e = absurd (cc)
unlike_u64 (values.Bool true) n e = refl
unlike_u64 (values.Bool false) n e = refl
unlike_u64 (values.Datetime y) n e = refl

pub above : (k : Kind) (low : Edge) (v : Value) → has_order k ≡ true → IsOfKind k v → Has64 v → EdgeHas64 low → nat_le (from_of k low) (number_of v) ≡ is_above low v
above k edges.Unbounded v ordered of_kind fits edge = all_above (number_of v)
above kinds.I64 (edges.Included (values.I64 e)) (values.I64 z) ordered of_kind fits edge = turned_le e z edge fits ∙ int_or e z
above kinds.I64 (edges.Included w) (values.I64 z) ordered of_kind fits edge = too_high (turned z) (turned_fits z fits) ∙ sym (unlike_i64 w z refl)
above kinds.I64 (edges.Excluded (values.I64 e)) (values.I64 z) ordered of_kind fits edge = next_le (turned e) (turned z) ∙ turned_lt e z edge fits
above kinds.I64 (edges.Excluded w) (values.I64 z) ordered of_kind fits edge = too_high (turned z) (turned_fits z fits)
above kinds.Datetime (edges.Included (values.Datetime e)) (values.Datetime z) ordered of_kind fits edge = turned_le e z edge fits ∙ int_or e z
above kinds.Datetime (edges.Included w) (values.Datetime z) ordered of_kind fits edge = too_high (turned z) (turned_fits z fits) ∙ sym (unlike_datetime w z refl)
above kinds.Datetime (edges.Excluded (values.Datetime e)) (values.Datetime z) ordered of_kind fits edge = next_le (turned e) (turned z) ∙ turned_lt e z edge fits
above kinds.Datetime (edges.Excluded w) (values.Datetime z) ordered of_kind fits edge = too_high (turned z) (turned_fits z fits)
above kinds.U64 (edges.Included (values.U64 e)) (values.U64 n) ordered of_kind fits edge = nat_or e n
above kinds.U64 (edges.Included w) (values.U64 n) ordered of_kind fits edge = too_high n fits ∙ sym (unlike_u64 w n refl)
above kinds.U64 (edges.Excluded (values.U64 e)) (values.U64 n) ordered of_kind fits edge = next_le e n
above kinds.U64 (edges.Excluded w) (values.U64 n) ordered of_kind fits edge = too_high n fits
above kinds.I64 low v ordered of_kind fits edge = absurd of_kind
above kinds.U64 low v ordered of_kind fits edge = absurd of_kind
above kinds.Datetime low v ordered of_kind fits edge = absurd of_kind
above kinds.Text low v ordered of_kind fits edge = absurd (let x : false ≡ true = ordered in cc)
above kinds.TextList low v ordered of_kind fits edge = absurd (let x : false ≡ true = ordered in cc)
above kinds.Bool low v ordered of_kind fits edge = absurd (let x : false ≡ true = ordered in cc)

pub below : (k : Kind) (high : Edge) (v : Value) → has_order k ≡ true → IsOfKind k v → Has64 v → EdgeHas64 high → nat_lt (number_of v) (until_of k high) ≡ is_below high v
below k edges.Unbounded v ordered of_kind fits edge = in_type (number_of v) (number_fits v fits)
below kinds.I64 (edges.Included (values.I64 e)) (values.I64 z) ordered of_kind fits edge = lt_next (turned z) (turned e) ∙ (turned_le z e fits edge ∙ int_or z e)
below kinds.I64 (edges.Included w) (values.I64 z) ordered of_kind fits edge = none_below (turned z)
below kinds.I64 (edges.Excluded (values.I64 e)) (values.I64 z) ordered of_kind fits edge = turned_lt z e fits edge
below kinds.I64 (edges.Excluded w) (values.I64 z) ordered of_kind fits edge = none_below (turned z)
below kinds.Datetime (edges.Included (values.Datetime e)) (values.Datetime z) ordered of_kind fits edge = lt_next (turned z) (turned e) ∙ (turned_le z e fits edge ∙ int_or z e)
below kinds.Datetime (edges.Included w) (values.Datetime z) ordered of_kind fits edge = none_below (turned z)
below kinds.Datetime (edges.Excluded (values.Datetime e)) (values.Datetime z) ordered of_kind fits edge = turned_lt z e fits edge
below kinds.Datetime (edges.Excluded w) (values.Datetime z) ordered of_kind fits edge = none_below (turned z)
below kinds.U64 (edges.Included (values.U64 e)) (values.U64 n) ordered of_kind fits edge = lt_next n e ∙ nat_or n e
below kinds.U64 (edges.Included w) (values.U64 n) ordered of_kind fits edge = none_below n
below kinds.U64 (edges.Excluded (values.U64 e)) (values.U64 n) ordered of_kind fits edge = refl
below kinds.U64 (edges.Excluded w) (values.U64 n) ordered of_kind fits edge = none_below n
below kinds.I64 high v ordered of_kind fits edge = absurd of_kind
below kinds.U64 high v ordered of_kind fits edge = absurd of_kind
below kinds.Datetime high v ordered of_kind fits edge = absurd of_kind
below kinds.Text high v ordered of_kind fits edge = absurd (let x : false ≡ true = ordered in cc)
below kinds.TextList high v ordered of_kind fits edge = absurd (let x : false ≡ true = ordered in cc)
below kinds.Bool high v ordered of_kind fits edge = absurd (let x : false ≡ true = ordered in cc)

-- the eight bytes of a value are those of its number
term_number : (k : Kind) (v : Value) → has_order k ≡ true → IsOfKind k v → term_bytes v ≡ to_be_bytes w64 (number_of v)
term_number kinds.I64 (values.I64 z) ordered of_kind = refl
term_number kinds.U64 (values.U64 n) ordered of_kind = refl
term_number kinds.Datetime (values.Datetime z) ordered of_kind = refl
term_number kinds.I64 v ordered of_kind = absurd of_kind
term_number kinds.U64 v ordered of_kind = absurd of_kind
term_number kinds.Datetime v ordered of_kind = absurd of_kind
term_number kinds.Text v ordered of_kind = absurd (let x : false ≡ true = ordered in cc)
term_number kinds.TextList v ordered of_kind = absurd (let x : false ≡ true = ordered in cc)
term_number kinds.Bool v ordered of_kind = absurd (let x : false ≡ true = ordered in cc)

eight_bytes : (n : ℕ) → (length (to_be_bytes w64 n) == 8) ≡ true
eight_bytes n = refl

value_within : (k : Kind) (low high : Edge) (v : Value) → has_order k ≡ true → IsOfKind k v → Has64 v → EdgeHas64 low → EdgeHas64 high
    → is_within (range_of k low high) (term_bytes v) ≡ is_above low v && is_below high v
value_within k low high v ordered of_kind fits low_fits high_fits =
    let n : ℕ = number_of v in
    let r = range_of k low high in
    ap (λ t. is_within r t) (term_number k v ordered of_kind)
    ∙ (ap (λ b. b && (nat_le (from_of k low) (from_be_bytes w64 (to_be_bytes w64 n)) && nat_lt (from_be_bytes w64 (to_be_bytes w64 n)) (until_of k high))) (eight_bytes n)
    ∙ (ap (λ m. nat_le (from_of k low) m && nat_lt m (until_of k high)) (from_be_bytes-to_be_bytes_8 n (number_fits v fits))
    ∙ (ap (λ b. b && nat_lt n (until_of k high)) (above k low v ordered of_kind fits low_fits) ∙ ap (λ b. is_above low v && b) (below k high v ordered of_kind fits high_fits))))

module _ (k : Kind) (low high : Edge) (n : ℕ) (lt : n < 65280) (ordered : has_order k ≡ true) (low_fits : EdgeHas64 low) (high_fits : EdgeHas64 high) where
  abbrev test : List ℕ → Bool
  test key = is_walked (field_key n []) (Within (range_of k low high)) key

  test_here : (t : List ℕ) → test (field_key n t) ≡ is_within (range_of k low high) t
  test_here t = ap (λ b. b && is_within (range_of k low high) t) (begin_same n t [])

  test_other : (m : ℕ) (t : List ℕ) → m ≢ n → test (field_key m t) ≡ false
  test_other m t ne = ap (λ b. b && is_within (range_of k low high) t) (begin_other m n t [] ne)

  test_absent : (m : ℕ) → test (presence_key m) ≡ false
  test_absent m = rw (begin_presence m n [] lt)

  or_false : (a : Bool) → a || false ≡ a
  or_false true = refl
  or_false false = refl

  one_within : (f : Field) (place : ℕ) (v : Value) → IsOfKind k v → Has64 v → such test (of_value f n place v) ≡ is_above low v && is_below high v
  one_within f place (values.Text t) of_kind fits = absurd (no_text k t ordered of_kind)
    where
      no_text : (k : Kind) (t : List ℕ) → has_order k ≡ true → IsOfKind k (values.Text t) → ⊥
      no_text kinds.Text t ordered of_kind = let x : false ≡ true = ordered in cc
      no_text kinds.TextList t ordered of_kind = let x : false ≡ true = ordered in cc
      no_text kinds.I64 t ordered of_kind = of_kind
      no_text kinds.U64 t ordered of_kind = of_kind
      no_text kinds.Bool t ordered of_kind = of_kind
      no_text kinds.Datetime t ordered of_kind = of_kind
  one_within f place (values.I64 z) of_kind fits = or_false (test (field_key n (term_bytes (values.I64 z)))) ∙ (test_here (term_bytes (values.I64 z)) ∙ value_within k low high (values.I64 z) ordered of_kind fits low_fits high_fits)
  one_within f place (values.U64 z) of_kind fits = or_false (test (field_key n (term_bytes (values.U64 z)))) ∙ (test_here (term_bytes (values.U64 z)) ∙ value_within k low high (values.U64 z) ordered of_kind fits low_fits high_fits)
  one_within f place (values.Bool z) of_kind fits = or_false (test (field_key n (term_bytes (values.Bool z)))) ∙ (test_here (term_bytes (values.Bool z)) ∙ value_within k low high (values.Bool z) ordered of_kind fits low_fits high_fits)
  one_within f place (values.Datetime z) of_kind fits = or_false (test (field_key n (term_bytes (values.Datetime z)))) ∙ (test_here (term_bytes (values.Datetime z)) ∙ value_within k low high (values.Datetime z) ordered of_kind fits low_fits high_fits)

  values_within : (f : Field) (place : ℕ) (vs : List Value) → AreOfKind k vs → AllHave64 vs → such test (of_values f n place vs) ≡ between low high vs
  values_within f place [] of_kind fits = refl
  values_within f place (v ∷ vs) of_kind fits =
      such_append test (of_value f n place v) (of_values f n (suc place) vs)
      ∙ (ap (λ b. b || such test (of_values f n (suc place) vs)) (one_within f place v of_kind.0 fits.0)
      ∙ ap (λ b. (is_above low v && is_below high v) || b) (values_within f (suc place) vs of_kind.1 fits.1))

  pub range_is_such : (s : Schema) (f : Field) (d : List DocField) → slice_get s.fields n ≡ Some f → f.indexed ≡ true → AreOfKind k (values_in d n) → AllHave64 (values_in d n)
      → such test (keys_of s d) ≡ between low high (values_in d n)
  range_is_such s f d got on of_kind fits = in_field test n test_other test_absent s f d got on ∙ values_within f 0 (values_in d n) of_kind fits
