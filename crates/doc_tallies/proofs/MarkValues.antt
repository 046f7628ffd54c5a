-- What marks say of the values of documents.
use Rattle.std.proofs.Common.{◌≡◌, ℕ, ℤ, pos, negsuc, zero, suc, ◌+◌, ◌-◌, ◌^◌, ◌<◌, ◌≤◌, ◌⊎◌, inl, inr, Bool, true, false, List, [], ◌∷◌, length, slice_get, Option, Some, None, refl, ap, sym, subst, ◌∙◌, arith}
use Rattle.std.specs.Option.{option_map, option_and_then}
use Rattle.std.proofs.lemmas.Bool.{lt-ltb, le-ltb}
use Rattle.byte_fields.specs.Spelling.{zigzag}
use Rattle.doc_value.specs.declared.doc.Value.{Value}
use Rattle.doc_value.specs.declared.doc.Value.TheVariants as values
use Rattle.doc_value.specs.declared.schema.Kind.{Kind}
use Rattle.doc_value.specs.declared.schema.Kind.TheVariants as kinds
use Rattle.doc_value.specs.Documents.{IsOfKind, HasGoodCount}
use Rattle.agg_model.specs.Counting.{step_of, whole}
use Rattle.fast_fields.specs.Columns.{AreEntries, IsNumber, cells_of}
use Rattle.doc_value.specs.Terms.{turned}
use Rattle.fast_fields.specs.declared.entries.Entry.{Entry}
use Rattle.split_bundle.specs.Held.{IsHeldValue}
use Rattle.doc_tallies.specs.Marks.{IsSingle, unturned, whole_number, whole_there}
use Rattle.doc_tallies.proofs.FieldValues.{AreValues}
use Rattle.doc_tallies.proofs.Owned.{first_of}

-- ---- signed numbers

above : (n : ℕ) → n + 9223372036854775808 - 9223372036854775808 ≡ n
above n = omega arith

below : (n : ℕ) → n ≤ 9223372036854775807 → 9223372036854775807 - (9223372036854775807 - n) ≡ n
below n le = omega arith

pub unturned_turned : (z : ℤ) → zigzag z < 2 ^ 64 → unturned (turned z) ≡ z
unturned_turned (pos n) small =
    let more : 9223372036854775808 ≤ n + 9223372036854775808 = omega arith in
    rw (le-ltb (n + 9223372036854775808) 9223372036854775808 more) (ap pos (above n))
unturned_turned (negsuc n) small =
    let less : 9223372036854775807 - n < 9223372036854775808 = omega arith in
    rw (lt-ltb (9223372036854775807 - n) 9223372036854775808 less) (ap negsuc (below n (omega arith)))

-- ---- the value of a number

abbrev pub truth_of : ℕ → Bool
truth_of zero = false
truth_of (suc n) = true

-- the value of a kind that has this number
abbrev pub ValueOf : List (List ℕ) → Kind → ℕ → Value → Type 0
ValueOf texts kinds.Text x v = (t : List ℕ) × (v ≡ values.Text t) × (slice_get texts x ≡ Some t)
ValueOf texts kinds.TextList x v = (t : List ℕ) × (v ≡ values.Text t) × (slice_get texts x ≡ Some t)
ValueOf texts kinds.I64 x v = v ≡ values.I64 (unturned x)
ValueOf texts kinds.U64 x v = v ≡ values.U64 x
ValueOf texts kinds.Bool x v = v ≡ values.Bool (truth_of x)
ValueOf texts kinds.Datetime x v = v ≡ values.Datetime (unturned x)

back : (z : ℤ) (x : ℕ) → zigzag z < 2 ^ 64 → x ≡ turned z → z ≡ unturned x
back z x small e = sym (ap unturned e ∙ unturned_turned z small)

truth_is : (texts : List (List ℕ)) (b : Bool) (x : ℕ) → IsNumber texts (values.Bool b) x → b ≡ truth_of x
truth_is texts false x e = sym (ap truth_of e)
truth_is texts true x e = sym (ap truth_of e)

value_is : (texts : List (List ℕ)) (kind : Kind) (v : Value) (x : ℕ) → IsOfKind kind v → IsHeldValue v → IsNumber texts v x → ValueOf texts kind x v
value_is texts kinds.Text (values.Text t) x kind held e = (t, refl, e)
value_is texts kinds.TextList (values.Text t) x kind held e = (t, refl, e)
value_is texts kinds.I64 (values.I64 z) x kind held e = ap values.I64 (back z x held e)
value_is texts kinds.U64 (values.U64 n) x kind held e = ap values.U64 (sym e)
value_is texts kinds.Bool (values.Bool b) x kind held e = ap values.Bool (truth_is texts b x e)
value_is texts kinds.Datetime (values.Datetime z) x kind held e = ap values.Datetime (back z x held e)
value_is texts kinds.Text v x kind held e = absurd kind
value_is texts kinds.TextList v x kind held e = absurd kind
value_is texts kinds.I64 v x kind held e = absurd kind
value_is texts kinds.U64 v x kind held e = absurd kind
value_is texts kinds.Bool v x kind held e = absurd kind
value_is texts kinds.Datetime v x kind held e = absurd kind

same_text : (texts : List (List ℕ)) (x : ℕ) (v w : Value) (t u : List ℕ) → v ≡ values.Text t → slice_get texts x ≡ Some t → w ≡ values.Text u → slice_get texts x ≡ Some u → v ≡ w
same_text texts x v w t u is at other there = let same : t ≡ u = cc in is ∙ (ap values.Text same ∙ sym other)

same_value : (texts : List (List ℕ)) (kind : Kind) (x : ℕ) (v w : Value) → ValueOf texts kind x v → ValueOf texts kind x w → v ≡ w
same_value texts kinds.Text x v w a b = same_text texts x v w a.0 b.0 a.1 a.2 b.1 b.2
same_value texts kinds.TextList x v w a b = same_text texts x v w a.0 b.0 a.1 a.2 b.1 b.2
same_value texts kinds.I64 x v w a b = a ∙ sym b
same_value texts kinds.U64 x v w a b = a ∙ sym b
same_value texts kinds.Bool x v w a b = a ∙ sym b
same_value texts kinds.Datetime x v w a b = a ∙ sym b

-- ---- documents of one value

-- what a column has of a document of at most one value
pub record IsOne (texts : List (List ℕ)) (kind : Kind) (vs : List Value) (v : Value) (x : ℕ) (o : Option ℕ) : Type 0 where
  pub one : vs ≡ v ∷ []
  pub first : o ≡ Some x
  pub value : ValueOf texts kind x v

abbrev pub IsNone : List Value → Option ℕ → Type 0
IsNone vs o = (vs ≡ []) × (o ≡ None)

abbrev pub IsOneOrNone : List (List ℕ) → Kind → List Value → Option ℕ → Type 0
IsOneOrNone texts kind vs o = IsNone vs o ⊎ ((v : Value) × (x : ℕ) × IsOne texts kind vs v x o)

count_one : (kind : Kind) (vs : List Value) → IsSingle kind → HasGoodCount kind vs → length vs ≡ 1
count_one kinds.Text vs single good = good
count_one kinds.TextList vs single good = absurd single
count_one kinds.I64 vs single good = good
count_one kinds.U64 vs single good = good
count_one kinds.Bool vs single good = good
count_one kinds.Datetime vs single good = good

pub one_or_none : (texts : List (List ℕ)) (k : ℕ) (kind : Kind) (vs : List Value) (own : List Entry) → IsSingle kind → AreEntries texts (cells_of k vs) own → AreValues kind vs → IsOneOrNone texts kind vs (first_of own)
one_or_none texts k kind [] [] single are h = inl (refl, refl)
one_or_none texts k kind [] (e ∷ es) single are h = absurd are
one_or_none texts k kind (v ∷ vs) [] single are h = absurd are
one_or_none texts k kind (v ∷ []) (e ∷ es) single are h = inr (v, e.number, record { one = refl; first = refl; value = value_is texts kind v e.number h.of_kind.0 h.held.0 are.1 })
one_or_none texts k kind (v ∷ w ∷ vs) (e ∷ es) single are h = absurd (elim h.count [ inl none ↦ cc | inr good ↦ (let two : suc (suc (length vs)) ≡ 1 = count_one kind (v ∷ w ∷ vs) single good in omega arith) ])

-- two documents of one number have the same values
pub same_ones : (texts : List (List ℕ)) (kind : Kind) (vs ws : List Value) (a b : Option ℕ) → IsOneOrNone texts kind vs a → IsOneOrNone texts kind ws b → option_map pos a ≡ option_map pos b → vs ≡ ws
same_ones texts kind vs ws a b (inl is) (inl other) e = is.0 ∙ sym other.0
same_ones texts kind vs ws a b (inl is) (inr other) e =
    let left : option_map pos a ≡ None = ap (option_map pos) is.1 in
    let right : option_map pos b ≡ Some (pos other.1) = ap (option_map pos) other.2.first in
    absurd (cc)
same_ones texts kind vs ws a b (inr is) (inl other) e =
    let left : option_map pos a ≡ Some (pos is.1) = ap (option_map pos) is.2.first in
    let right : option_map pos b ≡ None = ap (option_map pos) other.1 in
    absurd (cc)
same_ones texts kind vs ws a b (inr is) (inr other) e =
    let left : option_map pos a ≡ Some (pos is.1) = ap (option_map pos) is.2.first in
    let right : option_map pos b ≡ Some (pos other.1) = ap (option_map pos) other.2.first in
    let same : is.1 ≡ other.1 = cc in
    let value = same_value texts kind is.1 is.0 other.0 is.2.value (subst (λ (x : ℕ). ValueOf texts kind x other.0) (sym same) other.2.value) in
    is.2.one ∙ (ap (λ (v : Value). v ∷ []) value ∙ sym other.2.one)

-- ---- steps

whole_value : (texts : List (List ℕ)) (kind : Kind) (v : Value) (x : ℕ) → ValueOf texts kind x v → whole v ≡ whole_there kind (Some x)
whole_value texts kinds.Text v x is = ap whole is.1
whole_value texts kinds.TextList v x is = ap whole is.1
whole_value texts kinds.I64 v x is = ap whole is
whole_value texts kinds.U64 v x is = ap whole is
whole_value texts kinds.Bool v x is = ap whole is
whole_value texts kinds.Datetime v x is = ap whole is

none_there : (kind : Kind) → whole_there kind None ≡ None
none_there kinds.Text = refl
none_there kinds.TextList = refl
none_there kinds.I64 = refl
none_there kinds.U64 = refl
none_there kinds.Bool = refl
none_there kinds.Datetime = refl

pub whole_first : (texts : List (List ℕ)) (k : ℕ) (kind : Kind) (vs : List Value) (own : List Entry) → AreEntries texts (cells_of k vs) own → AreValues kind vs → option_and_then whole (slice_get vs 0) ≡ whole_there kind (first_of own)
whole_first texts k kind [] [] are h = sym (none_there kind)
whole_first texts k kind [] (e ∷ es) are h = absurd are
whole_first texts k kind (v ∷ vs) [] are h = absurd are
whole_first texts k kind (v ∷ vs) (e ∷ es) are h = whole_value texts kind v e.number (value_is texts kind v e.number h.of_kind.0 h.held.0 are.1)

-- the step by the mark: kinds without whole numbers have none
abbrev pub step_by : Kind → Option ℤ → Option ℤ
step_by kinds.Text m = None
step_by kinds.TextList m = None
step_by kinds.I64 m = m
step_by kinds.U64 m = m
step_by kinds.Bool m = None
step_by kinds.Datetime m = m

step_is : (interval offset : ℤ) (kind : Kind) (o : Option ℕ) → option_map (step_of interval offset) (whole_there kind o) ≡ step_by kind (option_map (λ n. step_of interval offset (whole_number kind n)) o)
step_is interval offset kinds.Text o = refl
step_is interval offset kinds.TextList o = refl
step_is interval offset kinds.Bool o = refl
step_is interval offset kinds.I64 None = refl
step_is interval offset kinds.I64 (Some n) = refl
step_is interval offset kinds.U64 None = refl
step_is interval offset kinds.U64 (Some n) = refl
step_is interval offset kinds.Datetime None = refl
step_is interval offset kinds.Datetime (Some n) = refl

pub first_step : (texts : List (List ℕ)) (interval offset : ℤ) (k : ℕ) (kind : Kind) (vs : List Value) (own : List Entry) → AreEntries texts (cells_of k vs) own → AreValues kind vs
    → option_map (step_of interval offset) (option_and_then whole (slice_get vs 0)) ≡ step_by kind (option_map (λ n. step_of interval offset (whole_number kind n)) (first_of own))
first_step texts interval offset k kind vs own are h =
    ap (option_map (step_of interval offset)) (whole_first texts k kind vs own are h) ∙ step_is interval offset kind (first_of own)
