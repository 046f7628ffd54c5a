-- A document that is read of any bytes is of the schema.
use Rattle.std.proofs.Common.{◌≡◌, ℕ, zero, suc, ◌≤◌, Bool, true, false, List, ◌∷◌, length, Option, Some, None, Result, Ok, Err, refl, sym, ap, subst, arith}
use Rattle.std.specs.Prelude.{IfOk, MatchOption, ◌==◌, nat_lt, slice_get, if◌then◌else◌}
use Rattle.std.proofs.lemmas.Bool.{eqb-true, ltb-true, ltb-false}
use Rattle.byte_fields.specs.declared.corrupt.Corrupt.{Corrupt}
use Rattle.byte_fields.specs.Steps.{◌>>=◌, field, number_at}
use Rattle.byte_fields.specs.Reading.{text_at, signed_at, flag_at}
use Rattle.doc_value.specs.declared.doc.DocField.{DocField}
use Rattle.doc_value.specs.declared.doc.Value.{Value}
use Rattle.doc_value.specs.declared.doc.Value.TheVariants as values
use Rattle.doc_value.specs.declared.schema.Field.{Field}
use Rattle.doc_value.specs.declared.schema.Kind.{Kind}
use Rattle.doc_value.specs.declared.schema.Kind.TheVariants as kinds
use Rattle.doc_value.specs.declared.schema.Schema.{Schema}
use Rattle.doc_value.specs.Documents.{IsOfSchema, IsOfKind, AreOfKind, HasGoodCount, FitsField, FitsFrom}
use Rattle.split_bundle.specs.declared.documents.Stored.{Stored}
use Rattle.split_bundle.specs.declared.layout.Layout.{Layout}
use Rattle.split_bundle.specs.declared.pieces.FilePiece.{FilePiece}
use Rattle.split_bundle.specs.declared.placed.Placed.{Placed}
use Rattle.split_bundle.specs.declared.split_error.SplitError.{SplitError}
use Rattle.split_bundle.specs.Reading.{MayGive, and_then, of_section}
use Rattle.split_bundle.specs.DocReading.{text_value_at, value_at, values_at, may_have, kind_of, kind_at, counted_values, doc_field_at, doc_fields_at, stored_in, partition_in, doc_part, placed_in}

-- what holds after a step, from what holds before it
behind : {A B : Type 0} (P : A → Type 0) (Q : B → Type 0) (r : Result A Corrupt) (f : A → Result B Corrupt) → IfOk r P → ((a : A) → P a → IfOk (f a) Q) → IfOk (r >>= f) Q
behind P Q (Ok a) f here next = next a here
behind P Q (Err e) f here next = tt

any : {A : Type 0} (r : Result A Corrupt) → IfOk r (λ a. Unit {0})
any (Ok a) = tt
any (Err e) = tt

-- ---- values

text_fits : (kind : Kind) (bytes : List ℕ) (at : ℕ) → ((t : List ℕ) → IsOfKind kind (values.Text t)) → IfOk (text_value_at bytes at) (λ x. IsOfKind kind x.0)
unfolding text_value_at
text_fits kind bytes at of_kind = behind (λ _. Unit {0}) (λ x. IsOfKind kind x.0) (field (text_at bytes at)) (λ text. Ok (values.Text text.0, text.1)) (any (field (text_at bytes at))) (λ text _. of_kind text.0)

value_fits : (kind : Kind) (bytes : List ℕ) (at : ℕ) → IfOk (value_at kind bytes at) (λ x. IsOfKind kind x.0)
unfolding value_at
value_fits kinds.Text bytes at = text_fits kinds.Text bytes at (λ t. tt)
value_fits kinds.TextList bytes at = text_fits kinds.TextList bytes at (λ t. tt)
value_fits kinds.I64 bytes at = behind (λ _. Unit {0}) (λ x. IsOfKind kinds.I64 x.0) (field (signed_at bytes at)) (λ number. Ok (values.I64 number.0, number.1)) (any (field (signed_at bytes at))) (λ x _. tt)
value_fits kinds.U64 bytes at = behind (λ _. Unit {0}) (λ x. IsOfKind kinds.U64 x.0) (number_at bytes at) (λ number. Ok (values.U64 number.0, number.1)) (any (number_at bytes at)) (λ x _. tt)
value_fits kinds.Bool bytes at = behind (λ _. Unit {0}) (λ x. IsOfKind kinds.Bool x.0) (field (flag_at bytes at)) (λ flag. Ok (values.Bool flag.0, flag.1)) (any (field (flag_at bytes at))) (λ x _. tt)
value_fits kinds.Datetime bytes at = behind (λ _. Unit {0}) (λ x. IsOfKind kinds.Datetime x.0) (field (signed_at bytes at)) (λ number. Ok (values.Datetime number.0, number.1)) (any (field (signed_at bytes at))) (λ x _. tt)

-- so many values of a kind
abbrev AreSome : Kind → ℕ → List Value × ℕ → Type 0
AreSome kind count x = AreOfKind kind x.0 × (length x.0 ≡ count)

values_fit : (kind : Kind) (count : ℕ) (bytes : List ℕ) (at : ℕ) → IfOk (values_at kind count bytes at) (AreSome kind count)
unfolding values_at
values_fit kind zero bytes at = (tt, refl)
values_fit kind (suc more) bytes at =
    behind (λ x. IsOfKind kind x.0) (AreSome kind (suc more)) (value_at kind bytes at) (λ value. values_at kind more bytes value.1 >>= λ others. Ok (value.0 ∷ others.0, others.1)) (value_fits kind bytes at)
    (λ value is. behind (AreSome kind more) (AreSome kind (suc more)) (values_at kind more bytes value.1) (λ others. Ok (value.0 ∷ others.0, others.1)) (values_fit kind more bytes value.1)
    (λ others are. ((is, are.0), ap (λ (n : ℕ). suc n) are.1)))

good_count : (kind : Kind) (vs : List Value) (count : ℕ) → may_have kind count ≡ true → length vs ≡ count → HasGoodCount kind vs
good_count kinds.Text vs count may is = let one = eqb-true count 1 may in omega (arith, one, is)
good_count kinds.I64 vs count may is = let one = eqb-true count 1 may in omega (arith, one, is)
good_count kinds.U64 vs count may is = let one = eqb-true count 1 may in omega (arith, one, is)
good_count kinds.Bool vs count may is = let one = eqb-true count 1 may in omega (arith, one, is)
good_count kinds.Datetime vs count may is = let one = eqb-true count 1 may in omega (arith, one, is)
good_count kinds.TextList vs count may is = let some = ltb-true 0 count may in omega (arith, some, is)

-- ---- a field

abbrev AreGood : Kind → List Value × ℕ → Type 0
AreGood kind x = AreOfKind kind x.0 × HasGoodCount kind x.0

counted_fit : (kind : Kind) (count : ℕ) (bytes : List ℕ) (from at : ℕ) → IfOk (counted_values kind count bytes from at) (AreGood kind)
counted_fit kind count bytes from at = by (may_have kind count) refl
  where
    good : may_have kind count ≡ true → (r : Result (List Value × ℕ) Corrupt) → IfOk r (AreSome kind count) → IfOk r (AreGood kind)
    good may (Ok x) are = (are.0, good_count kind x.0 count may are.1)
    good may (Err e) are = tt

    by : (b : Bool) → may_have kind count ≡ b → IfOk (counted_values kind count bytes from at) (AreGood kind)
    by true is = rw is (good is (values_at kind count bytes from) (values_fit kind count bytes from))
    by false is = rw is tt

-- the kind is that of the field with a number that is not below the least one
abbrev IsKindOf : List Field → ℕ → ℕ → Kind → Type 0
IsKindOf fields least number kind = (f : Field) × (least ≤ number) × (slice_get fields number ≡ Some f) × (f.kind ≡ kind)

kind_fits : (fields : List Field) (least number at : ℕ) → IfOk (kind_at fields least number at) (IsKindOf fields least number)
unfolding kind_at
kind_fits fields least number at = by (nat_lt number least) refl
  where
    found : (o : Option Field) → slice_get fields number ≡ o → least ≤ number → IfOk (kind_of at o) (IsKindOf fields least number)
    found None is le = tt
    found (Some f) is le = (f, le, is, refl)

    by : (b : Bool) → nat_lt number least ≡ b → IfOk (if nat_lt number least then Err (record { at = at }) else kind_of at (slice_get fields number)) (IsKindOf fields least number)
    by true is = rw is tt
    by false is = rw is (found (slice_get fields number) refl (ltb-false number least is))

abbrev FitsAt : List Field → ℕ → DocField × ℕ → Type 0
FitsAt fields least x = (least ≤ x.0.number) × FitsField fields x.0

made_fits : (fields : List Field) (least number : ℕ) (kind : Kind) (x : List Value × ℕ) → IsKindOf fields least number kind → AreGood kind x → FitsAt fields least (record { number = number; values = x.0 }, x.1)
made_fits fields least number kind x is good =
    let P : Option Field → Type 0 = λ o. MatchOption o ⊥ (λ f. AreOfKind f.kind x.0 × HasGoodCount f.kind x.0) in
    (is.1, subst P (sym is.2) (subst (λ (k : Kind). AreOfKind k x.0 × HasGoodCount k x.0) (sym is.3) good))

field_fits : (fields : List Field) (least : ℕ) (bytes : List ℕ) (at : ℕ) → IfOk (doc_field_at fields least bytes at) (FitsAt fields least)
unfolding doc_field_at
field_fits fields least bytes at =
    behind (λ _. Unit {0}) (FitsAt fields least) (number_at bytes at) (λ number. kind_at fields least number.0 at >>= λ kind. number_at bytes number.1 >>= λ count. counted_values kind count.0 bytes count.1 number.1 >>= λ values. Ok (record { number = number.0; values = values.0 }, values.1)) (any (number_at bytes at))
    (λ number _. behind (IsKindOf fields least number.0) (FitsAt fields least) (kind_at fields least number.0 at) (λ kind. number_at bytes number.1 >>= λ count. counted_values kind count.0 bytes count.1 number.1 >>= λ values. Ok (record { number = number.0; values = values.0 }, values.1)) (kind_fits fields least number.0 at)
    (λ kind is. behind (λ _. Unit {0}) (FitsAt fields least) (number_at bytes number.1) (λ count. counted_values kind count.0 bytes count.1 number.1 >>= λ values. Ok (record { number = number.0; values = values.0 }, values.1)) (any (number_at bytes number.1))
    (λ count _. behind (AreGood kind) (FitsAt fields least) (counted_values kind count.0 bytes count.1 number.1) (λ values. Ok (record { number = number.0; values = values.0 }, values.1)) (counted_fit kind count.0 bytes count.1 number.1)
    (λ x good. made_fits fields least number.0 kind x is good))))

fields_fit : (fields : List Field) (least count : ℕ) (bytes : List ℕ) (at : ℕ) → IfOk (doc_fields_at fields least count bytes at) (λ x. FitsFrom fields least x.0)
unfolding doc_fields_at
fields_fit fields least zero bytes at = tt
fields_fit fields least (suc more) bytes at =
    behind (FitsAt fields least) (λ x. FitsFrom fields least x.0) (doc_field_at fields least bytes at) (λ first. doc_fields_at fields (suc first.0.number) more bytes first.1 >>= λ others. Ok (first.0 ∷ others.0, others.1)) (field_fits fields least bytes at)
    (λ first fits. behind (λ x. FitsFrom fields (suc first.0.number) x.0) (λ x. FitsFrom fields least x.0) (doc_fields_at fields (suc first.0.number) more bytes first.1) (λ others. Ok (first.0 ∷ others.0, others.1)) (fields_fit fields (suc first.0.number) more bytes first.1)
    (λ others rest. (fits.0, fits.1, rest)))

-- ---- a document

abbrev IsStored : List Field → Stored → Type 0
IsStored fields s = FitsFrom fields 0 s.doc

all_read : (fields : List Field) (place offset long : ℕ) (x : List DocField × ℕ) → FitsFrom fields 0 x.0 → IfOk {E = Corrupt} (if x.1 == long then Ok (record { place = place; offset = offset; doc = x.0 }) else Err (record { at = x.1 })) (IsStored fields)
all_read fields place offset long x fits = by (x.1 == long)
  where
    by : (b : Bool) → IfOk {E = Corrupt} (if b then Ok (record { place = place; offset = offset; doc = x.0 }) else Err (record { at = x.1 })) (IsStored fields)
    by true = fits
    by false = tt

stored_fits : (fields : List Field) (bytes : List ℕ) → IfOk (stored_in fields bytes) (IsStored fields)
unfolding stored_in
stored_fits fields bytes =
    behind (λ _. Unit {0}) (IsStored fields) (number_at bytes 0) _ (any (number_at bytes 0))
    (λ place _. behind (λ _. Unit {0}) (IsStored fields) (number_at bytes place.1) _ (any (number_at bytes place.1))
    (λ offset _. behind (λ _. Unit {0}) (IsStored fields) (number_at bytes offset.1) _ (any (number_at bytes offset.1))
    (λ count _. behind (λ x. FitsFrom fields 0 x.0) (IsStored fields) (doc_fields_at fields 0 count.0 bytes count.1) _ (fields_fit fields 0 count.0 bytes count.1)
    (λ x fits. all_read fields place.0 offset.0 (length bytes) x fits))))

then_holds : {A B : Type 0} (P : A → Type 0) (Q : B → Type 0) (r : Result A SplitError) (f : A → Result B SplitError) → IfOk r P → ((a : A) → P a → IfOk (f a) Q) → IfOk (and_then r f) Q
then_holds P Q (Ok a) f here next = next a here
then_holds P Q (Err e) f here next = tt

anything : {A : Type 0} (r : Result A SplitError) → IfOk r (λ a. Unit {0})
anything (Ok a) = tt
anything (Err e) = tt

of_part : {A : Type 0} (P : A → Type 0) (number : ℕ) (r : Result A Corrupt) → IfOk r P → IfOk (of_section number r) P
of_part P number (Ok a) h = h
of_part P number (Err e) h = tt

read_fits : (s : Schema) (layout : Layout) (footer : List ℕ) (pieces : List FilePiece) (number : ℕ) → IfOk (placed_in s.fields layout footer pieces number) (λ d. IsOfSchema s d.doc)
unfolding placed_in
read_fits s layout footer pieces number =
    then_holds (λ _. Unit {0}) (λ d. IsOfSchema s d.doc) (doc_part layout pieces number) _ (anything (doc_part layout pieces number))
    (λ bytes _. then_holds (IsStored s.fields) (λ d. IsOfSchema s d.doc) (of_section 1 (stored_in s.fields bytes)) _ (of_part (IsStored s.fields) 1 (stored_in s.fields bytes) (stored_fits s.fields bytes))
    (λ stored fits. then_holds (λ _. Unit {0}) (λ d. IsOfSchema s d.doc) (partition_in footer layout.partitions stored.place) _ (anything (partition_in footer layout.partitions stored.place)) (λ name _. fits)))

given_fits : (s : Schema) (r read : Result Placed SplitError) → IfOk read (λ d. IsOfSchema s d.doc) → MayGive (λ d. d) r read → IfOk r (λ d. IsOfSchema s d.doc)
given_fits s (Ok d) read fits gives = subst (λ (x : Result Placed SplitError). IfOk x (λ y. IsOfSchema s y.doc)) gives fits
given_fits s (Err e) read fits gives = tt

-- what is given over any bytes
pub placed_fits : (s : Schema) (layout : Layout) (footer : List ℕ) (pieces : List FilePiece) (number : ℕ) (r : Result Placed SplitError) → MayGive (λ d. d) r (placed_in s.fields layout footer pieces number) → IfOk r (λ d. IsOfSchema s d.doc)
placed_fits s layout footer pieces number r gives = given_fits s r (placed_in s.fields layout footer pieces number) (read_fits s layout footer pieces number) gives
