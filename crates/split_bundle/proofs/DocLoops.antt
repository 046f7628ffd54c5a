-- Values and fields of a document, read one behind another.
use Rattle.std.proofs.Common.{◌≡◌, ℕ, suc, ◌+◌, ◌-◌, ◌<◌, List, [], ◌∷◌, ◌++◌, Result, Ok, Err, refl, sym, ap, ◌∙◌, arith, append_assoc}
use Rattle.std.proofs.lemmas.List.{append-nil}
use Rattle.byte_fields.specs.declared.corrupt.Corrupt.{Corrupt}
use Rattle.byte_fields.specs.Steps.{◌>>=◌}
use Rattle.doc_value.specs.declared.doc.DocField.{DocField}
use Rattle.doc_value.specs.declared.doc.Value.{Value}
use Rattle.doc_value.specs.declared.schema.Field.{Field}
use Rattle.doc_value.specs.declared.schema.Kind.{Kind}
use Rattle.split_bundle.specs.declared.documents.DocFault.{DocFault}
use Rattle.split_bundle.specs.declared.documents.DocFault.TheVariants.{NoMemory, NotOfForm}
use Rattle.split_bundle.specs.DocReading.{MayRead, value_at, values_at, doc_field_at, doc_fields_at}

-- items that were read before others
abbrev pub prepended : {X : Type 0} → List X → Result (List X × ℕ) Corrupt → Result (List X × ℕ) Corrupt
prepended done (Ok more) = Ok (done ++ more.0, more.1)
prepended done (Err c) = Err c

abbrev got : {X : Type 0} → List X → ℕ → Result (List X × ℕ) Corrupt
got xs at = Ok (xs, at)

abbrev with_first : {X : Type 0} → X → Result (List X × ℕ) Corrupt → Result (List X × ℕ) Corrupt
with_first x r = r >>= λ others. Ok (x ∷ others.0, others.1)

prepended_one : {X : Type 0} (done : List X) (x : X) (r : Result (List X × ℕ) Corrupt) → prepended done (with_first x r) ≡ prepended (done ++ x ∷ []) r
prepended_one {X} done x (Ok more) = ap (λ (l : List X). got l more.1) (sym (append_assoc done (x ∷ []) more.0))
prepended_one done x (Err c) = refl

prepended_none : {X : Type 0} (r : Result (List X × ℕ) Corrupt) → prepended [] r ≡ r
prepended_none (Ok more) = refl
prepended_none (Err c) = refl

-- a fault of one item is a fault of all
fault_of_all : {X : Type 0} (f : DocFault) (one : Result (X × ℕ) Corrupt) (whole : Result (List X × ℕ) Corrupt) → ((c : Corrupt) → one ≡ Err c → whole ≡ Err c)
    → MayRead {X = X × ℕ} (λ x. x) (Err f) one → MayRead {X = List X × ℕ} (λ x. x) (Err f) whole
fault_of_all (NoMemory a) one whole all is = tt
fault_of_all (NotOfForm c) one whole all is = all c is

-- ---- values

pub values_begun : (kind : Kind) (bytes : List ℕ) (count at : ℕ) (done : List Value) → done ≡ [] → prepended done (values_at kind (count - 0) bytes at) ≡ values_at kind count bytes at
values_begun kind bytes count at done e =
    let all : count - 0 ≡ count = omega arith in
    rw (e, all) (prepended_none (values_at kind count bytes at))

module _ (kind : Kind) (bytes : List ℕ) (count taken at : ℕ) (done : List Value) (whole : Result (List Value × ℕ) Corrupt) (so_far : prepended done (values_at kind (count - taken) bytes at) ≡ whole) where
  -- nothing is left
  pub values_end : taken ≡ count → whole ≡ Ok (done, at)
  unfolding values_at
  values_end e =
      let none : count - taken ≡ 0 = omega arith in
      let here : prepended done (values_at kind (count - taken) bytes at) ≡ got done at = rw none (ap (λ (l : List Value). got l at) (append-nil done)) in
      sym so_far ∙ here

  -- one more was read
  pub values_more : (v : Value) (next : ℕ) → taken < count → value_at kind bytes at ≡ Ok (v, next) → prepended (done ++ v ∷ []) (values_at kind (count - (taken + 1)) bytes next) ≡ whole
  unfolding values_at
  values_more v next lt e =
      let left : count - taken ≡ suc (count - (taken + 1)) = omega arith in
      let here : prepended done (values_at kind (count - taken) bytes at) ≡ prepended done (with_first v (values_at kind (count - (taken + 1)) bytes next)) = rw (left, e) refl in
      sym (prepended_one done v (values_at kind (count - (taken + 1)) bytes next)) ∙ sym here ∙ so_far

  one_fault : (c : Corrupt) → taken < count → value_at kind bytes at ≡ Err c → whole ≡ Err c
  unfolding values_at
  one_fault c lt e =
      let left : count - taken ≡ suc (count - (taken + 1)) = omega arith in
      let here : prepended done (values_at kind (count - taken) bytes at) ≡ Err c = rw (left, e) refl in
      sym so_far ∙ here

  -- the next one has a fault
  pub values_fault : (f : DocFault) → taken < count → MayRead {X = Value × ℕ} (λ x. x) (Err f) (value_at kind bytes at) → MayRead {X = List Value × ℕ} (λ x. x) (Err f) whole
  values_fault f lt is = fault_of_all f (value_at kind bytes at) whole (λ c e. one_fault c lt e) is

-- ---- fields

pub fields_begun : (fields : List Field) (bytes : List ℕ) (count at : ℕ) (done : List DocField) → done ≡ [] → prepended done (doc_fields_at fields 0 (count - 0) bytes at) ≡ doc_fields_at fields 0 count bytes at
fields_begun fields bytes count at done e =
    let all : count - 0 ≡ count = omega arith in
    rw (e, all) (prepended_none (doc_fields_at fields 0 count bytes at))

module _ (fields : List Field) (bytes : List ℕ) (count taken least at : ℕ) (done : List DocField) (whole : Result (List DocField × ℕ) Corrupt) (so_far : prepended done (doc_fields_at fields least (count - taken) bytes at) ≡ whole) where
  pub fields_end : taken ≡ count → whole ≡ Ok (done, at)
  unfolding doc_fields_at
  fields_end e =
      let none : count - taken ≡ 0 = omega arith in
      let here : prepended done (doc_fields_at fields least (count - taken) bytes at) ≡ got done at = rw none (ap (λ (l : List DocField). got l at) (append-nil done)) in
      sym so_far ∙ here

  pub fields_more : (f : DocField) (next above : ℕ) → taken < count → above ≡ f.number + 1 → doc_field_at fields least bytes at ≡ Ok (f, next)
      → prepended (done ++ f ∷ []) (doc_fields_at fields above (count - (taken + 1)) bytes next) ≡ whole
  unfolding doc_fields_at
  fields_more f next above lt is e =
      let left : count - taken ≡ suc (count - (taken + 1)) = omega arith in
      let later : above ≡ suc f.number = omega arith in
      let here : prepended done (doc_fields_at fields least (count - taken) bytes at) ≡ prepended done (with_first f (doc_fields_at fields (suc f.number) (count - (taken + 1)) bytes next)) = rw (left, e) refl in
      rw later (sym (prepended_one done f (doc_fields_at fields (suc f.number) (count - (taken + 1)) bytes next)) ∙ sym here ∙ so_far)

  one_field_fault : (c : Corrupt) → taken < count → doc_field_at fields least bytes at ≡ Err c → whole ≡ Err c
  unfolding doc_fields_at
  one_field_fault c lt e =
      let left : count - taken ≡ suc (count - (taken + 1)) = omega arith in
      let here : prepended done (doc_fields_at fields least (count - taken) bytes at) ≡ Err c = rw (left, e) refl in
      sym so_far ∙ here

  pub fields_fault : (f : DocFault) → taken < count → MayRead {X = DocField × ℕ} (λ x. x) (Err f) (doc_field_at fields least bytes at) → MayRead {X = List DocField × ℕ} (λ x. x) (Err f) whole
  fields_fault f lt is = fault_of_all f (doc_field_at fields least bytes at) whole (λ c e. one_field_fault c lt e) is
