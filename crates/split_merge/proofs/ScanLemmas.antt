-- Documents that are read in place, value by value and field by field.
use Rattle.std.proofs.Common.{◌≡◌, ℕ, suc, ◌+◌, ◌-◌, ◌^◌, ◌<◌, ◌≤◌, Bool, true, false, List, [], ◌∷◌, ◌++◌, length, drop, Result, Ok, Err, refl, sym, ap, subst, ◌∙◌, arith, append_assoc, length-append, eq-eqb}
use Rattle.std.specs.Prelude.{◌==◌, if◌then◌else◌}
use Rattle.std.specs.List.{AllByRecursion, flat_map}
use Rattle.std.proofs.lemmas.Bool.{ne_eqb}
use Rattle.std.proofs.lemmas.List.{append-nil}
use Rattle.byte_fields.specs.declared.corrupt.Corrupt.{Corrupt}
use Rattle.byte_fields.specs.Spelling.{SpelledAt, varint}
use Rattle.byte_fields.specs.Steps.{◌>>=◌, number_at}
use Rattle.byte_fields.proofs.Taken.{SpelledAt-then}
use Rattle.doc_value.specs.declared.doc.DocField.{DocField}
use Rattle.doc_value.specs.declared.doc.Value.{Value}
use Rattle.doc_value.specs.declared.schema.Field.{Field}
use Rattle.doc_value.specs.declared.schema.Kind.{Kind}
use Rattle.doc_value.specs.declared.schema.Schema.{Schema}
use Rattle.split_bundle.specs.declared.placed.Placed.{Placed}
use Rattle.split_bundle.specs.declared.split_error.SplitError.{SplitError}
use Rattle.split_bundle.specs.declared.split_error.SplitError.TheVariants.{Memory, BadMagic, Truncated, BadSection, BadVersion}
use Rattle.split_bundle.specs.DocReading.{counted_values, doc_field_at, doc_fields_at, kind_at, may_have, value_at, values_at}
use Rattle.split_bundle.specs.Documents.{doc_bytes, field_bytes, value_bytes}
use Rattle.split_bundle.specs.Held.{AreHeld, IsHeldValue}
use Rattle.split_bundle.proofs.DocLoops.{fields_begun, fields_end, fields_more, prepended, values_begun, values_end, values_more}
use Rattle.term_postings.proofs.Lists.{all_both}
use Rattle.split_merge.specs.declared.facts.FieldFacts.{FieldFacts}
use Rattle.split_merge.specs.declared.scanning.DocHead.{DocHead}
use Rattle.split_merge.specs.declared.scanning.FieldHead.{FieldHead}
use Rattle.split_merge.specs.Facts.{HasFacts}
use Rattle.split_merge.proofs.GainLemmas.{same_facts}
use Rattle.split_merge.specs.Scanning.{HasStored, HasTaken, HasTakenAll, HasValues, Scans, doc_head_at, document_at, field_head_at, holding}

-- a fault
pub scan_stop : {X Y : Type 0} (holds : X → Y → Type 0) (e : SplitError) (read : Result Y Corrupt) (c : Corrupt) → e ≡ BadSection 1 → read ≡ Err c → Scans holds (Err e) read
scan_stop holds e read c is stop = subst (λ (x : SplitError). Scans holds (Err x) read) (sym is) (refl, c, stop)

-- a fault of what was read is one of what is read by it
pub scan_fails : {X Y V W : Type 0} (here : X → Y → Type 0) (holds : V → W → Type 0) (e : SplitError) (read : Result Y Corrupt) (whole : Result W Corrupt) → ((c : Corrupt) → read ≡ Err c → whole ≡ Err c) → Scans here (Err e) read → Scans holds (Err e) whole
scan_fails here holds (Memory a) read whole fails scans = tt
scan_fails here holds BadMagic read whole fails scans = scans
scan_fails here holds (Truncated at) read whole fails scans = scans
scan_fails here holds (BadSection number) read whole fails scans = (scans.0, scans.1, fails scans.1 scans.2)
scan_fails here holds (BadVersion version) read whole fails scans = scans

pub drop_all : (bytes : List ℕ) → drop (length bytes) bytes ≡ []
drop_all [] = refl
drop_all (b ∷ bs) = drop_all bs

-- nothing is spelled at a place
pub none_spelled : (bytes : List ℕ) (at : ℕ) → at ≤ length bytes → SpelledAt bytes at [] at
none_spelled bytes at le = record { parts = refl; next_is = omega arith; within = le }

flat_push : {X : Type 0} (f : X → List ℕ) (xs : List X) (x : X) → flat_map f (xs ++ x ∷ []) ≡ flat_map f xs ++ f x
flat_push f [] x = append-nil (f x)
flat_push f (y ∷ ys) x = ap (λ (l : List ℕ). f y ++ l) (flat_push f ys x) ∙ sym (append_assoc (f y) (flat_map f ys) (f x))

pub spelled_more : {X : Type 0} (bytes : List ℕ) (from at next : ℕ) (f : X → List ℕ) (xs : List X) (x : X) → SpelledAt bytes from (flat_map f xs) at → SpelledAt bytes at (f x) next → SpelledAt bytes from (flat_map f (xs ++ x ∷ [])) next
spelled_more bytes from at next f xs x so_far here = subst (λ (l : List ℕ). SpelledAt bytes from l next) (sym (flat_push f xs x)) (SpelledAt-then bytes from at next (flat_map f xs) (f x) so_far here)

longer : {X : Type 0} (xs : List X) (x : X) (n m : ℕ) → length xs ≡ n → m ≡ n + 1 → length (xs ++ x ∷ []) ≡ m
longer xs x n m is next = omega (arith, length-append xs (x ∷ []), is, next)

-- ---- the values of a field

module _ (s : Schema) (documents : List Placed) (fs : List DocField) (head : FieldHead) (bytes : List ℕ) where
  pub record ValuesSoFar (f : FieldFacts) (taken at : ℕ) : Type 0 where
    pub done : List Value
    pub count : length done ≡ taken
    pub read : prepended done (values_at head.kind (head.count - taken) bytes at) ≡ values_at head.kind head.count bytes head.from
    pub spelled : SpelledAt bytes head.from (flat_map value_bytes done) at
    pub held : AllByRecursion IsHeldValue done
    pub facts : HasFacts f s (documents ++ holding (fs ++ record { number = head.number; values = done } ∷ []) ∷ [])

  pub values_first : (f : FieldFacts) → head.from ≤ length bytes → HasFacts f s (documents ++ holding (fs ++ record { number = head.number; values = [] } ∷ []) ∷ []) → ValuesSoFar f 0 head.from
  values_first f within facts = record { done = []; count = refl; read = values_begun head.kind bytes head.count head.from [] refl; spelled = none_spelled bytes head.from within; held = tt; facts = facts }

  pub values_next : (f g : FieldFacts) (taken after at next : ℕ) (v : Value) (so_far : ValuesSoFar f taken at) → taken < head.count → after ≡ taken + 1 → value_at head.kind bytes at ≡ Ok (v, next) → SpelledAt bytes at (value_bytes v) next → IsHeldValue v
      → HasFacts g s (documents ++ holding (fs ++ record { number = head.number; values = so_far.done ++ v ∷ [] } ∷ []) ∷ []) → ValuesSoFar g after next
  values_next f g taken after at next v so_far lt after_is read spelled held facts = record {
    done = so_far.done ++ v ∷ [];
    count = longer so_far.done v taken after so_far.count after_is;
    read = ap (λ (n : ℕ). prepended (so_far.done ++ v ∷ []) (values_at head.kind (head.count - n) bytes next)) after_is ∙ values_more head.kind bytes head.count taken at so_far.done _ so_far.read v next lt read;
    spelled = spelled_more bytes head.from at next value_bytes so_far.done v so_far.spelled spelled;
    held = all_both IsHeldValue so_far.done (v ∷ []) so_far.held (held, tt);
    facts = facts;
  }

  pub values_all : (f : FieldFacts) (taken at : ℕ) → taken ≡ head.count → ValuesSoFar f taken at → Scans (HasValues f s documents fs head bytes) (Ok at) (values_at head.kind head.count bytes head.from)
  values_all f taken at all so_far = (
    (so_far.done, at),
    values_end head.kind bytes head.count taken at so_far.done _ so_far.read all,
    record { next_is = refl; count = so_far.count ∙ all; spelled = so_far.spelled; held = so_far.held; facts = so_far.facts },
  )

  pub values_stop : (f : FieldFacts) (taken at : ℕ) (c : Corrupt) → taken < head.count → value_at head.kind bytes at ≡ Err c → ValuesSoFar f taken at → values_at head.kind head.count bytes head.from ≡ Err c
  unfolding values_at
  values_stop f taken at c lt e so_far =
      let left : head.count - taken ≡ suc (head.count - (taken + 1)) = omega arith in
      let here : prepended so_far.done (values_at head.kind (head.count - taken) bytes at) ≡ Err c = rw (left, e) refl in
      sym so_far.read ∙ here

-- ---- a field

module _ (fields : List Field) (least : ℕ) (bytes : List ℕ) (at : ℕ) where
  abbrev with_values : FieldHead → Result (List Value × ℕ) Corrupt → Result (DocField × ℕ) Corrupt
  with_values head r = r >>= λ values. Ok (record { number = head.number; values = values.0 }, values.1)

  abbrev of_head : Result FieldHead Corrupt → Result (DocField × ℕ) Corrupt
  of_head r = r >>= λ head. with_values head (values_at head.kind head.count bytes head.from)

  field_of_head : doc_field_at fields least bytes at ≡ of_head (field_head_at fields least bytes at)
  unfolding doc_field_at field_head_at
  field_of_head = numbered (number_at bytes at)
    where
      counted : (number : ℕ × ℕ) (kind : Kind) (count : ℕ × ℕ) (b : Bool)
          → ((if b then values_at kind count.0 bytes count.1 else Err (record { at = number.1 })) >>= λ values. Ok (record { number = number.0; values = values.0 }, values.1))
          ≡ of_head (if b then Ok (record { number = number.0; kind = kind; count = count.0; from = count.1 }) else Err (record { at = number.1 }))
      counted number kind count true = refl
      counted number kind count false = refl

      behind_kind : (number : ℕ × ℕ) (kind : Kind) (r : Result (ℕ × ℕ) Corrupt)
          → (r >>= λ count. counted_values kind count.0 bytes count.1 number.1 >>= λ values. Ok (record { number = number.0; values = values.0 }, values.1))
          ≡ of_head (r >>= λ count. (if may_have kind count.0 then Ok (record { number = number.0; kind = kind; count = count.0; from = count.1 }) else Err (record { at = number.1 })))
      behind_kind number kind (Ok count) = counted number kind count (may_have kind count.0)
      behind_kind number kind (Err c) = refl

      behind_number : (number : ℕ × ℕ) (r : Result Kind Corrupt)
          → (r >>= λ kind. number_at bytes number.1 >>= λ count. counted_values kind count.0 bytes count.1 number.1 >>= λ values. Ok (record { number = number.0; values = values.0 }, values.1))
          ≡ of_head (r >>= λ kind. number_at bytes number.1 >>= λ count. (if may_have kind count.0 then Ok (record { number = number.0; kind = kind; count = count.0; from = count.1 }) else Err (record { at = number.1 })))
      behind_number number (Ok kind) = behind_kind number kind (number_at bytes number.1)
      behind_number number (Err c) = refl

      numbered : (r : Result (ℕ × ℕ) Corrupt)
          → (r >>= λ number. kind_at fields least number.0 at >>= λ kind. number_at bytes number.1 >>= λ count. counted_values kind count.0 bytes count.1 number.1 >>= λ values. Ok (record { number = number.0; values = values.0 }, values.1))
          ≡ of_head (r >>= λ number. kind_at fields least number.0 at >>= λ kind. number_at bytes number.1 >>= λ count. (if may_have kind count.0 then Ok (record { number = number.0; kind = kind; count = count.0; from = count.1 }) else Err (record { at = number.1 })))
      numbered (Ok number) = behind_number number (kind_at fields least number.0 at)
      numbered (Err c) = refl

  pub field_stop : (c : Corrupt) → field_head_at fields least bytes at ≡ Err c → doc_field_at fields least bytes at ≡ Err c
  field_stop c e = field_of_head ∙ ap of_head e

  pub field_values : (head : FieldHead) (vs : List Value) (next : ℕ) → field_head_at fields least bytes at ≡ Ok head → values_at head.kind head.count bytes head.from ≡ Ok (vs, next) → doc_field_at fields least bytes at ≡ Ok (record { number = head.number; values = vs }, next)
  field_values head vs next e read = field_of_head ∙ ap of_head e ∙ ap (with_values head) read

  pub values_fail : (head : FieldHead) (c : Corrupt) → field_head_at fields least bytes at ≡ Ok head → values_at head.kind head.count bytes head.from ≡ Err c → doc_field_at fields least bytes at ≡ Err c
  values_fail head c e read = field_of_head ∙ ap of_head e ∙ ap (with_values head) read

  pub field_taken : (f : FieldFacts) (s : Schema) (documents : List Placed) (fs : List DocField) (head : FieldHead) (next : ℕ) (found : (middle : ℕ) × SpelledAt bytes at (varint head.number) middle × SpelledAt bytes middle (varint head.count) head.from)
      → field_head_at fields least bytes at ≡ Ok head → Scans (HasValues f s documents fs head bytes) (Ok next) (values_at head.kind head.count bytes head.from) → Scans (HasTaken f s documents fs bytes at) (Ok (head.number + 1, next)) (doc_field_at fields least bytes at)
  field_taken f s documents fs head next (middle, number, count) e (read, read_is, has) = (
    (record { number = head.number; values = read.0 }, read.1),
    field_values head read.0 read.1 e read_is,
    record {
      above = refl;
      next_is = has.next_is;
      spelled = SpelledAt-then bytes at middle next (varint head.number) (varint (length read.0) ++ flat_map value_bytes read.0) number
          (SpelledAt-then bytes middle head.from next (varint (length read.0)) (flat_map value_bytes read.0) (subst (λ (n : ℕ). SpelledAt bytes middle (varint n) head.from) (sym has.count) count) has.spelled);
      held = has.held;
      facts = has.facts;
    },
  )

pub all_below : (least number : ℕ) (fs : List DocField) → least ≤ number → AllByRecursion (λ f. f.number < least) fs → AllByRecursion (λ f. f.number < number) fs
all_below least number [] le below = tt
all_below least number (f ∷ fs) le below = (omega (arith, le, below.0), all_below least number fs le below.1)

-- ---- the fields of a document

abbrev got_one : DocField → ℕ → Result (DocField × ℕ) Corrupt
got_one f n = Ok (f, n)

module _ (s : Schema) (documents : List Placed) (fields : List Field) (total : ℕ) (bytes : List ℕ) (from : ℕ) where
  pub record FieldsSoFar (f : FieldFacts) (taken least at : ℕ) : Type 0 where
    pub done : List DocField
    pub count : length done ≡ taken
    pub below : AllByRecursion (λ f. f.number < least) done
    pub read : prepended done (doc_fields_at fields least (total - taken) bytes at) ≡ doc_fields_at fields 0 total bytes from
    pub spelled : SpelledAt bytes from (flat_map field_bytes done) at
    pub held : AreHeld done
    pub facts : HasFacts f s (documents ++ holding done ∷ [])

  pub fields_first : (f : FieldFacts) → from ≤ length bytes → HasFacts f s (documents ++ holding [] ∷ []) → FieldsSoFar f 0 0 from
  fields_first f within facts = record { done = []; count = refl; below = tt; read = fields_begun fields bytes total from [] refl; spelled = none_spelled bytes from within; held = tt; facts = facts }

  pub fields_next : (f g : FieldFacts) (taken least at above next : ℕ) (so_far : FieldsSoFar f taken least at) → taken < total → Scans (HasTaken g s documents so_far.done bytes at) (Ok (above, next)) (doc_field_at fields least bytes at) → least ≤ above → FieldsSoFar g (taken + 1) above next
  fields_next f g taken least at above next so_far lt (read, read_is, has) le = record {
    done = so_far.done ++ read.0 ∷ [];
    count = longer so_far.done read.0 taken (taken + 1) so_far.count refl;
    below = all_both (λ f. f.number < above) so_far.done (read.0 ∷ []) (all_below least above so_far.done le so_far.below) (omega (arith, has.above), tt);
    read = fields_more fields bytes total taken least at so_far.done _ so_far.read read.0 next above lt has.above (read_is ∙ ap (λ (n : ℕ). got_one read.0 n) (sym has.next_is));
    spelled = spelled_more bytes from at next field_bytes so_far.done read.0 so_far.spelled has.spelled;
    held = all_both (λ f. AllByRecursion IsHeldValue f.values) so_far.done (read.0 ∷ []) so_far.held (has.held, tt);
    facts = has.facts;
  }

  pub fields_all : (f : FieldFacts) (taken least at : ℕ) → taken ≡ total → FieldsSoFar f taken least at → Scans (HasTakenAll f s documents total bytes from) (Ok at) (doc_fields_at fields 0 total bytes from)
  fields_all f taken least at all so_far = (
    (so_far.done, at),
    fields_end fields bytes total taken least at so_far.done _ so_far.read all,
    record { next_is = refl; count = so_far.count ∙ all; spelled = so_far.spelled; held = so_far.held; facts = so_far.facts },
  )

  pub fields_stop : (f : FieldFacts) (taken least at : ℕ) (c : Corrupt) → taken < total → FieldsSoFar f taken least at → doc_field_at fields least bytes at ≡ Err c → doc_fields_at fields 0 total bytes from ≡ Err c
  unfolding doc_fields_at
  fields_stop f taken least at c lt so_far e =
      let left : total - taken ≡ suc (total - (taken + 1)) = omega arith in
      let here : prepended so_far.done (doc_fields_at fields least (total - taken) bytes at) ≡ Err c = rw (left, e) refl in
      sym so_far.read ∙ here

-- ---- a document

module _ (fields : List Field) (bytes : List ℕ) where
  abbrev with_doc : DocHead → Result (List DocField × ℕ) Corrupt → Result (ℕ × (ℕ × List DocField)) Corrupt
  with_doc head r = r >>= λ doc. if doc.1 == length bytes then Ok (head.place, (head.offset, doc.0)) else Err (record { at = doc.1 })

  abbrev of_doc_head : Result DocHead Corrupt → Result (ℕ × (ℕ × List DocField)) Corrupt
  of_doc_head r = r >>= λ head. with_doc head (doc_fields_at fields 0 head.count bytes head.from)

  document_of_head : document_at fields bytes ≡ of_doc_head (doc_head_at bytes)
  unfolding document_at
  document_of_head = refl

  pub head_stop : (c : Corrupt) → doc_head_at bytes ≡ Err c → document_at fields bytes ≡ Err c
  head_stop c e = document_of_head ∙ ap of_doc_head e

  pub fields_fail : (head : DocHead) (c : Corrupt) → doc_head_at bytes ≡ Ok head → doc_fields_at fields 0 head.count bytes head.from ≡ Err c → document_at fields bytes ≡ Err c
  fields_fail head c e read = document_of_head ∙ ap of_doc_head e ∙ ap (with_doc head) read

  -- bytes are left behind the fields
  pub end_stop : (head : DocHead) (doc : List DocField × ℕ) → doc_head_at bytes ≡ Ok head → doc_fields_at fields 0 head.count bytes head.from ≡ Ok doc → (doc.1 ≡ length bytes → ⊥) → document_at fields bytes ≡ Err (record { at = doc.1 })
  end_stop head doc e read apart = document_of_head ∙ ap of_doc_head e ∙ ap (with_doc head) read ∙ rw (ne_eqb doc.1 (length bytes) apart) refl

  whole : (head : DocHead) (doc : List DocField × ℕ) → doc_head_at bytes ≡ Ok head → doc_fields_at fields 0 head.count bytes head.from ≡ Ok doc → doc.1 ≡ length bytes → document_at fields bytes ≡ Ok (head.place, (head.offset, doc.0))
  whole head doc e read end = document_of_head ∙ ap of_doc_head e ∙ ap (with_doc head) read ∙ rw (eq-eqb doc.1 (length bytes) end) refl

  pub document_taken : (f : FieldFacts) (s : Schema) (documents : List Placed) (head : DocHead) (end : ℕ)
      → (middle : ℕ) × SpelledAt bytes 0 (varint head.place) head.behind × SpelledAt bytes head.behind (varint head.offset) middle × SpelledAt bytes middle (varint head.count) head.from → head.offset < 2 ^ 64 → doc_head_at bytes ≡ Ok head
      → Scans (HasTakenAll f s documents head.count bytes head.from) (Ok end) (doc_fields_at fields 0 head.count bytes head.from) → end ≡ length bytes → Scans (HasStored f s documents bytes) (Ok (head.place, head.behind)) (document_at fields bytes)
  document_taken f s documents head end (middle, place, offset, count) small e (doc, doc_is, has) end_is = (
    (head.place, (head.offset, doc.0)),
    whole head doc e doc_is (sym has.next_is ∙ end_is),
    record {
      place = refl;
      body = λ partition. body;
      held = λ partition. record { offset = small; doc = has.held };
      facts = λ partition. same_facts documents (holding doc.0) (record { partition = partition; offset = head.offset; doc = doc.0 }) (λ n. refl) f s has.facts;
    },
  )
    where
      spelled : SpelledAt bytes head.behind (varint head.offset ++ doc_bytes doc.0) end
      spelled = SpelledAt-then bytes head.behind middle end (varint head.offset) (doc_bytes doc.0) offset
          (SpelledAt-then bytes middle head.from end (varint (length doc.0)) (flat_map field_bytes doc.0) (subst (λ (n : ℕ). SpelledAt bytes middle (varint n) head.from) (sym has.count) count) has.spelled)

      body : drop head.behind bytes ≡ varint head.offset ++ doc_bytes doc.0
      body = spelled.parts ∙ ap (λ (l : List ℕ). (varint head.offset ++ doc_bytes doc.0) ++ l) (ap (λ (n : ℕ). drop n bytes) end_is ∙ drop_all bytes) ∙ append-nil (varint head.offset ++ doc_bytes doc.0)
