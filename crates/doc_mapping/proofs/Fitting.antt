-- The document of a record is of its schema.
use Rattle.std.proofs.Common.{◌≡◌, ℕ, suc, ◌+◌, ◌≤◌, ◌&&◌, nat_le, nat_lt, is_some, append_assoc, Bool, true, false, List, [], ◌∷◌, ◌++◌, length, slice_get, Option, Some, None, Result, Ok, refl, sym, ap, ◌∙◌, subst, arith, inl, inr, IsTrue}
use Rattle.std.specs.Prelude.{IfSome, map, ℤ}
use Rattle.std.proofs.lemmas.Bool.{cases_Bool}
use Rattle.serde_json.specs.Data.{Data, Items, no_items, item, Members, depth}
use Rattle.serde_json.specs.Find.{as_bool, as_str, as_array, as_object}
use Rattle.doc_value.specs.declared.schema.Field.{Field}
use Rattle.doc_value.specs.declared.schema.Kind.{Kind}
use Rattle.doc_value.specs.declared.schema.Kind.TheVariants as kinds
use Rattle.doc_value.specs.declared.schema.Schema.{Schema}
use Rattle.doc_value.specs.declared.doc.Value.{Value}
use Rattle.doc_value.specs.declared.doc.Value.TheVariants as values
use Rattle.dynamic_paths.specs.LeafTexts.{fitting_texts}
use Rattle.dynamic_paths.specs.Leaves.{is_number, leaf_list}
use Rattle.doc_value.specs.declared.doc.DocField.{DocField}
use Rattle.doc_value.specs.Documents.{AreOfKind, HasGoodCount, FitsFrom, IsOfSchema}
use Rattle.doc_value.specs.Printed.{names_of}
use Rattle.index_config.specs.declared.config.IndexConfig.{IndexConfig}
use Rattle.doc_mapping.specs.declared.reject.Reject.{Reject}
use Rattle.doc_mapping.specs.Faults.{i64_of, u64_of, all_texts, members_fault}
use Rattle.doc_mapping.specs.Documents.{value_at, text_values, i64_values, u64_values, truth_values, second_of, date_values, texts_in, list_values, values_of, found_values, part_of, leaf_values, leaves_for, values_from, doc_from, doc_of, has_number}
use Rattle.doc_mapping.specs.Answer.{answer, read_answer, object_answer, counted_answer, fitting_answer, leaf_fault, timed_answer, lacks_timestamp, value_of, max_record, max_levels}

-- no value, or as many as a field of this kind may have
abbrev HasFewOf : Kind → List Value → Type 0
HasFewOf kind [] = Unit {0}
HasFewOf kind (v ∷ vs) = HasGoodCount kind (v ∷ vs)

abbrev AreValuesOf : Kind → List Value → Type 0
AreValuesOf kind vs = AreOfKind kind vs × HasFewOf kind vs

text-fits : (o : Option (List ℕ)) → AreValuesOf kinds.Text (text_values o)
text-fits None = (tt, tt)
text-fits (Some t) = ((tt, tt), refl)

i64-fits : (o : Option ℤ) → AreValuesOf kinds.I64 (i64_values o)
i64-fits None = (tt, tt)
i64-fits (Some n) = ((tt, tt), refl)

u64-fits : (o : Option ℕ) → AreValuesOf kinds.U64 (u64_values o)
u64-fits None = (tt, tt)
u64-fits (Some n) = ((tt, tt), refl)

truth-fits : (o : Option Bool) → AreValuesOf kinds.Bool (truth_values o)
truth-fits None = (tt, tt)
truth-fits (Some b) = ((tt, tt), refl)

date-fits : (o : Option ℤ) → AreValuesOf kinds.Datetime (date_values o)
date-fits None = (tt, tt)
date-fits (Some s) = ((tt, tt), refl)

some-fit : (vs : List Value) → HasFewOf kinds.TextList vs
some-fit [] = tt
some-fit (v ∷ vs) = omega arith

text-more : (o : Option (List ℕ)) (vs : List Value) → AreOfKind kinds.TextList vs → AreOfKind kinds.TextList (text_values o ++ vs)
text-more None vs h = h
text-more (Some t) vs h = (tt, h)

texts-fit : (items : Items) → AreOfKind kinds.TextList (texts_in items)
texts-fit no_items = tt
texts-fit (item d ds) = text-more (as_str d) (texts_in ds) (texts-fit ds)

list-kinds : (text : Option (List ℕ)) (items : Option Items) → AreOfKind kinds.TextList (list_values text items)
list-kinds (Some t) items = (tt, tt)
list-kinds None None = tt
list-kinds None (Some items) = texts-fit items

values-fit : (kind : Kind) (d : Data) → AreValuesOf kind (values_of kind d)
values-fit kinds.Text d = text-fits (as_str d)
values-fit kinds.I64 d = i64-fits (i64_of d)
values-fit kinds.U64 d = u64-fits (u64_of d)
values-fit kinds.Bool d = truth-fits (as_bool d)
values-fit kinds.Datetime d = date-fits (second_of (as_str d) (i64_of d))
values-fit kinds.TextList d = (list-kinds (as_str d) (as_array d), some-fit (list_values (as_str d) (as_array d)))

found-fit : (kind : Kind) (o : Option Data) → AreValuesOf kind (found_values kind o)
found-fit kind None = (tt, tt)
found-fit kind (Some d) = values-fit kind d

leaves-fit : (kind : Kind) (ls : List Value) → AreOfKind kinds.TextList ls → AreValuesOf kind (leaves_for kind ls)
leaves-fit kinds.Text ls h = (tt, tt)
leaves-fit kinds.I64 ls h = (tt, tt)
leaves-fit kinds.U64 ls h = (tt, tt)
leaves-fit kinds.Bool ls h = (tt, tt)
leaves-fit kinds.Datetime ls h = (tt, tt)
leaves-fit kinds.TextList ls h = (h, some-fit ls)

from-fits : (o : Option ℕ) (ls : List Value) (n : ℕ) (f : Field) (d : Data) → AreOfKind kinds.TextList ls → AreValuesOf f.kind (values_from o ls n f d)
from-fits o ls n f d h = by (is_number o n) refl
  where
    by : (b : Bool) → is_number o n ≡ b → AreValuesOf f.kind (values_from o ls n f d)
    by true e = rw e (leaves-fit f.kind ls h)
    by false e = rw e (found-fit f.kind (value_at (names_of f.path) d))

all-texts : (ts : List (List ℕ)) → AreOfKind kinds.TextList (map values.Text ts)
all-texts [] = tt
all-texts (t ∷ ts) = (tt, all-texts ts)

-- these fields stand in the whole list from number n on
abbrev StandFrom : List Field → ℕ → List Field → Type 0
StandFrom whole n fields = (m : ℕ) (f : Field) → slice_get fields m ≡ Some f → slice_get whole (n + m) ≡ Some f

stand-next : (whole : List Field) (n : ℕ) (f : Field) (fs : List Field) → StandFrom whole n (f ∷ fs) → StandFrom whole (suc n) fs
stand-next whole n f fs h m g e =
    let next : n + suc m ≡ suc n + m = omega arith in
    subst (λ (i : ℕ). slice_get whole i ≡ Some g) next (h (suc m) g e)

stands-here : (whole : List Field) (n : ℕ) (f : Field) (fs : List Field) → StandFrom whole n (f ∷ fs) → slice_get whole n ≡ Some f
stands-here whole n f fs h =
    let here : n + 0 ≡ n = omega arith in
    subst (λ (i : ℕ). slice_get whole i ≡ Some f) here (h 0 f refl)

part-fits : (whole : List Field) (n least : ℕ) (f : Field) (vs : List Value) (parts : List DocField) → slice_get whole n ≡ Some f → least ≤ n
    → AreValuesOf f.kind vs → ((low : ℕ) → low ≤ suc n → FitsFrom whole low parts) → FitsFrom whole least (part_of n vs ++ parts)
part-fits whole n least f [] parts at low own more = more least (omega arith)
part-fits whole n least f (v ∷ vs) parts at low own more = (low, rw at own, more (suc n) (omega arith))

module _ (o : Option ℕ) (ls : List Value) (texts : AreOfKind kinds.TextList ls) where
  doc-fits : (whole : List Field) (n least : ℕ) (fields : List Field) (d : Data) → StandFrom whole n fields → least ≤ n
      → FitsFrom whole least (doc_from o ls n fields d)
  doc-fits whole n least [] d at low = tt
  doc-fits whole n least (f ∷ fs) d at low =
      part-fits whole n least f (values_from o ls n f d) (doc_from o ls (suc n) fs d) (stands-here whole n f fs at) low
      (from-fits o ls n f d texts) (λ l below. doc-fits whole (suc n) l fs d (stand-next whole n f fs at) below)

document-fits : (schema : Schema) (d : Data) → FitsFrom schema.fields 0 (doc_of schema d)
document-fits schema d =
    doc-fits schema.dynamic (leaf_values schema d) (all-texts (fitting_texts (leaf_list schema d))) schema.fields 0 0 schema.fields d
    (λ m f e. let same : 0 + m ≡ m = omega arith in rw same e) (omega arith)

-- what an accepted document is
abbrev IsTaken : IndexConfig → List DocField → Type 0
IsTaken config doc = IsOfSchema config.schema doc × (lacks_timestamp config.timestamp_field doc ≡ false)

timed-taken : (config : IndexConfig) (made doc : List DocField) → IsOfSchema config.schema made → timed_answer config.timestamp_field made ≡ Ok doc
    → IsTaken config doc
timed-taken config made doc fits e =
    elim (cases_Bool (lacks_timestamp config.timestamp_field made)) [
      | inl lacks ↦ absurd (let refused = rw lacks at e in cc)
      | inr timed ↦
          let here : ◌≡◌ {A = Result (List DocField) Reject} (Ok made) (Ok doc) = rw timed at e in
          let same : made ≡ doc = cc in
          subst (IsTaken config) same (fits, timed)
    ]

fitting-taken : (config : IndexConfig) (d : Data) (fault : Option Reject) (doc : List DocField) → fitting_answer config d fault ≡ Ok doc → IsTaken config doc
fitting-taken config d None doc e = counted-taken (leaf_fault config.schema d) e
  where
    counted-taken : (fault : Option Reject) → counted_answer config d fault ≡ Ok doc → IsTaken config doc
    counted-taken None c = timed-taken config (doc_of config.schema d) doc (document-fits config.schema d) c
    counted-taken (Some refusal) c = absurd (cc)
fitting-taken config d (Some refusal) doc e = absurd (cc)

object-taken : (config : IndexConfig) (d : Data) (o : Option Members) (doc : List DocField) → object_answer config d o ≡ Ok doc → IsTaken config doc
object-taken config d None doc e = absurd (cc)
object-taken config d (Some members) doc e =
    elim (cases_Bool (nat_le (depth d) max_levels)) [
      | inl within ↦ fitting-taken config d (members_fault config [] members) doc (rw within at e)
      | inr deep ↦ absurd (let refused = rw deep at e in cc)
    ]

read-taken : (config : IndexConfig) (o : Option Data) (doc : List DocField) → read_answer config o ≡ Ok doc → IsTaken config doc
read-taken config None doc e = absurd (cc)
read-taken config (Some d) doc e = object-taken config d (as_object d) doc e

taken : (config : IndexConfig) (bytes : List ℕ) (doc : List DocField) → answer config bytes ≡ Ok doc → IsTaken config doc
taken config bytes doc e =
    elim (cases_Bool (nat_lt max_record (length bytes))) [
      | inl long ↦ absurd (let refused = rw long at e in cc)
      | inr short ↦ read-taken config (value_of bytes) doc (rw short at e)
    ]

pub accepted-fits : (config : IndexConfig) (bytes : List ℕ) (doc : List DocField) → answer config bytes ≡ Ok doc → IsOfSchema config.schema doc
accepted-fits config bytes doc e = (taken config bytes doc e).0

stamped : (o : Option ℕ) (doc : List DocField) → lacks_timestamp o doc ≡ false → IfSome o (λ n. IsTrue (has_number doc n))
stamped None doc e = tt
stamped (Some n) doc e =
    elim (cases_Bool (has_number doc n)) [
      | inl has ↦ has
      | inr lacks ↦ absurd (let none = rw lacks at e in cc)
    ]

pub accepted-stamped : (config : IndexConfig) (bytes : List ℕ) (doc : List DocField) → answer config bytes ≡ Ok doc
    → IfSome config.timestamp_field (λ n. IsTrue (has_number doc n))
accepted-stamped config bytes doc e = stamped config.timestamp_field doc (taken config bytes doc e).1

-- one more text of a list
pub texts_step : (whole rest after : Items) (d : Data) (old new : List Value) (is : Bool) → rest ≡ item d after → all_texts whole ≡ all_texts rest
    → texts_in whole ≡ old ++ texts_in rest → is ≡ is_some (as_str d) → is ≡ true → new ≡ old ++ text_values (as_str d)
    → (all_texts whole ≡ all_texts after) × (texts_in whole ≡ new ++ texts_in after)
texts_step whole rest after d old new is r a t some told n =
    let one : is_some (as_str d) ≡ true = sym some ∙ told in (
      a ∙ ap all_texts r ∙ ap (λ b. b && all_texts after) one,
      t ∙ ap (λ x. old ++ texts_in x) r ∙ sym (append_assoc old (text_values (as_str d)) (texts_in after)) ∙ ap (λ x. x ++ texts_in after) (sym n),
    )
