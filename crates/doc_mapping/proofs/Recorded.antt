-- What a record that is accepted holds.
use Rattle.std.proofs.Common.{◌≡◌, ◌≢◌, ℕ, zero, suc, ◌==◌, ◌+◌, ◌<◌, nat_le, nat_lt, Bool, true, false, List, [], ◌∷◌, ◌++◌, append-nil, length, slice_get, Option, Some, None, Result, Ok, refl, ap, sym, ◌∙◌, subst, arith, ◌⊎◌, inl, inr, if◌then◌else◌}
use Rattle.std.specs.Cmp.{unsigned_Decides}
use Rattle.std.specs.Ordering.{nat_cmp, is_eq}
use Rattle.std.specs.Cmp.Lexicographic.{slice_cmp}
use Rattle.std.specs.declared.cmp.Ordering.{Ordering}
use Rattle.std.specs.declared.cmp.Ordering.TheVariants.{Less, Equal, Greater}
use Rattle.std.proofs.lemmas.Bool.{cases_Bool}
use Rattle.std.proofs.lemmas.Bool.Decides.{nat_tests}
use Rattle.std.proofs.lemmas.Slice.Eq.{bytes_eq-Decides}
use Rattle.std.proofs.lemmas.Map.Text.{is_eq-slice_cmp}
use Rattle.serde_json.specs.Data.{Data, null, boolean, number, string, array, object, Members, depth}
use Rattle.serde_json.specs.Find.{as_object}
use Rattle.doc_value.specs.declared.schema.Field.{Field}
use Rattle.doc_value.specs.declared.doc.Value.{Value}
use Rattle.doc_value.specs.declared.doc.DocField.{DocField}
use Rattle.doc_value.specs.declared.schema.Kind.{Kind}
use Rattle.doc_value.specs.declared.schema.Kind.TheVariants as kinds
use Rattle.doc_value.specs.declared.schema.Schema.{Schema}
use Rattle.doc_value.specs.Documents.{PathsRise, mapped_fields}
use Rattle.dynamic_paths.specs.Leaves.{is_number, is_object}
use Rattle.doc_value.specs.Printed.{names_of}
use Rattle.index_config.specs.declared.config.Mode.TheVariants.{Strict}
use Rattle.index_config.specs.declared.config.IndexConfig.{IndexConfig}
use Rattle.doc_mapping.specs.declared.reject.Reject.{Reject}
use Rattle.doc_mapping.specs.Answer.{answer, read_answer, object_answer, counted_answer, fitting_answer, leaf_fault, timed_answer, lacks_timestamp, value_of, max_record, max_levels}
use Rattle.doc_mapping.specs.Faults.{formats_at, mapped_at, number_of_mapped, unmapped, has_dot, path_fault, members_fault, inner_fault}
use Rattle.doc_mapping.specs.Documents.{value_at, found_values, part_of, leaf_values, leaves_for, values_from, doc_from, doc_of}
use Rattle.doc_mapping.specs.Held.{values_at, Holds, HoldsObject, IsObjectAt, path_from, ArePlain, IsMapped, IsHeldBy}
use Rattle.index_config.specs.Accepted.{BeginsPlain, BeginPlain}
use Rattle.doc_mapping.proofs.Holding.{some_none, none_some, value_just, plain_names, name_first, front, path_again}
use Rattle.doc_mapping.specs.Leaves.{leaves_at}
use Rattle.doc_mapping.specs.Walk.{RiseFrom, Enters}
use Rattle.doc_mapping.proofs.Mapped.{mapped_is, mapped_by, stands_mapped, found_mapped, object_by, object_from}
use Rattle.doc_mapping.proofs.Numbering.{same_parts, doc_rises, values_past, number_cases, not_same}
use Rattle.doc_mapping.proofs.Walked.{last, IsFitting, Descends, descends_strict, descends_to, walk, strict_refuses}

-- the document's values of a field are those that stand at its path
differ : (m n : ℕ) → n < m → (m == n) ≡ false
differ m n l = grind (arith, nat_tests)

less_other : (m n : ℕ) → m < n → (m == n) ≡ false
less_other m n l = grind (arith, nat_tests)

part_other : (m n : ℕ) (vs : List Value) (parts : List DocField) → (m == n) ≡ false → values_at (part_of m vs ++ parts) n ≡ values_at parts n
part_other m n [] parts e = refl
part_other m n (v ∷ vs) parts e = rw e refl

module _ (o : Option ℕ) (ls : List Value) where
  values_none : (fs : List Field) (m n : ℕ) (d : Data) → n < m → values_at (doc_from o ls m fs d) n ≡ []
  values_none [] m n d l = refl
  values_none (f ∷ fs) m n d l =
      part_other m n (values_from o ls m f d) (doc_from o ls (suc m) fs d) (differ m n l) ∙ values_none fs (suc m) n d (omega arith)

  values_here : (fs : List Field) (m n : ℕ) (d : Data) (vs : List Value) → m ≡ n → values_at (part_of m vs ++ doc_from o ls (suc m) fs d) n ≡ vs
  values_here fs m n d [] e = values_none fs (suc m) n d (omega arith)
  values_here fs m n d (v ∷ vs) e = rw ((unsigned_Decides m n).1 e) refl

  pub values_found : (fs : List Field) (m k n : ℕ) (f : Field) (d : Data) → slice_get fs k ≡ Some f → n ≡ m + k
      → values_at (doc_from o ls m fs d) n ≡ values_from o ls n f d
  values_found [] m k n f d a e = none_some f a
  values_found (g ∷ fs) m zero n f d a e =
      let same : g ≡ f = cc in
      let at : m ≡ n = omega arith in
      values_here fs m n d (values_from o ls m g d) at
      ∙ ap (λ (x : Field). values_from o ls m x d) same ∙ ap (λ (i : ℕ). values_from o ls i f d) at
  values_found (g ∷ fs) m (suc k) n f d a e =
      part_other m n (values_from o ls m g d) (doc_from o ls (suc m) fs d) (less_other m n (omega arith))
      ∙ values_found fs (suc m) k n f d a (omega arith)

  values_mapped_by : (n : ℕ) (f : Field) (d : Data) → is_number o n ≡ false → values_from o ls n f d ≡ found_values f.kind (value_at (names_of f.path) d)
  values_mapped_by n f d h = rw h refl

  values_dynamic_by : (n : ℕ) (f : Field) (d : Data) → is_number o n ≡ true → values_from o ls n f d ≡ leaves_for f.kind ls
  values_dynamic_by n f d h = rw h refl

nothing_for : (kind : Kind) → leaves_for kind [] ≡ []
nothing_for kinds.Text = refl
nothing_for kinds.I64 = refl
nothing_for kinds.U64 = refl
nothing_for kinds.Bool = refl
nothing_for kinds.Datetime = refl
nothing_for kinds.TextList = refl

module _ (schema : Schema) (ls : List Value) (d : Data) (n : ℕ) where
  -- what a document has of a mapped field, of the field for what is not mapped, and of a number that no mapped field has
  pub values_mapped : (f : Field) → mapped_at schema n ≡ Some f → values_at (doc_from schema.dynamic ls 0 schema.fields d) n ≡ found_values f.kind (value_at (names_of f.path) d)
  values_mapped f a =
      let own = mapped_is schema n f a in
      values_found schema.dynamic ls schema.fields 0 n n f d own.0 (omega arith) ∙ values_mapped_by schema.dynamic ls n f d own.1

  pub values_dynamic : (f : Field) → slice_get schema.fields n ≡ Some f → is_number schema.dynamic n ≡ true → values_at (doc_from schema.dynamic ls 0 schema.fields d) n ≡ leaves_for f.kind ls
  values_dynamic f a h = values_found schema.dynamic ls schema.fields 0 n n f d a (omega arith) ∙ values_dynamic_by schema.dynamic ls n f d h

pub values_unmapped : (schema : Schema) (d : Data) (n : ℕ) → mapped_at schema n ≡ None → values_at (doc_from schema.dynamic [] 0 schema.fields d) n ≡ []
values_unmapped schema d n a = by (slice_get schema.fields n) refl
  where
    dynamic : (f : Field) → slice_get schema.fields n ≡ Some f → (b : Bool) → is_number schema.dynamic n ≡ b → is_number schema.dynamic n ≡ true
    dynamic f e true h = h
    dynamic f e false h = some_none f (sym (mapped_by schema n f e h) ∙ a)

    by : (o : Option Field) → slice_get schema.fields n ≡ o → values_at (doc_from schema.dynamic [] 0 schema.fields d) n ≡ []
    by None e = values_past schema.dynamic [] schema.fields 0 n n d e (omega arith)
    by (Some f) e = values_dynamic schema [] d n f e (dynamic f e (is_number schema.dynamic n) refl) ∙ nothing_for f.kind

pub its_number : (o : Option ℕ) (n : ℕ) → o ≡ Some n → is_number o n ≡ true
its_number o n e = rw e ((unsigned_Decides n n).1 refl)

pub not_its_number : (o : Option ℕ) (m n : ℕ) → o ≡ Some m → n ≢ m → is_number o n ≡ false
not_its_number o m n e other = rw e (not_same m n (λ same. other (sym same)))

pub dynamic_unmapped : (schema : Schema) (n : ℕ) → schema.dynamic ≡ Some n → mapped_at schema n ≡ None
dynamic_unmapped schema n e = rw (its_number schema.dynamic n e) refl

none_same : (xs ys : List Value) (n : ℕ) (fs : List Field) (d : Data) → doc_from None xs n fs d ≡ doc_from None ys n fs d
none_same xs ys n [] d = refl
none_same xs ys n (f ∷ fs) d = ap (λ (r : List DocField). part_of n (found_values f.kind (value_at (names_of f.path) d)) ++ r) (none_same xs ys (suc n) fs d)

-- where there is no field for what is not mapped, leaves say nothing
pub no_dynamic : (schema : Schema) (xs ys : List Value) (d : Data) → schema.dynamic ≡ None
    → doc_from schema.dynamic xs 0 schema.fields d ≡ doc_from schema.dynamic ys 0 schema.fields d
no_dynamic schema xs ys d e = subst (λ (o : Option ℕ). doc_from o xs 0 schema.fields d ≡ doc_from o ys 0 schema.fields d) (sym e) (none_same xs ys 0 schema.fields d)

module _ (schema : Schema) (ls : List Value) (d : Data) (m : ℕ) (its : schema.dynamic ≡ Some m) where
  mapped_still : (n : ℕ) → n ≢ m → (o : Option Field) → slice_get schema.fields n ≡ o
      → values_at (doc_from schema.dynamic [] 0 schema.fields d) n ≡ values_at (doc_from schema.dynamic ls 0 schema.fields d) n
  mapped_still n other None e = values_past schema.dynamic [] schema.fields 0 n n d e (omega arith) ∙ sym (values_past schema.dynamic ls schema.fields 0 n n d e (omega arith))
  mapped_still n other (Some f) e =
      let a : mapped_at schema n ≡ Some f = mapped_by schema n f e (not_its_number schema.dynamic m n its other) in
      values_mapped schema [] d n f a ∙ sym (values_mapped schema ls d n f a)

  dynamic_own : (o : Option Field) → slice_get schema.fields m ≡ o → leaves_at o ls ≡ values_at (doc_from schema.dynamic ls 0 schema.fields d) m
  dynamic_own None e = sym (values_past schema.dynamic ls schema.fields 0 m m d e (omega arith))
  dynamic_own (Some f) e = sym (values_dynamic schema ls d m f e (its_number schema.dynamic m its))

  -- the mapped values with the leaves are the document
  pub with_dynamic : (old new : List DocField) → old ≡ doc_from schema.dynamic [] 0 schema.fields d
      → (RiseFrom 0 old → values_at old m ≡ [] → Enters m (leaves_at (slice_get schema.fields m) ls) old new) → new ≡ doc_from schema.dynamic ls 0 schema.fields d
  with_dynamic old new made enters =
      same_parts new (doc_from schema.dynamic ls 0 schema.fields d) 0 entered.rise (doc_rises schema.dynamic ls 0 0 schema.fields d (omega arith)) same
    where
      entered : Enters m (leaves_at (slice_get schema.fields m) ls) old new
      entered =
          enters (subst (RiseFrom 0) (sym made) (doc_rises schema.dynamic [] 0 0 schema.fields d (omega arith)))
          (ap (λ xs. values_at xs m) made ∙ values_unmapped schema d m (dynamic_unmapped schema m its))

      others : (n : ℕ) → n ≢ m → values_at new n ≡ values_at (doc_from schema.dynamic ls 0 schema.fields d) n
      others n other = entered.others n other ∙ ap (λ xs. values_at xs n) made ∙ mapped_still n other (slice_get schema.fields n) refl

      same : (n : ℕ) → values_at new n ≡ values_at (doc_from schema.dynamic ls 0 schema.fields d) n
      same n = elim (number_cases n m) [
        | inl equal ↦
            subst (λ (i : ℕ). values_at new i ≡ values_at (doc_from schema.dynamic ls 0 schema.fields d) i) (sym equal)
            (entered.own ∙ dynamic_own (slice_get schema.fields m) refl)
        | inr other ↦ elim other [
          | inl less ↦ others n (λ e. absurd (omega (arith, e, less)))
          | inr more ↦ others n (λ e. absurd (omega (arith, e, more)))
        ]
      ]

is_equal : (o : Ordering) → is_eq o ≡ true → o ≡ Equal
is_equal Less e = absurd (let x : false ≡ true = e in cc)
is_equal Equal e = refl
is_equal Greater e = absurd (let x : false ≡ true = e in cc)

pub own_order : (path : List ℕ) → slice_cmp nat_cmp path path ≡ Equal
own_order path = is_equal (slice_cmp nat_cmp path path) (is_eq-slice_cmp path path ∙ (bytes_eq-Decides path path).1 refl)

last_plain : (name : List ℕ) (names : List (List ℕ)) → ArePlain (name ∷ names) → has_dot (last name names) ≡ false
last_plain name [] h = h.0
last_plain name (n ∷ ns) h = last_plain n ns h.1

plain_front : (path rest : List ℕ) → BeginsPlain (path ++ 46 ∷ rest) → BeginsPlain path
plain_front [] rest h = tt
plain_front (c ∷ cs) rest h = h

module _ (config : IndexConfig) (rise : PathsRise config.schema.fields) (plain : BeginPlain config.schema.fields) (ms : Members)
    (fits : members_fault config [] ms ≡ None) where
  descend : (path name : List ℕ) (names : List (List ℕ)) (n : ℕ) (f : Field) (tail : List ℕ) → BeginsPlain path → names_of path ≡ name ∷ names
      → mapped_at config.schema n ≡ Some f → f.path ≡ path ++ tail → Descends config name name names
  descend [] name names n f tail b e a long =
      let parts = front [] names [] name e in
      subst (λ (ns : List (List ℕ)). Descends config name name ns) parts.1 tt
  descend (c ∷ cs) name names n f tail b e a long =
      let parts = front (name_first cs).1 names (c ∷ (name_first cs).0) name (rw (b, (name_first cs).2) at e) in
      let own : ArePlain (name ∷ names) = subst ArePlain e (plain_names (c ∷ cs)) in
      let way : path_from (c ∷ (name_first cs).0) names ≡ c ∷ cs = ap (λ p. path_from p names) parts.0 ∙ path_again (c ∷ cs) name names b e in
      subst (λ (k : List ℕ). Descends config k k names) parts.0
      (descends_to config names c (name_first cs).0 (c ∷ (name_first cs).0) n f tail a (long ∙ ap (λ p. p ++ tail) (sym way))
      (subst (λ (k : List ℕ). has_dot k ≡ false) (sym parts.0) own.0) own.1)

  -- what stands at a path in the schema has no fault there, behind a key without a dot
  abbrev FitsAt : List ℕ → Data → Type 0
  FitsAt path e = (key : List ℕ) × ((has_dot key ≡ false) × IsFitting config path key e)

  reached : (path : List ℕ) (n : ℕ) (f : Field) (tail : List ℕ) (e : Data) → BeginsPlain path → mapped_at config.schema n ≡ Some f → f.path ≡ path ++ tail
      → value_at (names_of path) (object ms) ≡ Some e → FitsAt path e
  reached path n f tail e b a long v =
      let names = name_first path in
      let own : ArePlain (names.0 ∷ names.1) = subst ArePlain names.2 (plain_names path) in
      let end = walk config names.1 names.0 [] ms e fits (rw names.2 at v) (descend path names.0 names.1 n f tail b names.2 a long) in (
        last names.0 names.1,
        (
          last_plain names.0 names.1 own,
          subst (λ (p : List ℕ). IsFitting config p (last names.0 names.1) e) (path_again path names.0 names.1 b names.2) end.0,
        ),
      )

  mapped_holds : (n : ℕ) (f : Field) → mapped_at config.schema n ≡ Some f → (o : Option Data) → value_at (names_of f.path) (object ms) ≡ o
      → Holds f.kind (formats_at config.formats n) o (found_values f.kind o)
  mapped_holds n f a None v = refl
  mapped_holds n f a (Some e) v =
      let end = reached f.path n f [] e (plain n f (mapped_is config.schema n f a).0) a (sym (append-nil f.path)) v in
      let number : number_of_mapped config.schema f.path ≡ Some n = sym (found_mapped config.schema n f f.path rise a (own_order f.path)) in
      value_just f.kind (formats_at config.formats n) f.path e (rw (end.1.0, number, (mapped_is config.schema n f a).0) at end.1.1)

  is_object_value : (path : List ℕ) (e : Data) → inner_fault config path e ≡ None → HoldsObject (Some e)
  is_object_value path null h = tt
  is_object_value path (object x) h = tt
  is_object_value path (boolean b) h = some_none _ h
  is_object_value path (number n) h = some_none _ h
  is_object_value path (string s) h = some_none _ h
  is_object_value path (array ds) h = some_none _ h

  object_holds : (path : List ℕ) → IsObjectAt config.schema path → (o : Option Data) → value_at (names_of path) (object ms) ≡ o → HoldsObject o
  object_holds path at None v = tt
  object_holds path at (Some e) v =
      let n = at.0.0 in
      let f = at.0.1 in
      let rest = at.0.2 in
      let a = at.0.3.0 in
      let long = at.0.3.1 in
      let end = reached path n f (46 ∷ rest) e (plain_front path rest (subst BeginsPlain long (plain n f (mapped_is config.schema n f a).0))) a long v in
      is_object_value path e (rw (end.1.0, at.1, object_by config.schema n f path rest a long) at end.1.1)

  mapped_names : config.mode ≡ Strict → (name : List ℕ) (names : List (List ℕ)) (e : Data) → value_at (name ∷ names) (object ms) ≡ Some e
      → IsMapped config.schema (name ∷ names)
  mapped_names strict name names e v = (end.1 strict, numbers (number_of_mapped config.schema (path_from name names)) refl (rw (last_plain name names (end.1 strict)) at end.0))
    where
      end : IsFitting config (path_from name names) (last name names) e × (config.mode ≡ Strict → ArePlain (name ∷ names))
      end = walk config names name [] ms e fits v (descends_strict config strict name name names)

      Stands : Type 0
      Stands = (n : ℕ) × (f : Field) × ((mapped_at config.schema n ≡ Some f)
          × ((f.path ≡ path_from name names) ⊎ ((rest : List ℕ) × (f.path ≡ path_from name names ++ 46 ∷ rest))))

      objects : (b : Bool) → is_object (mapped_fields config.schema) (path_from name names ++ 46 ∷ []) ≡ b
          → (if b then inner_fault config (path_from name names) e else unmapped config.mode (path_from name names)) ≡ None → Stands
      objects true o g = let at = object_from config.schema (path_from name names) o in (at.0, at.1, (at.2.0, inr at.2.1))
      objects false o g = strict_refuses config (path_from name names) strict g

      numbers : (o : Option ℕ) → number_of_mapped config.schema (path_from name names) ≡ o
          → path_fault config (path_from name names) e (inner_fault config (path_from name names) e) o ≡ None → Stands
      numbers (Some k) o g = let at = stands_mapped config.schema (path_from name names) k o in (k, at.0, (at.1.0, inl at.1.1))
      numbers None o g = objects (is_object (mapped_fields config.schema) (path_from name names ++ 46 ∷ [])) refl g

  dynamic_holds : (n : ℕ) (f : Field) → config.schema.dynamic ≡ Some n → slice_get config.schema.fields n ≡ Some f → f.kind ≡ kinds.TextList
      → values_at (doc_of config.schema (object ms)) n ≡ leaf_values config.schema (object ms)
  dynamic_holds n f its a list =
      values_dynamic config.schema (leaf_values config.schema (object ms)) (object ms) n f a (its_number config.schema.dynamic n its)
      ∙ ap (λ (k : Kind). leaves_for k (leaf_values config.schema (object ms))) list

  pub holds : IsHeldBy config (object ms) (doc_of config.schema (object ms))
  holds = record {
    mapped = λ n f a. subst (λ vs. Holds f.kind (formats_at config.formats n) (value_at (names_of f.path) (object ms)) vs)
        (sym (values_mapped config.schema (leaf_values config.schema (object ms)) (object ms) n f a)) (mapped_holds n f a (value_at (names_of f.path) (object ms)) refl);
    objects = λ path at. object_holds path at (value_at (names_of path) (object ms)) refl;
    strict = mapped_names;
    leaves = dynamic_holds;
  }

-- what an accepted record is
abbrev IsTakenFrom : IndexConfig → Data → List DocField → Type 0
IsTakenFrom config d doc = (ms : Members) × ((d ≡ object ms) × (members_fault config [] ms ≡ None) × (doc_of config.schema d ≡ doc))

timed_from : (config : IndexConfig) (made doc : List DocField) → timed_answer config.timestamp_field made ≡ Ok doc → made ≡ doc
timed_from config made doc e =
    elim (cases_Bool (lacks_timestamp config.timestamp_field made)) [
      | inl lacks ↦ absurd (let refused = rw lacks at e in cc)
      | inr timed ↦ let here : ◌≡◌ {A = Result (List DocField) Reject} (Ok made) (Ok doc) = rw timed at e in cc
    ]

fitting_from : (config : IndexConfig) (d : Data) (fault : Option Reject) (doc : List DocField) → fitting_answer config d fault ≡ Ok doc
    → (fault ≡ None) × (doc_of config.schema d ≡ doc)
fitting_from config d None doc e = (refl, counted_from (leaf_fault config.schema d) e)
  where
    counted_from : (fault : Option Reject) → counted_answer config d fault ≡ Ok doc → doc_of config.schema d ≡ doc
    counted_from None c = timed_from config (doc_of config.schema d) doc c
    counted_from (Some refusal) c = absurd (cc)
fitting_from config d (Some refusal) doc e = absurd (cc)

members_from : (config : IndexConfig) (d : Data) (ms : Members) (doc : List DocField) → object_answer config d (Some ms) ≡ Ok doc
    → (members_fault config [] ms ≡ None) × (doc_of config.schema d ≡ doc)
members_from config d ms doc e =
    elim (cases_Bool (nat_le (depth d) max_levels)) [
      | inl within ↦ fitting_from config d (members_fault config [] ms) doc (rw within at e)
      | inr deep ↦ absurd (let refused = rw deep at e in cc)
    ]

taken_from : (config : IndexConfig) (d : Data) (doc : List DocField) → object_answer config d (as_object d) ≡ Ok doc → IsTakenFrom config d doc
taken_from config (object ms) doc e = let parts = members_from config (object ms) ms doc e in (ms, (refl, parts.0, parts.1))
taken_from config null doc e = absurd (cc)
taken_from config (boolean b) doc e = absurd (cc)
taken_from config (number n) doc e = absurd (cc)
taken_from config (string s) doc e = absurd (cc)
taken_from config (array ds) doc e = absurd (cc)

-- an accepted record is JSON, and has its document
pub document_from : (config : IndexConfig) (bytes : List ℕ) (doc : List DocField) → answer config bytes ≡ Ok doc
    → (d : Data) × ((value_of bytes ≡ Some d) × (doc_of config.schema d ≡ doc))
document_from config bytes doc e =
    elim (cases_Bool (nat_lt max_record (length bytes))) [
      | inl long ↦ absurd (let refused = rw long at e in cc)
      | inr short ↦ by (value_of bytes) refl (rw short at e)
    ]
  where
    by : (o : Option Data) → value_of bytes ≡ o → read_answer config o ≡ Ok doc → (d : Data) × ((value_of bytes ≡ Some d) × (doc_of config.schema d ≡ doc))
    by None v h = absurd (cc)
    by (Some d) v h = (d, (v, (taken_from config d doc h).1.2))

abbrev pub IsRecordOf : IndexConfig → List ℕ → List DocField → Type 0
IsRecordOf config bytes doc = (d : Data) × ((value_of bytes ≡ Some d) × IsHeldBy config d doc)

module _ (config : IndexConfig) (rise : PathsRise config.schema.fields) (plain : BeginPlain config.schema.fields) (bytes : List ℕ) (doc : List DocField) where
  held_from : (d : Data) → IsTakenFrom config d doc → IsHeldBy config d doc
  held_from d h =
      subst (λ (x : Data). IsHeldBy config x doc) (sym h.1.0)
      (subst (IsHeldBy config (object h.0)) (ap (doc_of config.schema) (sym h.1.0) ∙ h.1.2) (holds config rise plain h.0 h.1.1))

  read_from : (o : Option Data) → value_of bytes ≡ o → read_answer config o ≡ Ok doc → IsRecordOf config bytes doc
  read_from None v e = absurd (cc)
  read_from (Some d) v e = (d, (v, held_from d (taken_from config d doc e)))

  pub accepted_holds : answer config bytes ≡ Ok doc → IsRecordOf config bytes doc
  accepted_holds e =
      elim (cases_Bool (nat_lt max_record (length bytes))) [
        | inl long ↦ absurd (let refused = rw long at e in cc)
        | inr short ↦ read_from (value_of bytes) refl (rw short at e)
      ]
