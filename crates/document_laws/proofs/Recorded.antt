-- In the document of a record no field lies in another, since no value stands in what is no object.
use Rattle.std.proofs.Common.{◌≡◌, ◌≢◌, ℕ, suc, ◌+◌, ◌<◌, ◌≤◌, nat_lt, nat_le, nat_eq, eqb-true, leb-true, Bool, true, false, List, [], ◌∷◌, ◌++◌, length, slice_get, Option, Some, None, option_and_then, Result, Ok, Err, refl, sym, ap, ap₂, ◌∙◌, subst, arith, ◌⊎◌, inl, inr, if◌then◌else◌}
use Rattle.std.proofs.lemmas.Bool.{cases_Bool}
use Rattle.std.specs.Ordering.{nat_cmp}
use Rattle.std.specs.Cmp.Lexicographic.{slice_cmp}
use Rattle.std.specs.declared.cmp.Ordering.{Ordering}
use Rattle.std.specs.declared.cmp.Ordering.TheVariants.{Less, Equal, Greater}
use Rattle.serde_json.specs.Data.{Data, null, boolean, number, string, array, object, Members, no_members, member, depth, members_depth}
use Rattle.serde_json.specs.Find.{get, get_member, as_object}
use Rattle.doc_value.specs.Documents.{IsBefore, PathsRise}
use Rattle.doc_value.specs.Printed.{names_of, onto_first, printed_doc}
use Rattle.doc_value.specs.declared.schema.Field.{Field}
use Rattle.doc_value.specs.declared.schema.Kind.{Kind}
use Rattle.doc_value.specs.declared.schema.Kind.TheVariants as kinds
use Rattle.doc_value.specs.declared.schema.Schema.{Schema}
use Rattle.doc_value.specs.declared.doc.Value.{Value}
use Rattle.doc_value.specs.declared.doc.DocField.{DocField}
use Rattle.dynamic_paths.specs.Leaves.{is_number}
use Rattle.index_config.specs.declared.config.IndexConfig.{IndexConfig}
use Rattle.doc_mapping.specs.Answer.{answer, read_answer, object_answer, counted_answer, fitting_answer, leaf_fault, timed_answer, lacks_timestamp, value_of, max_record, max_levels}
use Rattle.doc_mapping.specs.Documents.{value_at, values_of, found_values, part_of, leaf_values, leaves_for, values_from, doc_from, doc_of}
use Rattle.doc_mapping.specs.Faults.{has_dot, members_fault}
use Rattle.doc_mapping.specs.Walk.{LiesAt}
use Rattle.doc_mapping.specs.declared.reject.Reject.{Reject}
use Rattle.doc_mapping.proofs.Fitting.{accepted-fits}
use Rattle.doc_mapping.proofs.Flat.{dot_between}
use Rattle.doc_mapping.proofs.Gathering.{names_lie}
use Rattle.doc_mapping.proofs.Holding.{name_first}
use Rattle.document_laws.specs.ReadBack.{IsFront, AreApart, IsApartFrom, AllApart, AreShort, IsBeside, HasNumbers, HasRisingKeys, ReadsBack, paths_of}
use Rattle.document_laws.proofs.Building.{is_object, plain_value_at}
use Rattle.document_laws.proofs.Entries.{names_some}
use Rattle.document_laws.proofs.Keys.{before-trans, equal-key}
use Rattle.document_laws.proofs.Whole.{rising, back}

-- ---- a path is told by its names

abbrev joined : List (List ℕ) → List ℕ
joined [] = []
joined (n ∷ []) = n
joined (n ∷ m ∷ ns) = n ++ 46 ∷ joined (m ∷ ns)

joined_dot : (names : List (List ℕ)) → names ≢ [] → joined ([] ∷ names) ≡ 46 ∷ joined names
joined_dot [] s = absurd (s refl)
joined_dot (n ∷ ns) s = refl

joined_more : (c : ℕ) (names : List (List ℕ)) → joined (onto_first c names) ≡ c ∷ joined names
joined_more c [] = refl
joined_more c (n ∷ []) = refl
joined_more c (n ∷ m ∷ ns) = refl

joined_names : (path : List ℕ) → joined (names_of path) ≡ path
joined_names [] = refl
joined_names (c ∷ cs) = go (nat_eq c 46) refl (joined_names cs)
  where
    go : (b : Bool) → nat_eq c 46 ≡ b → joined (names_of cs) ≡ cs → joined (if b then [] ∷ names_of cs else onto_first c (names_of cs)) ≡ c ∷ cs
    go true e h = joined_dot (names_of cs) (names_some cs) ∙ ap₂ (λ x xs. x ∷ xs) (sym (eqb-true c 46 e)) h
    go false e h = joined_more c (names_of cs) ∙ ap (λ xs. c ∷ xs) h

other_names : (a b : List ℕ) → IsBefore a b → names_of a ≢ names_of b
other_names a b l e =
    let same : a ≡ b = sym (joined_names a) ∙ ap joined e ∙ joined_names b in
    let equal : slice_cmp nat_cmp a b ≡ Equal = subst (λ (x : List ℕ). slice_cmp nat_cmp a x ≡ Equal) same (equal-key a) in
    absurd (let y : Less ≡ Equal = sym l ∙ equal in cc)

-- ---- what has values is no object

object_none : (kind : Kind) (ms : Members) → values_of kind (object ms) ≡ []
object_none kinds.Text ms = refl
object_none kinds.I64 ms = refl
object_none kinds.U64 ms = refl
object_none kinds.Bool ms = refl
object_none kinds.Datetime ms = refl
object_none kinds.TextList ms = refl

-- a value that is no object stands at these names
abbrev StandsPlain : List (List ℕ) → Data → Type 0
StandsPlain names d = (e : Data) × (value_at names d ≡ Some e) × (is_object e ≡ false)

plain_of : (kind : Kind) (e : Data) → values_of kind e ≢ [] → is_object e ≡ false
plain_of kind null s = refl
plain_of kind (boolean b) s = refl
plain_of kind (number n) s = refl
plain_of kind (string t) s = refl
plain_of kind (array ds) s = refl
plain_of kind (object ms) s = absurd (s (object_none kind ms))

stands_plain : (kind : Kind) (names : List (List ℕ)) (d : Data) → found_values kind (value_at names d) ≢ [] → StandsPlain names d
stands_plain kind names d s = go (value_at names d) refl
  where
    go : (o : Option Data) → value_at names d ≡ o → StandsPlain names d
    go None e = absurd (s (rw e refl))
    go (Some x) e = (x, e, plain_of kind x (λ n. s (rw e n)))

front_same : (ns ms : List (List ℕ)) (d e x : Data) → IsFront ns ms → value_at ns d ≡ Some e → is_object e ≡ false → value_at ms d ≡ Some x → ns ≡ ms
front_same [] [] d e x f a p b = refl
front_same [] (m ∷ ms) d e x f a p b =
    let y : ◌≡◌ {A = Option Data} (Some d) (Some e) = a in
    let same : d ≡ e = cc in
    let none : value_at (m ∷ ms) d ≡ None = plain_value_at m ms d (subst (λ (z : Data). is_object z ≡ false) (sym same) p) in
    absurd (let z : ◌≡◌ {A = Option Data} None (Some x) = sym none ∙ b in cc)
front_same (n ∷ ns) [] d e x f a p b = absurd f
front_same (n ∷ ns) (m ∷ ms) d e x f a p b = go (λ y u v. front_same ns ms y e x f.1 u p v) (get n d) refl
  where
    go : ((y : Data) → value_at ns y ≡ Some e → value_at ms y ≡ Some x → ns ≡ ms) → (o : Option Data) → get n d ≡ o → n ∷ ns ≡ m ∷ ms
    go again None h = absurd (let z : ◌≡◌ {A = Option Data} None (Some e) = ap (option_and_then (value_at ns)) (sym h) ∙ a in cc)
    go again (Some y) h =
        let here : get m d ≡ Some y = ap (λ k. get k d) (sym f.0) ∙ h in
        ap₂ (λ k ks. k ∷ ks) f.0 (again y (ap (option_and_then (value_at ns)) (sym h) ∙ a) (ap (option_and_then (value_at ms)) (sym here) ∙ b))

apart_two : (f g : Field) (d : Data) → IsBefore f.path g.path → StandsPlain (names_of f.path) d → StandsPlain (names_of g.path) d → AreApart (names_of f.path) (names_of g.path)
apart_two f g d l s t = (
  λ h. other_names f.path g.path l (front_same (names_of f.path) (names_of g.path) d s.0 t.0 h s.1 s.2 t.1),
  λ h. other_names f.path g.path l (sym (front_same (names_of g.path) (names_of f.path) d t.0 s.0 h t.1 t.2 s.1)),
)

-- ---- the fields of the document

abbrev pub StandFrom : List Field → ℕ → List Field → Type 0
StandFrom whole n fields = (m : ℕ) (f : Field) → slice_get fields m ≡ Some f → slice_get whole (n + m) ≡ Some f

pub stand_next : (whole : List Field) (n : ℕ) (f : Field) (fs : List Field) → StandFrom whole n (f ∷ fs) → StandFrom whole (suc n) fs
stand_next whole n f fs h m g e =
    let next : n + suc m ≡ suc n + m = omega arith in
    subst (λ (i : ℕ). slice_get whole i ≡ Some g) next (h (suc m) g e)

pub stands_here : (whole : List Field) (n : ℕ) (f : Field) (fs : List Field) → StandFrom whole n (f ∷ fs) → slice_get whole n ≡ Some f
stands_here whole n f fs h =
    let here : n + 0 ≡ n = omega arith in
    subst (λ (i : ℕ). slice_get whole i ≡ Some f) here (h 0 f refl)

pub same_place : (fields : List Field) → StandFrom fields 0 fields
same_place fields m f e = let same : 0 + m ≡ m = omega arith in rw same e

-- a path comes before all of these fields'
abbrev ComesFirst : List ℕ → List Field → Type 0
ComesFirst path [] = Unit {0}
ComesFirst path (g ∷ fs) = IsBefore path g.path × ComesFirst path fs

first_of : (path : List ℕ) (f : Field) (fs : List Field) → IsBefore path f.path → ComesFirst f.path fs → ComesFirst path fs
first_of path f [] l h = tt
first_of path f (g ∷ fs) l h = (before-trans path f.path g.path l h.0, first_of path f fs l h.1)

comes_first : (f : Field) (fs : List Field) → PathsRise (f ∷ fs) → ComesFirst f.path fs
comes_first f [] h = tt
comes_first f (g ∷ fs) h = (h.0, first_of f.path g fs h.0 (comes_first g fs h.1))

rest_rises : (f : Field) (fs : List Field) → PathsRise (f ∷ fs) → PathsRise fs
rest_rises f [] h = tt
rest_rises f (g ∷ fs) h = h.1

-- this field's path is short, and apart from that of each field before or behind it
abbrev pub IsAlone : List Field → Field → Type 0
IsAlone whole f =
    (length (names_of f.path) ≤ 126)
    × ((m : ℕ) (g : Field) → slice_get whole m ≡ Some g
    → (IsBefore f.path g.path → AreApart (names_of f.path) (names_of g.path)) × (IsBefore g.path f.path → AreApart (names_of g.path) (names_of f.path)))

module _ (o : Option ℕ) (ls : List Value) (whole : List Field) (d : Data) where
  -- the field for what is not mapped is alone, or has nothing
  abbrev pub AreAlone : Type 0
  AreAlone = (n : ℕ) (f : Field) → slice_get whole n ≡ Some f → is_number o n ≡ true → leaves_for f.kind ls ≢ [] → IsAlone whole f

  abbrev Kept : Field → Type 0
  Kept f = StandsPlain (names_of f.path) d ⊎ IsAlone whole f

  kept : AreAlone → (n : ℕ) (f : Field) → slice_get whole n ≡ Some f → values_from o ls n f d ≢ [] → Kept f
  kept alone n f a some = by (is_number o n) refl
    where
      by : (b : Bool) → is_number o n ≡ b → Kept f
      by true h = inr (alone n f a h (λ z. some (rw h z)))
      by false h = inl (stands_plain f.kind (names_of f.path) d (λ z. some (rw h z)))

  apart_both : (f g : Field) (k n : ℕ) → slice_get whole k ≡ Some f → slice_get whole n ≡ Some g → IsBefore f.path g.path → Kept f → Kept g
      → AreApart (names_of f.path) (names_of g.path)
  apart_both f g k n a b l (inr alone) t = (alone.1 n g b).0 l
  apart_both f g k n a b l (inl s) (inr alone) = (alone.1 k f a).1 l
  apart_both f g k n a b l (inl s) (inl t) = apart_two f g d l s t

  apart_later : AreAlone → (f : Field) (k : ℕ) → slice_get whole k ≡ Some f → Kept f → (n : ℕ) (fs : List Field) → StandFrom whole n fs → ComesFirst f.path fs
      → IsApartFrom (names_of f.path) (paths_of whole (doc_from o ls n fs d))
  apart_later alone f k a s n [] at l = tt
  apart_later alone f k a s n (g ∷ fs) at l = go (values_from o ls n g d) refl (apart_later alone f k a s (suc n) fs (stand_next whole n g fs at) l.1)
    where
      go : (vs : List Value) → values_from o ls n g d ≡ vs → IsApartFrom (names_of f.path) (paths_of whole (doc_from o ls (suc n) fs d))
          → IsApartFrom (names_of f.path) (paths_of whole (part_of n vs ++ doc_from o ls (suc n) fs d))
      go [] e h = h
      go (v ∷ vs) e h =
          let here : slice_get whole n ≡ Some g = stands_here whole n g fs at in
          let t : Kept g = kept alone n g here (λ z. absurd (let y : v ∷ vs ≡ [] = sym e ∙ z in cc)) in
          rw here (apart_both f g k n a here l.0 s t, h)

  pub all_apart : AreAlone → (n : ℕ) (fs : List Field) → StandFrom whole n fs → PathsRise fs → AllApart (paths_of whole (doc_from o ls n fs d))
  all_apart alone n [] at r = tt
  all_apart alone n (f ∷ fs) at r = go (values_from o ls n f d) refl (all_apart alone (suc n) fs (stand_next whole n f fs at) (rest_rises f fs r))
    where
      go : (vs : List Value) → values_from o ls n f d ≡ vs → AllApart (paths_of whole (doc_from o ls (suc n) fs d)) → AllApart (paths_of whole (part_of n vs ++ doc_from o ls (suc n) fs d))
      go [] e h = h
      go (v ∷ vs) e h =
          let here : slice_get whole n ≡ Some f = stands_here whole n f fs at in
          let s : Kept f = kept alone n f here (λ z. absurd (let y : v ∷ vs ≡ [] = sym e ∙ z in cc)) in
          rw here (apart_later alone f n here s (suc n) fs (stand_next whole n f fs at) (comes_first f fs r), h)

-- ---- the field for what is not mapped

one_name : (path : List ℕ) → has_dot path ≡ false → names_of path ≡ path ∷ []
one_name path plain = lies (names_lie path first more_names (name_first path).2)
  where
    first : List ℕ
    first = (name_first path).0

    more_names : List (List ℕ)
    more_names = (name_first path).1

    lies : LiesAt first more_names path → names_of path ≡ path ∷ []
    lies (inl here) = (name_first path).2 ∙ ap₂ (λ x xs. x ∷ xs) (sym here.1) here.0
    lies (inr more) = absurd (let wrong : true ≡ false = sym (dot_between first more.0) ∙ ap has_dot (sym more.1.1) ∙ plain in cc)

not_same_names : (f g : Field) → (IsBefore f.path g.path) ⊎ (IsBefore g.path f.path) → names_of f.path ≢ names_of g.path
not_same_names f g (inl l) e = other_names f.path g.path l e
not_same_names f g (inr l) e = other_names g.path f.path l (sym e)

-- a path of one name and one that doesn't go on behind it
beside_apart : (f g : Field) → has_dot f.path ≡ false → ((rest : List ℕ) → g.path ≢ f.path ++ 46 ∷ rest) → (IsBefore f.path g.path) ⊎ (IsBefore g.path f.path)
    → AreApart (names_of f.path) (names_of g.path)
beside_apart f g plain outside order = lies (names_lie g.path first more_names (name_first g.path).2)
  where
    first : List ℕ
    first = (name_first g.path).0

    more_names : List (List ℕ)
    more_names = (name_first g.path).1

    own : names_of f.path ≡ f.path ∷ []
    own = one_name f.path plain

    same : f.path ≡ first → more_names ≡ [] → names_of f.path ≡ names_of g.path
    same e n = own ∙ ap₂ (λ x xs. x ∷ xs) e (sym n) ∙ sym (name_first g.path).2

    into : IsFront (names_of f.path) (names_of g.path) → f.path ≡ first
    into h = let k : IsFront (f.path ∷ []) (first ∷ more_names) = rw (own, (name_first g.path).2) at h in k.0

    back_from : IsFront (names_of g.path) (names_of f.path) → (first ≡ f.path) × IsFront more_names []
    back_from h = let k : IsFront (first ∷ more_names) (f.path ∷ []) = rw (own, (name_first g.path).2) at h in k

    none_front : (ns : List (List ℕ)) → IsFront ns [] → ns ≡ []
    none_front [] h = refl
    none_front (n ∷ ns) h = absurd h

    backward : IsFront (names_of g.path) (names_of f.path) → ⊥
    backward h = let k = back_from h in not_same_names f g order (same (sym k.0) (none_front more_names k.1))

    lies : LiesAt first more_names g.path → AreApart (names_of f.path) (names_of g.path)
    lies (inl here) = (λ h. not_same_names f g order (same (into h) here.0), backward)
    lies (inr more) = (λ h. outside more.0 (more.1.1 ∙ ap (λ x. x ++ 46 ∷ more.0) (sym (into h))), backward)

swapped : (ns ms : List (List ℕ)) → AreApart ns ms → AreApart ms ns
swapped ns ms h = (h.1, h.0)

its_own : (o : Option ℕ) (n : ℕ) → is_number o n ≡ true → o ≡ Some n
its_own None n h = absurd (let x : false ≡ true = h in cc)
its_own (Some m) n h = ap Some (eqb-true m n h)

beside_alone : (schema : Schema) (ls : List Value) (d : Data) → IsBeside schema → AreAlone schema.dynamic ls schema.fields d
beside_alone schema ls d beside n f a h some =
    let own = beside n f (its_own schema.dynamic n h) a in (
      omega (arith, ap length (one_name f.path own.0)),
      λ m g b. (
        λ l. beside_apart f g own.0 (λ rest. own.1 m g rest b) (inl l),
        λ l. swapped (names_of f.path) (names_of g.path) (beside_apart f g own.0 (λ rest. own.1 m g rest b) (inr l)),
      ),
    )

pub nothing_for : (kind : Kind) → leaves_for kind [] ≡ []
nothing_for kinds.Text = refl
nothing_for kinds.I64 = refl
nothing_for kinds.U64 = refl
nothing_for kinds.Bool = refl
nothing_for kinds.Datetime = refl
nothing_for kinds.TextList = refl

-- the mapped fields of a document
pub mapped_apart : (schema : Schema) (d : Data) → PathsRise schema.fields → AllApart (paths_of schema.fields (doc_from schema.dynamic [] 0 schema.fields d))
mapped_apart schema d r =
    all_apart schema.dynamic [] schema.fields d (λ n f a h some. absurd (some (nothing_for f.kind))) 0 schema.fields (same_place schema.fields) r

-- ---- their paths are short

member_depth : (k : List ℕ) (ms : Members) (y : Data) → get_member k ms ≡ Some y → depth y ≤ members_depth ms
member_depth k no_members y e = absurd (let z : ◌≡◌ {A = Option Data} None (Some y) = e in cc)
member_depth k (member l d ms) y e = go (slice_cmp nat_cmp k l) refl (λ h. member_depth k ms y h)
  where
    go : (o : Ordering) → slice_cmp nat_cmp k l ≡ o → (get_member k ms ≡ Some y → depth y ≤ members_depth ms) → depth y ≤ members_depth (member l d ms)
    go Less h again = let deep = again (rw h at e) in omega (arith, deep)
    go Greater h again = let deep = again (rw h at e) in omega (arith, deep)
    go Equal h again = let here : ◌≡◌ {A = Option Data} (Some d) (Some y) = rw h at e in let same : d ≡ y = cc in let deep : depth d ≡ depth y = ap depth same in omega (arith, deep)

get_depth : (k : List ℕ) (d y : Data) → get k d ≡ Some y → depth y < depth d
get_depth k (object ms) y e = omega (arith, member_depth k ms y e)
get_depth k null y e = absurd (let z : ◌≡◌ {A = Option Data} None (Some y) = e in cc)
get_depth k (boolean b) y e = absurd (let z : ◌≡◌ {A = Option Data} None (Some y) = e in cc)
get_depth k (number n) y e = absurd (let z : ◌≡◌ {A = Option Data} None (Some y) = e in cc)
get_depth k (string s) y e = absurd (let z : ◌≡◌ {A = Option Data} None (Some y) = e in cc)
get_depth k (array ds) y e = absurd (let z : ◌≡◌ {A = Option Data} None (Some y) = e in cc)

at_depth : (ns : List (List ℕ)) (d e : Data) → value_at ns d ≡ Some e → length ns ≤ depth d
at_depth [] d e a = omega arith
at_depth (n ∷ ns) d e a = go (get n d) refl (λ y h. at_depth ns y e h)
  where
    go : (o : Option Data) → get n d ≡ o → ((y : Data) → value_at ns y ≡ Some e → length ns ≤ depth y) → suc (length ns) ≤ depth d
    go None h again = absurd (let z : ◌≡◌ {A = Option Data} None (Some e) = ap (option_and_then (value_at ns)) (sym h) ∙ a in cc)
    go (Some y) h again =
        let deep : length ns ≤ depth y = again y (ap (option_and_then (value_at ns)) (sym h) ∙ a) in
        omega (arith, deep, get_depth n d y h)

all_short : (o : Option ℕ) (ls : List Value) (whole : List Field) (d : Data) → AreAlone o ls whole d → (n : ℕ) (fs : List Field) → StandFrom whole n fs → depth d ≤ 32
    → AreShort (paths_of whole (doc_from o ls n fs d))
all_short o ls whole d alone n [] at l = tt
all_short o ls whole d alone n (f ∷ fs) at l = go (values_from o ls n f d) refl (all_short o ls whole d alone (suc n) fs (stand_next whole n f fs at) l)
  where
    short : StandsPlain (names_of f.path) d ⊎ IsAlone whole f → length (names_of f.path) ≤ 126
    short (inr own) = own.0
    short (inl s) = let deep : length (names_of f.path) ≤ depth d = at_depth (names_of f.path) d s.0 s.1 in omega (arith, deep, l)

    go : (vs : List Value) → values_from o ls n f d ≡ vs → AreShort (paths_of whole (doc_from o ls (suc n) fs d)) → AreShort (paths_of whole (part_of n vs ++ doc_from o ls (suc n) fs d))
    go [] e h = h
    go (v ∷ vs) e h =
        let here : slice_get whole n ≡ Some f = stands_here whole n f fs at in
        let s = kept o ls whole d alone n f here (λ z. absurd (let y : v ∷ vs ≡ [] = sym e ∙ z in cc)) in
        rw here (short s, h)

-- ---- the document of a record

abbrev pub IsFrom : IndexConfig → Option Data → List DocField → Type 0
IsFrom config o doc = (d : Data) × (o ≡ Some d) × (depth d ≤ 32) × (doc_of config.schema d ≡ doc) × (leaf_fault config.schema d ≡ None)

timed_same : (config : IndexConfig) (made doc : List DocField) → timed_answer config.timestamp_field made ≡ Ok doc → made ≡ doc
timed_same config made doc e =
    elim (cases_Bool (lacks_timestamp config.timestamp_field made)) [
      | inl lacks ↦ absurd (let refused = rw lacks at e in cc)
      | inr timed ↦ let here : ◌≡◌ {A = Result (List DocField) Reject} (Ok made) (Ok doc) = rw timed at e in cc
    ]

fitting_same : (config : IndexConfig) (d : Data) (fault : Option Reject) (doc : List DocField) → fitting_answer config d fault ≡ Ok doc
    → (doc_of config.schema d ≡ doc) × (leaf_fault config.schema d ≡ None)
fitting_same config d None doc e = by (leaf_fault config.schema d) refl
  where
    by : (o : Option Reject) → leaf_fault config.schema d ≡ o → (doc_of config.schema d ≡ doc) × (leaf_fault config.schema d ≡ None)
    by None h =
        let timed : timed_answer config.timestamp_field (doc_of config.schema d) ≡ Ok doc = ap (counted_answer config d) (sym h) ∙ e in
        (timed_same config (doc_of config.schema d) doc timed, h)
    by (Some refusal) h =
        let refused : ◌≡◌ {A = Result (List DocField) Reject} (Err refusal) (Ok doc) = ap (counted_answer config d) (sym h) ∙ e in
        absurd (cc)
fitting_same config d (Some refusal) doc e = absurd (cc)

object_from : (config : IndexConfig) (d : Data) (o : Option Members) (doc : List DocField) → object_answer config d o ≡ Ok doc → IsFrom config (Some d) doc
object_from config d None doc e = absurd (cc)
object_from config d (Some members) doc e =
    elim (cases_Bool (nat_le (depth d) max_levels)) [
      | inl within ↦
          let made = fitting_same config d (members_fault config [] members) doc (rw within at e) in
          (d, refl, leb-true (depth d) max_levels within, made.0, made.1)
      | inr deep ↦ absurd (let refused = rw deep at e in cc)
    ]

read_from : (config : IndexConfig) (o : Option Data) (doc : List DocField) → read_answer config o ≡ Ok doc → IsFrom config o doc
read_from config None doc e = absurd (cc)
read_from config (Some d) doc e = object_from config d (as_object d) doc e

pub made_from : (config : IndexConfig) (bytes : List ℕ) (doc : List DocField) → answer config bytes ≡ Ok doc → IsFrom config (value_of bytes) doc
made_from config bytes doc e =
    elim (cases_Bool (nat_lt max_record (length bytes))) [
      | inl long ↦ absurd (let refused = rw long at e in cc)
      | inr short ↦ read_from config (value_of bytes) doc (rw short at e)
    ]

pub record_apart : (config : IndexConfig) (bytes : List ℕ) (doc : List DocField) → PathsRise config.schema.fields → IsBeside config.schema → answer config bytes ≡ Ok doc
    → AllApart (paths_of config.schema.fields doc)
record_apart config bytes doc r beside e =
    let m = made_from config bytes doc e in
    let fields = config.schema.fields in
    let ls = leaf_values config.schema m.0 in
    subst (λ (x : List DocField). AllApart (paths_of fields x)) m.3
    (all_apart config.schema.dynamic ls fields m.0 (beside_alone config.schema ls m.0 beside) 0 fields (same_place fields) r)

record_short : (config : IndexConfig) (bytes : List ℕ) (doc : List DocField) → IsBeside config.schema → answer config bytes ≡ Ok doc → AreShort (paths_of config.schema.fields doc)
record_short config bytes doc beside e =
    let m = made_from config bytes doc e in
    let fields = config.schema.fields in
    let ls = leaf_values config.schema m.0 in
    subst (λ (x : List DocField). AreShort (paths_of fields x)) m.3
    (all_short config.schema.dynamic ls fields m.0 (beside_alone config.schema ls m.0 beside) 0 fields (same_place fields) m.2)

pub record_rises : (config : IndexConfig) (bytes : List ℕ) (doc : List DocField) → PathsRise config.schema.fields → IsBeside config.schema → answer config bytes ≡ Ok doc → HasNumbers doc
    → HasRisingKeys (printed_doc config.schema doc)
record_rises config bytes doc r beside e numbers = rising config.schema doc (accepted-fits config bytes doc e) (record_apart config bytes doc r beside e) numbers

pub record_back : (config : IndexConfig) (bytes : List ℕ) (doc : List DocField) → PathsRise config.schema.fields → IsBeside config.schema → answer config bytes ≡ Ok doc → HasNumbers doc
    → ReadsBack config.schema doc
record_back config bytes doc r beside e numbers =
    back config.schema doc (accepted-fits config bytes doc e) (record_apart config bytes doc r beside e) numbers (record_short config bytes doc beside e)
