-- A document's fields as values at paths, in the order in which they are printed.
use Rattle.std.proofs.Common.{◌≡◌, ◌≢◌, ◌⊎◌, inl, inr, ℕ, suc, ◌≤◌, List, [], ◌∷◌, ◌++◌, map, length, slice_get, nat_eq, Bool, true, false, Option, Some, None, refl, sym, ap, ap₂, ◌∙◌, subst, arith, if◌then◌else◌}
use Rattle.std.specs.Prelude.{MatchOption}
use Rattle.std.specs.Ordering.{nat_cmp}
use Rattle.std.specs.Cmp.Lexicographic.{slice_cmp}
use Rattle.std.specs.declared.cmp.Ordering.{Ordering}
use Rattle.std.specs.declared.cmp.Ordering.TheVariants.{Less, Equal, Greater}
use Rattle.serde_json.specs.Data.{Data, object, Members, no_members, members_depth}
use Rattle.serde_json.specs.Written.{compact_text}
use Rattle.doc_value.specs.Documents.{AreOfKind, HasGoodCount, FitsFrom}
use Rattle.doc_value.specs.Printed.{names_of, onto_first, row_of, rows_of, names_before, before_by, placed, in_order, with_path, members_of}
use Rattle.doc_value.specs.declared.schema.Field.{Field}
use Rattle.doc_value.specs.declared.doc.DocField.{DocField}
use Rattle.doc_value.specs.declared.rows.Row.{Row}
use Rattle.document_laws.specs.ReadBack.{AreApart, IsApartFrom, AllApart, AreShort, HasNumbers, path_before, paths_of, field_data, IsAt, Has, IsLeaf}
use Rattle.doc_mapping.specs.Documents.{value_at}
use Rattle.document_laws.proofs.Keys.{same-key, turned}
use Rattle.document_laws.proofs.Building.{with_data, Precedes, IsPathBefore, precedes-next, AreOrdered, plain_value, none_ordered, with_ordered, with_depth, with_has, with_apart, IsThis, Either, Stands, with_only}
use Rattle.document_laws.proofs.Reading.{IsReadable, IsFlat, field_back, field_flat}
use Rattle.document_laws.proofs.Texts.{same_field, shown, shown_with}

pub record Entry : Type 0 where
  pub names : List (List ℕ)
  pub value : Data

abbrev pub entry_of : Option Field → DocField → List Entry
entry_of None part = []
entry_of (Some f) part = record { names = names_of f.path; value = field_data f.kind part.values } ∷ []

abbrev pub entries_of : List Field → List DocField → List Entry
entries_of fields [] = []
entries_of fields (part ∷ parts) = entry_of (slice_get fields part.number) part ++ entries_of fields parts

-- ---- the rows that are printed

abbrev pub row : Entry → Row
row e = record { names = e.names; text = compact_text e.value }

pub same_rows : (fields : List Field) (least : ℕ) (doc : List DocField) → FitsFrom fields least doc → rows_of fields doc ≡ map row (entries_of fields doc)
same_rows fields least [] h = refl
same_rows fields least (part ∷ parts) h = go (slice_get fields part.number) h.1 (same_rows fields (suc part.number) parts h.2)
  where
    go : (o : Option Field) → MatchOption o ⊥ (λ f. AreOfKind f.kind part.values × HasGoodCount f.kind part.values) → rows_of fields parts ≡ map row (entries_of fields parts)
        → row_of o part ++ rows_of fields parts ≡ map row (entry_of o part ++ entries_of fields parts)
    go None k e = absurd k
    go (Some f) k e =
        let before : List ℕ → List Row → List Row = λ t rs. record { names = names_of f.path; text = t } ∷ rs in
        ap₂ before (same_field f.kind part.values k.1) e

abbrev pub put_in : Entry → List Entry → List Entry
put_in e [] = e ∷ []
put_in e (r ∷ es) = if names_before r.names e.names then r ∷ put_in e es else e ∷ r ∷ es

abbrev pub sorted : List Entry → List Entry
sorted [] = []
sorted (e ∷ es) = put_in e (sorted es)

same_place : (e : Entry) (es : List Entry) → placed (row e) (map row es) ≡ map row (put_in e es)
same_place e [] = refl
same_place e (r ∷ es) = go (names_before r.names e.names) (same_place e es)
  where
    go : (b : Bool) → placed (row e) (map row es) ≡ map row (put_in e es)
        → (if b then row r ∷ placed (row e) (map row es) else row e ∷ row r ∷ map row es) ≡ map row (if b then r ∷ put_in e es else e ∷ r ∷ es)
    go true h = ap (λ rs. row r ∷ rs) h
    go false h = refl

pub same_order : (es : List Entry) → in_order (map row es) ≡ map row (sorted es)
same_order [] = refl
same_order (e ∷ es) = ap (placed (row e)) (same_order es) ∙ same_place e (sorted es)

abbrev pub members_all : List Entry → Members
members_all [] = no_members
members_all (e ∷ es) = with_data e.names e.value (members_all es)

-- ---- facts of each entry

abbrev pub AllOf : (Entry → Type 0) → List Entry → Type 0
AllOf P [] = Unit {0}
AllOf P (e ∷ es) = P e × AllOf P es

put_all : (P : Entry → Type 0) (e : Entry) (es : List Entry) → P e → AllOf P es → AllOf P (put_in e es)
put_all P e [] p h = (p, tt)
put_all P e (r ∷ es) p h = go (names_before r.names e.names) (put_all P e es p h.1)
  where
    go : (b : Bool) → AllOf P (put_in e es) → AllOf P (if b then r ∷ put_in e es else e ∷ r ∷ es)
    go true k = (h.0, k)
    go false k = (p, h)

pub sorted_all : (P : Entry → Type 0) (es : List Entry) → AllOf P es → AllOf P (sorted es)
sorted_all P [] h = tt
sorted_all P (e ∷ es) h = put_all P e (sorted es) h.0 (sorted_all P es h.1)

-- a value that reads back, at a path with a name
pub record IsGood (e : Entry) : Type 0 where
  pub some : e.names ≢ []
  pub readable : IsReadable e.value
  pub flat : IsFlat e.value

onto_some : (c : ℕ) (names : List (List ℕ)) → onto_first c names ≢ []
onto_some c [] e = absurd (cc)
onto_some c (n ∷ ns) e = absurd (cc)

pub names_some : (path : List ℕ) → names_of path ≢ []
names_some [] e = absurd (let y : [] ∷ [] ≡ [] = e in cc)
names_some (c ∷ cs) e = go (nat_eq c 46) e
  where
    go : (b : Bool) → (if b then [] ∷ names_of cs else onto_first c (names_of cs)) ≡ [] → ⊥
    go true k = absurd (let y : [] ∷ names_of cs ≡ [] = k in cc)
    go false k = onto_some c (names_of cs) k

pub all_good : (fields : List Field) (doc : List DocField) → HasNumbers doc → AllOf IsGood (entries_of fields doc)
all_good fields [] h = tt
all_good fields (part ∷ parts) h = go (slice_get fields part.number) (all_good fields parts h.1)
  where
    go : (o : Option Field) → AllOf IsGood (entries_of fields parts) → AllOf IsGood (entry_of o part ++ entries_of fields parts)
    go None k = k
    go (Some f) k = (record { some = names_some f.path; readable = field_back f.kind part.values h.0; flat = field_flat f.kind part.values }, k)

abbrev pub IsShort : Entry → Type 0
IsShort e = length e.names ≤ 126

pub all_short : (fields : List Field) (doc : List DocField) → AreShort (paths_of fields doc) → AllOf IsShort (entries_of fields doc)
all_short fields [] h = tt
all_short fields (part ∷ parts) h = go (slice_get fields part.number) (λ k. all_short fields parts k) h
  where
    go : (o : Option Field) → (AreShort (paths_of fields parts) → AllOf IsShort (entries_of fields parts)) → AreShort (path_before o (paths_of fields parts)) → AllOf IsShort (entry_of o part ++ entries_of fields parts)
    go None again k = again k
    go (Some f) again k = (k.0, again k.1)

-- ---- paths apart

abbrev pub ApartFrom : List (List ℕ) → Entry → Type 0
ApartFrom ns e = AreApart ns e.names

abbrev pub Pairs : List Entry → Type 0
Pairs [] = Unit {0}
Pairs (e ∷ es) = AllOf (ApartFrom e.names) es × Pairs es

from_all : (ns : List (List ℕ)) (fields : List Field) (doc : List DocField) → IsApartFrom ns (paths_of fields doc) → AllOf (ApartFrom ns) (entries_of fields doc)
from_all ns fields [] h = tt
from_all ns fields (part ∷ parts) h = go (slice_get fields part.number) (λ k. from_all ns fields parts k) h
  where
    go : (o : Option Field) → (IsApartFrom ns (paths_of fields parts) → AllOf (ApartFrom ns) (entries_of fields parts)) → IsApartFrom ns (path_before o (paths_of fields parts))
        → AllOf (ApartFrom ns) (entry_of o part ++ entries_of fields parts)
    go None again k = again k
    go (Some f) again k = (k.0, again k.1)

pub all_pairs : (fields : List Field) (doc : List DocField) → AllApart (paths_of fields doc) → Pairs (entries_of fields doc)
all_pairs fields [] h = tt
all_pairs fields (part ∷ parts) h = go (slice_get fields part.number) (λ k. all_pairs fields parts k) h
  where
    go : (o : Option Field) → (AllApart (paths_of fields parts) → Pairs (entries_of fields parts)) → AllApart (path_before o (paths_of fields parts)) → Pairs (entry_of o part ++ entries_of fields parts)
    go None again k = again k
    go (Some f) again k = (from_all (names_of f.path) fields parts k.0, again k.1)

swap : (ns ms : List (List ℕ)) → AreApart ns ms → AreApart ms ns
swap ns ms h = (h.1, h.0)

put_pairs : (e : Entry) (es : List Entry) → AllOf (ApartFrom e.names) es → Pairs es → Pairs (put_in e es)
put_pairs e [] h k = (tt, tt)
put_pairs e (r ∷ es) h k = go (names_before r.names e.names) (put_pairs e es h.1 k.1)
  where
    go : (b : Bool) → Pairs (put_in e es) → Pairs (if b then r ∷ put_in e es else e ∷ r ∷ es)
    go true i = (put_all (ApartFrom r.names) e es (swap e.names r.names h.0) k.0, i)
    go false i = (h, k)

pub sorted_pairs : (es : List Entry) → Pairs es → Pairs (sorted es)
sorted_pairs [] h = tt
sorted_pairs (e ∷ es) h = put_pairs e (sorted es) (sorted_all (ApartFrom e.names) es h.0) (sorted_pairs es h.1)

-- ---- their order

deeper : (n m : List ℕ) (ns ms : List (List ℕ)) → n ≡ m → AreApart (n ∷ ns) (m ∷ ms) → AreApart ns ms
deeper n m ns ms e a = (λ f. a.0 (e, f), λ f. a.1 (sym e, f))

before_path : (ns ms : List (List ℕ)) → names_before ns ms ≡ true → AreApart ns ms → IsPathBefore ns ms
before_path [] ms t a = absurd (a.0 tt)
before_path (n ∷ ns) [] t a = absurd (a.1 tt)
before_path (n ∷ ns) (m ∷ ms) t a = go (λ b k. before_path ns ms b k) (slice_cmp nat_cmp n m) refl t
  where
    go : (names_before ns ms ≡ true → AreApart ns ms → IsPathBefore ns ms) → (o : Ordering) → slice_cmp nat_cmp n m ≡ o → before_by o (names_before ns ms) ≡ true → IsPathBefore (n ∷ ns) (m ∷ ms)
    go again Less e b = inl e
    go again Equal e b = let i = same-key n m e in inr (i, again b (deeper n m ns ms i a))
    go again Greater e b = absurd (let y : false ≡ true = b in cc)

behind_path : (ns ms : List (List ℕ)) → names_before ns ms ≡ false → AreApart ns ms → IsPathBefore ms ns
behind_path [] ms t a = absurd (a.0 tt)
behind_path (n ∷ ns) [] t a = absurd (a.1 tt)
behind_path (n ∷ ns) (m ∷ ms) t a = go (λ b k. behind_path ns ms b k) (slice_cmp nat_cmp n m) refl t
  where
    go : (names_before ns ms ≡ false → AreApart ns ms → IsPathBefore ms ns) → (o : Ordering) → slice_cmp nat_cmp n m ≡ o → before_by o (names_before ns ms) ≡ false → IsPathBefore (m ∷ ms) (n ∷ ns)
    go again Less e b = absurd (let y : true ≡ false = b in cc)
    go again Equal e b = let i = same-key n m e in inr (sym i, again b (deeper n m ns ms i a))
    go again Greater e b = inl (turned n m Greater e)

abbrev pub Lower : Entry → List Entry → Type 0
Lower e [] = Unit {0}
Lower e (r ∷ es) = IsPathBefore e.names r.names

abbrev pub Chain : List Entry → Type 0
Chain [] = Unit {0}
Chain (e ∷ es) = Lower e es × Chain es

put_lower : (r e : Entry) (es : List Entry) → IsPathBefore r.names e.names → Lower r es → Lower r (put_in e es)
put_lower r e [] p h = p
put_lower r e (s ∷ es) p h = go (names_before s.names e.names)
  where
    go : (b : Bool) → Lower r (if b then s ∷ put_in e es else e ∷ s ∷ es)
    go true = h
    go false = p

put_chain : (e : Entry) (es : List Entry) → AllOf (ApartFrom e.names) es → Chain es → Chain (put_in e es)
put_chain e [] a h = (tt, tt)
put_chain e (r ∷ es) a h = go (names_before r.names e.names) refl (put_chain e es a.1 h.1)
  where
    go : (b : Bool) → names_before r.names e.names ≡ b → Chain (put_in e es) → Chain (if b then r ∷ put_in e es else e ∷ r ∷ es)
    go true t k = (put_lower r e es (before_path r.names e.names t (swap e.names r.names a.0)) h.0, k)
    go false t k = (behind_path r.names e.names t (swap e.names r.names a.0), h)

pub sorted_chain : (es : List Entry) → Pairs es → Chain (sorted es)
sorted_chain [] h = tt
sorted_chain (e ∷ es) h = put_chain e (sorted es) (sorted_all (ApartFrom e.names) es h.0) (sorted_chain es h.1)

-- ---- the members that they make

precedes_none : (ns : List (List ℕ)) → Precedes ns no_members
precedes_none [] = tt
precedes_none (n ∷ ns) = tt

precedes : (e : Entry) (es : List Entry) → AllOf IsGood es → Lower e es → Precedes e.names (members_all es)
precedes e [] g h = precedes_none e.names
precedes e (r ∷ es) g h = precedes-next e.names r.names r.value (members_all es) g.0.some h

pub all_ordered : (es : List Entry) → AllOf IsGood es → Chain es → AreOrdered IsReadable (members_all es)
all_ordered [] g h = none_ordered
all_ordered (e ∷ es) g h = with_ordered e.names e.value (members_all es) (plain_value g.0.flat.0 g.0.readable) (all_ordered es g.1 h.1) (precedes e es g.1 h.0)

pub all_shown : (es : List Entry) → AllOf IsGood es → members_of (map row es) ≡ shown (members_all es)
all_shown [] g = refl
all_shown (e ∷ es) g = ap (with_path e.names (compact_text e.value)) (all_shown es g.1) ∙ shown_with e.names e.value (members_all es) g.0.flat.0

pub all_depth : (es : List Entry) → AllOf IsGood es → AllOf IsShort es → members_depth (members_all es) ≤ 126
all_depth [] g s = omega arith
all_depth (e ∷ es) g s = with_depth e.names e.value (members_all es) 126 s.0 g.0.flat.1 (all_depth es g.1 s.1)

-- ---- what stands where

abbrev pub HasEntry : List Entry → List (List ℕ) → Data → Type 0
HasEntry [] names d = ⊥
HasEntry (e ∷ es) names d = IsThis e.names e.value names d ⊎ HasEntry es names d

apart_has : (ns : List (List ℕ)) (es : List Entry) (names : List (List ℕ)) (d : Data) → AllOf (ApartFrom ns) es → HasEntry es names d → AreApart ns names
apart_has ns [] names d a h = absurd h
apart_has ns (e ∷ es) names d a (inl h) = subst (AreApart ns) h.0 a.0
apart_has ns (e ∷ es) names d a (inr h) = apart_has ns es names d a.1 h

some_has : (ns : List (List ℕ)) (d : Data) (ms : Members) → ns ≢ [] → value_at ns (object (with_data ns d ms)) ≡ Some d
some_has [] d ms s = absurd (s refl)
some_has (n ∷ ns) d ms s = with_has n ns d ms

this_has : (ns : List (List ℕ)) (d : Data) (ms : Members) (names : List (List ℕ)) (x : Data) → ns ≢ [] → IsThis ns d names x → value_at names (object (with_data ns d ms)) ≡ Some x
this_has ns d ms names x s h = ap (λ k. value_at k (object (with_data ns d ms))) (sym h.0) ∙ some_has ns d ms s ∙ ap Some h.1

pub all_has : (es : List Entry) (names : List (List ℕ)) (d : Data) → AllOf IsGood es → Pairs es → Chain es → HasEntry es names d → value_at names (object (members_all es)) ≡ Some d
all_has [] names d g p c h = absurd h
all_has (e ∷ es) names d g p c (inl h) = this_has e.names e.value (members_all es) names d g.0.some h
all_has (e ∷ es) names d g p c (inr h) =
    with_apart e.names names e.value (members_all es) (all_ordered es g.1 c.1) (precedes e es g.1 c.0) (apart_has e.names es names d p.0 h)
    ∙ all_has es names d g.1 p.1 c.1 h

pub all_only : (es : List Entry) (q : List ℕ) (qs : List (List ℕ)) (d : Data) → AllOf IsGood es → Chain es → value_at (q ∷ qs) (object (members_all es)) ≡ Some d → IsLeaf d → HasEntry es (q ∷ qs) d
all_only [] q qs d g c s l = absurd (let y : ◌≡◌ {A = Option Data} None (Some d) = s in cc)
all_only (e ∷ es) q qs d g c s l =
    go (λ t. all_only es q qs d g.1 c.1 t l) (with_only e.names e.value (members_all es) q qs d g.0.flat.0 (all_ordered es g.1 c.1) (precedes e es g.1 c.0) s l)
  where
    go : (Stands (q ∷ qs) d (members_all es) → HasEntry es (q ∷ qs) d) → Either e.names e.value (q ∷ qs) d (members_all es) → HasEntry (e ∷ es) (q ∷ qs) d
    go again (inl t) = inl t
    go again (inr t) = inr (again t)

into_put : (e : Entry) (es : List Entry) (names : List (List ℕ)) (d : Data) → HasEntry (e ∷ es) names d → HasEntry (put_in e es) names d
into_put e [] names d h = h
into_put e (r ∷ es) names d h = go (names_before r.names e.names) (λ k. into_put e es names d k) h
  where
    go : (b : Bool) → (HasEntry (e ∷ es) names d → HasEntry (put_in e es) names d) → HasEntry (e ∷ r ∷ es) names d → HasEntry (if b then r ∷ put_in e es else e ∷ r ∷ es) names d
    go true again (inl t) = inr (again (inl t))
    go true again (inr (inl t)) = inl t
    go true again (inr (inr t)) = inr (again (inr t))
    go false again t = t

out_of_put : (e : Entry) (es : List Entry) (names : List (List ℕ)) (d : Data) → HasEntry (put_in e es) names d → HasEntry (e ∷ es) names d
out_of_put e [] names d h = h
out_of_put e (r ∷ es) names d h = go (names_before r.names e.names) (λ k. out_of_put e es names d k) h
  where
    among : HasEntry (e ∷ es) names d → HasEntry (e ∷ r ∷ es) names d
    among (inl t) = inl t
    among (inr t) = inr (inr t)

    go : (b : Bool) → (HasEntry (put_in e es) names d → HasEntry (e ∷ es) names d) → HasEntry (if b then r ∷ put_in e es else e ∷ r ∷ es) names d → HasEntry (e ∷ r ∷ es) names d
    go true again (inl t) = inr (inl t)
    go true again (inr t) = among (again t)
    go false again t = t

pub into_sorted : (es : List Entry) (names : List (List ℕ)) (d : Data) → HasEntry es names d → HasEntry (sorted es) names d
into_sorted [] names d h = h
into_sorted (e ∷ es) names d (inl t) = into_put e (sorted es) names d (inl t)
into_sorted (e ∷ es) names d (inr t) = into_put e (sorted es) names d (inr (into_sorted es names d t))

pub out_of_sorted : (es : List Entry) (names : List (List ℕ)) (d : Data) → HasEntry (sorted es) names d → HasEntry es names d
out_of_sorted [] names d h = h
out_of_sorted (e ∷ es) names d h = go (λ k. out_of_sorted es names d k) (out_of_put e (sorted es) names d h)
  where
    go : (HasEntry (sorted es) names d → HasEntry es names d) → HasEntry (e ∷ sorted es) names d → HasEntry (e ∷ es) names d
    go again (inl t) = inl t
    go again (inr t) = inr (again t)

pub into_entries : (fields : List Field) (doc : List DocField) (names : List (List ℕ)) (d : Data) → Has fields doc names d → HasEntry (entries_of fields doc) names d
into_entries fields [] names d h = h
into_entries fields (part ∷ parts) names d h = go (slice_get fields part.number) (λ k. into_entries fields parts names d k) h
  where
    go : (o : Option Field) → (Has fields parts names d → HasEntry (entries_of fields parts) names d) → MatchOption o ⊥ (IsAt names d part.values) ⊎ Has fields parts names d → HasEntry (entry_of o part ++ entries_of fields parts) names d
    go None again (inl t) = absurd t
    go None again (inr t) = again t
    go (Some f) again (inl t) = inl t
    go (Some f) again (inr t) = inr (again t)

pub out_of_entries : (fields : List Field) (doc : List DocField) (names : List (List ℕ)) (d : Data) → HasEntry (entries_of fields doc) names d → Has fields doc names d
out_of_entries fields [] names d h = h
out_of_entries fields (part ∷ parts) names d h = go (slice_get fields part.number) (λ k. out_of_entries fields parts names d k) h
  where
    go : (o : Option Field) → (HasEntry (entries_of fields parts) names d → Has fields parts names d) → HasEntry (entry_of o part ++ entries_of fields parts) names d → MatchOption o ⊥ (IsAt names d part.values) ⊎ Has fields parts names d
    go None again t = inr (again t)
    go (Some f) again (inl t) = inl t
    go (Some f) again (inr t) = inr (again t)
