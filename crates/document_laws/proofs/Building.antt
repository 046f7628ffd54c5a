-- The members that values at paths make, one after another.
use Rattle.std.proofs.Common.{◌≡◌, ◌≢◌, ◌⊎◌, inl, inr, ℕ, zero, suc, ◌≤◌, List, [], ◌∷◌, length, Bool, true, false, Option, Some, None, option_and_then, refl, sym, ap, ◌∙◌, subst, arith, if◌then◌else◌}
use Rattle.std.specs.Str.{bytes_eq}
use Rattle.doc_value.specs.Documents.{IsBefore}
use Rattle.serde_json.specs.Data.{Data, null, boolean, number, string, array, object, Members, no_members, member, depth, members_depth}
use Rattle.document_laws.specs.ReadBack.{AreApart, IsLeaf}
use Rattle.doc_mapping.specs.Documents.{value_at}
use Rattle.document_laws.proofs.Keys.{Order, before, same, behind, order, same-bytes, other-bytes, get-first, get-behind, get-later, get-none, Above, above-trans}

-- the members of the first object, if it has that name, and what comes behind it
abbrev pub inside_data : List ℕ → Data → Members
inside_data n (object inner) = inner
inside_data n d = no_members

abbrev pub is_object : Data → Bool
is_object (object ms) = true
is_object d = false

abbrev pub inside : List ℕ → Members → Members
inside n no_members = no_members
inside n (member k (object inner) more) = if bytes_eq n k then inner else no_members
inside n (member k d more) = no_members

abbrev pub rest : List ℕ → Members → Members
rest n no_members = no_members
rest n (member k (object inner) more) = if bytes_eq n k then more else member k (object inner) more
rest n (member k d more) = member k d more

-- the members with a value at a path before all others
abbrev pub with_data : List (List ℕ) → Data → Members → Members
with_data [] d ms = ms
with_data (n ∷ []) d ms = member n d ms
with_data (n ∷ m ∷ ns) d ms = member n (object (with_data (m ∷ ns) d (inside n ms))) (rest n ms)

-- a path comes before the first of these members, or in the object that it is
abbrev mutual
  pub Precedes : List (List ℕ) → Members → Type 0
  Precedes ns no_members = Unit {0}
  Precedes [] (member k d more) = ⊥
  Precedes (n ∷ ns) (member k d more) = IsBefore n k ⊎ ((n ≡ k) × PrecedesIn ns d)

  pub PrecedesIn : List (List ℕ) → Data → Type 0
  PrecedesIn [] d = ⊥
  PrecedesIn (n ∷ ns) (object inner) = Precedes (n ∷ ns) inner
  PrecedesIn (n ∷ ns) d = ⊥

-- one path comes before another, and neither lies in the other
abbrev pub IsPathBefore : List (List ℕ) → List (List ℕ) → Type 0
IsPathBefore [] ms = ⊥
IsPathBefore (n ∷ ns) [] = ⊥
IsPathBefore (n ∷ ns) (m ∷ ms) = IsBefore n m ⊎ ((n ≡ m) × IsPathBefore ns ms)

no_path : (ns : List (List ℕ)) → IsPathBefore ns [] → ⊥
no_path [] h = h
no_path (n ∷ ns) h = h

pub precedes-next : (ns ms : List (List ℕ)) (d : Data) (more : Members) → ms ≢ [] → IsPathBefore ns ms → Precedes ns (with_data ms d more)
precedes-next [] ms d more s h = absurd h
precedes-next (n ∷ ns) [] d more s h = absurd h
precedes-next (n ∷ ns) (m ∷ []) d more s (inl h) = inl h
precedes-next (n ∷ ns) (m ∷ []) d more s (inr h) = absurd (no_path ns h.1)
precedes-next (n ∷ ns) (m ∷ l ∷ ls) d more s (inl h) = inl h
precedes-next (n ∷ []) (m ∷ l ∷ ls) d more s (inr h) = absurd h.1
precedes-next (n ∷ k ∷ ks) (m ∷ l ∷ ls) d more s (inr h) = inr (h.0, precedes-next (k ∷ ks) (l ∷ ls) d (inside m more) (λ e. cc) h.1)

-- every part of a value is in order: keys rise in its objects, and a fact holds of its values
mutual
  pub data Ordered (P : Data → Type 0) : Data → Type 0 where
    plain_value : {d : Data} → is_object d ≡ false → P d → Ordered P d
    an_object : {ms : Members} → AreOrdered P ms → Ordered P (object ms)

  pub data AreOrdered (P : Data → Type 0) : Members → Type 0 where
    none_ordered : AreOrdered P no_members
    more_ordered : {k : List ℕ} {d : Data} {ms : Members} → Above k ms → Ordered P d → AreOrdered P ms → AreOrdered P (member k d ms)

object_ordered : {P : Data → Type 0} {ms : Members} → Ordered P (object ms) → AreOrdered P ms
object_ordered (plain_value e p) = absurd (let y : true ≡ false = e in cc)
object_ordered (an_object h) = h

-- members that a path comes before: they begin with the object on the way, or lie behind
pub data Splits (n : List ℕ) (ns : List (List ℕ)) : Members → Type 0 where
  in_object : {inner more : Members} → Precedes ns inner → inside n (member n (object inner) more) ≡ inner → rest n (member n (object inner) more) ≡ more → Splits n ns (member n (object inner) more)
  all_behind : {ms : Members} → inside n ms ≡ no_members → rest n ms ≡ ms → Above n ms → Splits n ns ms

above_all : {P : Data → Type 0} (n k : List ℕ) (d : Data) (ms : Members) → AreOrdered P (member k d ms) → IsBefore n k → Above n (member k d ms)
above_all n k d ms (more_ordered a o os) h = (h, above-trans n k ms h a)

behind_object : {P : Data → Type 0} (n : List ℕ) (ns : List (List ℕ)) (k : List ℕ) (inner more : Members) → AreOrdered P (member k (object inner) more) → IsBefore n k → Splits n ns (member k (object inner) more)
behind_object n ns k inner more o h = all_behind (rw (other-bytes n k h) refl) (rw (other-bytes n k h) refl) (above_all n k (object inner) more o h)

in_same : (n : List ℕ) (ns : List (List ℕ)) (k : List ℕ) (inner more : Members) → n ≡ k → Precedes ns inner → Splits n ns (member k (object inner) more)
in_same n ns k inner more e h = subst (λ l. Splits n ns (member l (object inner) more)) e (in_object h (rw (same-bytes n) refl) (rw (same-bytes n) refl))

pub splits : {P : Data → Type 0} (n m : List ℕ) (ns : List (List ℕ)) (ms : Members) → AreOrdered P ms → Precedes (n ∷ m ∷ ns) ms → Splits n (m ∷ ns) ms
splits n m ns no_members o h = all_behind refl refl tt
splits n m ns (member k (object inner) more) o (inl h) = behind_object n (m ∷ ns) k inner more o h
splits n m ns (member k (object inner) more) o (inr h) = in_same n (m ∷ ns) k inner more h.0 h.1
splits n m ns (member k null more) o (inl h) = all_behind refl refl (above_all n k null more o h)
splits n m ns (member k (boolean b) more) o (inl h) = all_behind refl refl (above_all n k (boolean b) more o h)
splits n m ns (member k (number x) more) o (inl h) = all_behind refl refl (above_all n k (number x) more o h)
splits n m ns (member k (string s) more) o (inl h) = all_behind refl refl (above_all n k (string s) more o h)
splits n m ns (member k (array ds) more) o (inl h) = all_behind refl refl (above_all n k (array ds) more o h)
splits n m ns (member k null more) o (inr h) = absurd h.1
splits n m ns (member k (boolean b) more) o (inr h) = absurd h.1
splits n m ns (member k (number x) more) o (inr h) = absurd h.1
splits n m ns (member k (string s) more) o (inr h) = absurd h.1
splits n m ns (member k (array ds) more) o (inr h) = absurd h.1

above_first : {P : Data → Type 0} (k : List ℕ) (d : Data) (ms : Members) → AreOrdered P (member k d ms) → Above k ms
above_first k d ms (more_ordered a o os) = a

first_ordered : {P : Data → Type 0} {k : List ℕ} {d : Data} {ms : Members} → AreOrdered P (member k d ms) → Ordered P d
first_ordered (more_ordered a o os) = o

rest_ordered : {P : Data → Type 0} {k : List ℕ} {d : Data} {ms : Members} → AreOrdered P (member k d ms) → AreOrdered P ms
rest_ordered (more_ordered a o os) = os

above_head : {P : Data → Type 0} (n : List ℕ) (ms : Members) → AreOrdered P ms → Precedes (n ∷ []) ms → Above n ms
above_head n no_members o h = tt
above_head n (member k d more) o (inl h) = above_all n k d more o h
above_head n (member k d more) o (inr h) = absurd h.1

-- a value at a path before all others keeps the order
pub with_ordered : {P : Data → Type 0} (ns : List (List ℕ)) (d : Data) (ms : Members) → Ordered P d → AreOrdered P ms → Precedes ns ms → AreOrdered P (with_data ns d ms)
with_ordered [] d ms v o h = o
with_ordered (n ∷ []) d ms v o h = more_ordered (above_head n ms o h) v o
with_ordered {P} (n ∷ m ∷ ns) d ms v o h = go (λ inner i p. with_ordered (m ∷ ns) d inner v i p) (splits n m ns ms o h) o
  where
    go : ((inner : Members) → AreOrdered P inner → Precedes (m ∷ ns) inner → AreOrdered P (with_data (m ∷ ns) d inner)) → {ms : Members} → Splits n (m ∷ ns) ms → AreOrdered P ms → AreOrdered P (with_data (n ∷ m ∷ ns) d ms)
    go deeper (in_object {inner} {more} p e f) o =
        rw (e, f) (more_ordered (above_first n (object inner) more o) (an_object (deeper inner (object_ordered (first_ordered o)) p)) (rest_ordered o))
    go deeper (all_behind {ms} e f a) o = rw (e, f) (more_ordered a (an_object (deeper no_members none_ordered tt)) o)

-- ---- how deep it nests

inside_depth : (n : List ℕ) (ms : Members) (bound : ℕ) → members_depth ms ≤ suc bound → members_depth (inside n ms) ≤ bound
inside_depth n no_members bound h = omega arith
inside_depth n (member k (object inner) more) bound h = go (bytes_eq n k)
  where
    go : (b : Bool) → members_depth (if b then inner else no_members) ≤ bound
    go true = omega (arith, h)
    go false = omega arith
inside_depth n (member k null more) bound h = omega arith
inside_depth n (member k (boolean b) more) bound h = omega arith
inside_depth n (member k (number x) more) bound h = omega arith
inside_depth n (member k (string s) more) bound h = omega arith
inside_depth n (member k (array ds) more) bound h = omega arith

rest_depth : (n : List ℕ) (ms : Members) (bound : ℕ) → members_depth ms ≤ bound → members_depth (rest n ms) ≤ bound
rest_depth n no_members bound h = h
rest_depth n (member k (object inner) more) bound h = go (bytes_eq n k)
  where
    go : (b : Bool) → members_depth (if b then more else member k (object inner) more) ≤ bound
    go true = omega (arith, h)
    go false = h
rest_depth n (member k null more) bound h = h
rest_depth n (member k (boolean b) more) bound h = h
rest_depth n (member k (number x) more) bound h = h
rest_depth n (member k (string s) more) bound h = h
rest_depth n (member k (array ds) more) bound h = h

pub with_depth : (ns : List (List ℕ)) (d : Data) (ms : Members) (bound : ℕ) → length ns ≤ bound → depth d ≤ 1 → members_depth ms ≤ bound → members_depth (with_data ns d ms) ≤ bound
with_depth [] d ms bound l v h = h
with_depth (n ∷ []) d ms bound l v h = omega (arith, l, v, h)
with_depth (n ∷ m ∷ ns) d ms zero l v h = absurd (omega (arith, l))
with_depth (n ∷ m ∷ ns) d ms (suc bound) l v h =
    let deep : members_depth (with_data (m ∷ ns) d (inside n ms)) ≤ bound = with_depth (m ∷ ns) d (inside n ms) bound (omega (arith, l)) v (inside_depth n ms bound h) in
    let wide : members_depth (rest n ms) ≤ suc bound = rest_depth n ms (suc bound) h in
    omega arith

-- ---- what stands at paths

pub with_has : (n : List ℕ) (ns : List (List ℕ)) (d : Data) (ms : Members) → value_at (n ∷ ns) (object (with_data (n ∷ ns) d ms)) ≡ Some d
with_has n [] d ms = ap (option_and_then (value_at [])) (get-first n d ms)
with_has n (m ∷ ns) d ms = ap (option_and_then (value_at (m ∷ ns))) (get-first n (object (with_data (m ∷ ns) d (inside n ms))) (rest n ms)) ∙ with_has m ns d (inside n ms)

-- what stands behind a first key
first_value : (n : List ℕ) (qs : List (List ℕ)) (d : Data) (ms : Members) → value_at (n ∷ qs) (object (member n d ms)) ≡ value_at qs d
first_value n qs d ms = ap (option_and_then (value_at qs)) (get-first n d ms)

first_at : (q n : List ℕ) → q ≡ n → (qs : List (List ℕ)) (d : Data) (ms : Members) → value_at (q ∷ qs) (object (member n d ms)) ≡ value_at qs d
first_at q n i qs d ms = ap (λ k. value_at (k ∷ qs) (object (member n d ms))) i ∙ first_value n qs d ms

-- what stands behind another key
data Finds (q n : List ℕ) : Type 0 where
  at_first : q ≡ n → Finds q n
  past_first : ((qs : List (List ℕ)) (d : Data) (ms : Members) → value_at (q ∷ qs) (object (member n d ms)) ≡ value_at (q ∷ qs) (object ms)) → Finds q n

finds : (q n : List ℕ) → Finds q n
finds q n = go (order q n)
  where
    go : Order q n → Finds q n
    go (before h) = past_first (λ qs d ms. ap (option_and_then (value_at qs)) (get-behind q n d ms h))
    go (same e) = at_first e
    go (behind h) = past_first (λ qs d ms. ap (option_and_then (value_at qs)) (get-later q n d ms h))

-- nothing stands deeper in what is no object
pub plain_value_at : (q : List ℕ) (qs : List (List ℕ)) (d : Data) → is_object d ≡ false → value_at (q ∷ qs) d ≡ None
plain_value_at q qs null e = refl
plain_value_at q qs (boolean b) e = refl
plain_value_at q qs (number x) e = refl
plain_value_at q qs (string s) e = refl
plain_value_at q qs (array ds) e = refl
plain_value_at q qs (object ms) e = absurd (let y : true ≡ false = e in cc)

none_above : (q : List ℕ) (qs : List (List ℕ)) (ms : Members) → Above q ms → value_at (q ∷ qs) (object ms) ≡ None
none_above q qs ms a = ap (option_and_then (value_at qs)) (get-none q ms a)

-- a path that is apart keeps what stands at it
pub with_apart : {P : Data → Type 0} (ns qs : List (List ℕ)) (d : Data) (ms : Members) → AreOrdered P ms → Precedes ns ms → AreApart ns qs → value_at qs (object (with_data ns d ms)) ≡ value_at qs (object ms)
with_apart [] qs d ms o h a = absurd (a.0 tt)
with_apart (n ∷ ns) [] d ms o h a = absurd (a.1 tt)
with_apart (n ∷ []) (q ∷ qs) d ms o h a = go (finds q n)
  where
    go : Finds q n → value_at (q ∷ qs) (object (member n d ms)) ≡ value_at (q ∷ qs) (object ms)
    go (at_first e) = absurd (a.0 (sym e, tt))
    go (past_first f) = f qs d ms
with_apart {P} (n ∷ m ∷ ns) (q ∷ qs) d ms o h a = go (λ inner i p b. with_apart (m ∷ ns) qs d inner i p b) (splits n m ns ms o h) o (finds q n)
  where
    deeper : q ≡ n → AreApart (m ∷ ns) qs
    deeper e = (λ f. a.0 (sym e, f), λ f. a.1 (e, f))

    empty : (qs : List (List ℕ)) → AreApart (m ∷ ns) qs → value_at qs (object no_members) ≡ None
    empty [] b = absurd (b.1 tt)
    empty (x ∷ xs) b = refl

    go : ((inner : Members) → AreOrdered P inner → Precedes (m ∷ ns) inner → AreApart (m ∷ ns) qs → value_at qs (object (with_data (m ∷ ns) d inner)) ≡ value_at qs (object inner))
        → {ms : Members} → Splits n (m ∷ ns) ms → AreOrdered P ms → Finds q n → value_at (q ∷ qs) (object (with_data (n ∷ m ∷ ns) d ms)) ≡ value_at (q ∷ qs) (object ms)
    go again (in_object {inner} {more} p e f) o (past_first g) = rw (e, f) (g qs (object (with_data (m ∷ ns) d inner)) more ∙ sym (g qs (object inner) more))
    go again (in_object {inner} {more} p e f) o (at_first s) =
        rw (e, f) (first_at q n s qs (object (with_data (m ∷ ns) d inner)) more ∙ again inner (object_ordered (first_ordered o)) p (deeper s) ∙ sym (first_at q n s qs (object inner) more))
    go again (all_behind {ms} e f u) o (past_first g) = rw (e, f) (g qs (object (with_data (m ∷ ns) d no_members)) ms)
    go again (all_behind {ms} e f u) o (at_first s) =
        rw (e, f) (first_at q n s qs (object (with_data (m ∷ ns) d no_members)) ms ∙ again no_members none_ordered tt (deeper s) ∙ empty qs (deeper s) ∙ sym (none_above q qs ms (subst (λ k. Above k ms) (sym s) u)))

not_leaf : (m : List ℕ) (ns : List (List ℕ)) (d : Data) (ms : Members) → IsLeaf (object (with_data (m ∷ ns) d ms)) → ⊥
not_leaf m [] d ms l = l
not_leaf m (n ∷ ns) d ms l = l

leaf_is : (m : List ℕ) (ns : List (List ℕ)) (d : Data) (ms : Members) (e : Data) → Some (object (with_data (m ∷ ns) d ms)) ≡ Some e → IsLeaf e → ⊥
leaf_is m ns d ms e s l = let y : object (with_data (m ∷ ns) d ms) ≡ e = cc in not_leaf m ns d ms (subst IsLeaf (sym y) l)

-- the value stands at the path
abbrev pub IsThis : List (List ℕ) → Data → List (List ℕ) → Data → Type 0
IsThis ns d qs e = (ns ≡ qs) × (d ≡ e)

abbrev pub Stands : List (List ℕ) → Data → Members → Type 0
Stands qs e ms = value_at qs (object ms) ≡ Some e

abbrev pub Either : List (List ℕ) → Data → List (List ℕ) → Data → Members → Type 0
Either ns d qs e ms = IsThis ns d qs e ⊎ Stands qs e ms

-- nothing else comes to stand anywhere
pub with_only : {P : Data → Type 0} (ns : List (List ℕ)) (d : Data) (ms : Members) (q : List ℕ) (qs : List (List ℕ)) (e : Data) → is_object d ≡ false → AreOrdered P ms → Precedes ns ms
    → Stands (q ∷ qs) e (with_data ns d ms) → IsLeaf e → IsThis ns d (q ∷ qs) e ⊎ Stands (q ∷ qs) e ms
with_only [] d ms q qs e v o h s l = inr s
with_only (n ∷ []) d ms q qs e v o h s l = go (finds q n)
  where
    this : (qs : List (List ℕ)) → q ≡ n → value_at qs d ≡ Some e → IsThis (n ∷ []) d (q ∷ qs) e ⊎ Stands (q ∷ qs) e ms
    this [] i t = inl (ap (λ x. x ∷ []) (sym i), (let y : ◌≡◌ {A = Option Data} (Some d) (Some e) = t in cc))
    this (x ∷ xs) i t = absurd (let y : ◌≡◌ {A = Option Data} None (Some e) = sym (plain_value_at x xs d v) ∙ t in cc)

    go : Finds q n → IsThis (n ∷ []) d (q ∷ qs) e ⊎ Stands (q ∷ qs) e ms
    go (at_first i) = this qs i (sym (first_at q n i qs d ms) ∙ s)
    go (past_first f) = inr (sym (f qs d ms) ∙ s)
with_only {P} (n ∷ m ∷ ns) d ms q qs e v o h s l = go (λ x xs inner i p t. with_only (m ∷ ns) d inner x xs e v i p t l) (splits n m ns ms o h) o (finds q n) s
  where
    same_first : q ≡ n → (inner more : Members) → Stands (q ∷ qs) e (member n (object inner) more) → Stands qs e inner
    same_first i inner more t = sym (first_at q n i qs (object inner) more) ∙ t

    into : q ≡ n → (x : List ℕ) (xs : List (List ℕ)) (inner more : Members) → IsThis (m ∷ ns) d (x ∷ xs) e ⊎ Stands (x ∷ xs) e inner → Either (n ∷ m ∷ ns) d (q ∷ x ∷ xs) e (member n (object inner) more)
    into i x xs inner more (inl t) = inl (ap (λ y. n ∷ y) t.0 ∙ ap (λ k. k ∷ x ∷ xs) (sym i), t.1)
    into i x xs inner more (inr t) = inr (first_at q n i (x ∷ xs) (object inner) more ∙ t)

    fresh : q ≡ n → (x : List ℕ) (xs : List (List ℕ)) (ms : Members) → IsThis (m ∷ ns) d (x ∷ xs) e ⊎ Stands (x ∷ xs) e no_members → Either (n ∷ m ∷ ns) d (q ∷ x ∷ xs) e ms
    fresh i x xs ms (inl t) = inl (ap (λ y. n ∷ y) t.0 ∙ ap (λ k. k ∷ x ∷ xs) (sym i), t.1)
    fresh i x xs ms (inr t) = absurd (let y : ◌≡◌ {A = Option Data} None (Some e) = t in cc)

    merged : ((x : List ℕ) (xs : List (List ℕ)) (inner : Members) → AreOrdered P inner → Precedes (m ∷ ns) inner → Stands (x ∷ xs) e (with_data (m ∷ ns) d inner) → IsThis (m ∷ ns) d (x ∷ xs) e ⊎ Stands (x ∷ xs) e inner)
        → (qs : List (List ℕ)) → q ≡ n → (inner more : Members) → AreOrdered P inner → Precedes (m ∷ ns) inner → Stands qs e (with_data (m ∷ ns) d inner) → Either (n ∷ m ∷ ns) d (q ∷ qs) e (member n (object inner) more)
    merged again [] i inner more o p t = absurd (leaf_is m ns d inner e t l)
    merged again (x ∷ xs) i inner more o p t = into i x xs inner more (again x xs inner o p t)

    alone : ((x : List ℕ) (xs : List (List ℕ)) (inner : Members) → AreOrdered P inner → Precedes (m ∷ ns) inner → Stands (x ∷ xs) e (with_data (m ∷ ns) d inner) → IsThis (m ∷ ns) d (x ∷ xs) e ⊎ Stands (x ∷ xs) e inner)
        → (qs : List (List ℕ)) → q ≡ n → (ms : Members) → Stands qs e (with_data (m ∷ ns) d no_members) → Either (n ∷ m ∷ ns) d (q ∷ qs) e ms
    alone again [] i ms t = absurd (leaf_is m ns d no_members e t l)
    alone again (x ∷ xs) i ms t = fresh i x xs ms (again x xs no_members none_ordered tt t)

    go : ((x : List ℕ) (xs : List (List ℕ)) (inner : Members) → AreOrdered P inner → Precedes (m ∷ ns) inner → Stands (x ∷ xs) e (with_data (m ∷ ns) d inner) → IsThis (m ∷ ns) d (x ∷ xs) e ⊎ Stands (x ∷ xs) e inner)
        → {ms : Members} → Splits n (m ∷ ns) ms → AreOrdered P ms → Finds q n → Stands (q ∷ qs) e (with_data (n ∷ m ∷ ns) d ms) → Either (n ∷ m ∷ ns) d (q ∷ qs) e ms
    go again (in_object {inner} {more} p a b) o (past_first g) s =
        inr (g qs (object inner) more ∙ sym (g qs (object (with_data (m ∷ ns) d inner)) more) ∙ (let y : Stands (q ∷ qs) e (member n (object (with_data (m ∷ ns) d inner)) more) = rw (a, b) at s in y))
    go again (in_object {inner} {more} p a b) o (at_first i) s =
        let y : Stands (q ∷ qs) e (member n (object (with_data (m ∷ ns) d inner)) more) = rw (a, b) at s in
        merged again qs i inner more (object_ordered (first_ordered o)) p (same_first i (with_data (m ∷ ns) d inner) more y)
    go again (all_behind {ms} a b u) o (past_first g) s =
        let y : Stands (q ∷ qs) e (member n (object (with_data (m ∷ ns) d no_members)) ms) = rw (a, b) at s in
        inr (sym (g qs (object (with_data (m ∷ ns) d no_members)) ms) ∙ y)
    go again (all_behind {ms} a b u) o (at_first i) s =
        let y : Stands (q ∷ qs) e (member n (object (with_data (m ∷ ns) d no_members)) ms) = rw (a, b) at s in
        alone again qs i ms (same_first i (with_data (m ∷ ns) d no_members) ms y)
