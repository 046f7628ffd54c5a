-- What is left of a value, where what stands at a path is taken away.
use Rattle.std.proofs.Common.{◌≡◌, ℕ, ◌+◌, ◌≤◌, List, [], ◌∷◌, Option, Some, None, refl, sym, ap, ◌∙◌, subst, arith}
use Rattle.std.specs.Prelude.{option_map, option_and_then}
use Rattle.std.specs.Ordering.{nat_cmp, match_ordering}
use Rattle.std.specs.Cmp.Lexicographic.{slice_cmp}
use Rattle.std.specs.declared.cmp.Ordering.{Ordering}
use Rattle.std.specs.declared.cmp.Ordering.TheVariants.{Less, Equal, Greater}
use Rattle.serde_json.specs.Data.{Data, null, boolean, number, string, array, object, Members, no_members, member}
use Rattle.serde_json.specs.Find.{get_member}
use Rattle.doc_mapping.specs.Documents.{value_at}
use Rattle.document_laws.specs.ReadBack.{AreApart}
use Rattle.document_laws.proofs.Keys.{same-key, equal-key}
use Rattle.document_laws.proofs.Parsed.{data_size, members_size}

-- the members, with the one at a key changed
abbrev change : List ℕ → (Data → Data) → Members → Members
change n f no_members = no_members
change n f (member l e ms) = match_ordering (slice_cmp nat_cmp n l) (member l e (change n f ms)) (member l (f e) ms) (member l e (change n f ms))

abbrev pub cut : List (List ℕ) → Data → Data
cut [] d = null
cut (n ∷ ns) (object ms) = object (change n (cut ns) ms)
cut (n ∷ ns) null = null
cut (n ∷ ns) (boolean b) = boolean b
cut (n ∷ ns) (number x) = number x
cut (n ∷ ns) (string s) = string s
cut (n ∷ ns) (array ds) = array ds

-- ---- members

get_changed : (n : List ℕ) (f : Data → Data) (ms : Members) → get_member n (change n f ms) ≡ option_map f (get_member n ms)
get_changed n f no_members = refl
get_changed n f (member l e ms) = go (slice_cmp nat_cmp n l) refl (get_changed n f ms)
  where
    go : (o : Ordering) → slice_cmp nat_cmp n l ≡ o → get_member n (change n f ms) ≡ option_map f (get_member n ms) →
        get_member n (match_ordering o (member l e (change n f ms)) (member l (f e) ms) (member l e (change n f ms))) ≡ option_map f (match_ordering o (get_member n ms) (Some e) (get_member n ms))
    go Less h again = rw h again
    go Equal h again = rw h refl
    go Greater h again = rw h again

get_unchanged : (n m : List ℕ) (f : Data → Data) (ms : Members) → (n ≡ m → ⊥) → get_member m (change n f ms) ≡ get_member m ms
get_unchanged n m f no_members other = refl
get_unchanged n m f (member l e ms) other = go (slice_cmp nat_cmp n l) refl (get_unchanged n m f ms other)
  where
    at : (o : Ordering) → slice_cmp nat_cmp m l ≡ o → n ≡ l → match_ordering o (get_member m ms) (Some (f e)) (get_member m ms) ≡ match_ordering o (get_member m ms) (Some e) (get_member m ms)
    at Less h s = refl
    at Equal h s = absurd (other (s ∙ sym (same-key m l h)))
    at Greater h s = refl

    go : (o : Ordering) → slice_cmp nat_cmp n l ≡ o → get_member m (change n f ms) ≡ get_member m ms →
        get_member m (match_ordering o (member l e (change n f ms)) (member l (f e) ms) (member l e (change n f ms))) ≡ get_member m (member l e ms)
    go Less h again = ap (λ r. match_ordering (slice_cmp nat_cmp m l) r (Some e) r) again
    go Equal h again = at (slice_cmp nat_cmp m l) refl (same-key n l h)
    go Greater h again = ap (λ r. match_ordering (slice_cmp nat_cmp m l) r (Some e) r) again

change_size : (n : List ℕ) (f : Data → Data) (ms : Members) (y : Data) → get_member n ms ≡ Some y → members_size (change n f ms) + data_size y ≡ members_size ms + data_size (f y)
change_size n f no_members y e = absurd (let z : ◌≡◌ {A = Option Data} None (Some y) = e in cc)
change_size n f (member l x ms) y e = go (slice_cmp nat_cmp n l) e (λ h. change_size n f ms y h)
  where
    go : (o : Ordering) → match_ordering o (get_member n ms) (Some x) (get_member n ms) ≡ Some y → (get_member n ms ≡ Some y → members_size (change n f ms) + data_size y ≡ members_size ms + data_size (f y)) →
        members_size (match_ordering o (member l x (change n f ms)) (member l (f x) ms) (member l x (change n f ms))) + data_size y ≡ members_size (member l x ms) + data_size (f y)
    go Less h again = let k = again h in omega (arith, k)
    go Equal h again =
        let here : ◌≡◌ {A = Option Data} (Some x) (Some y) = h in let same : x ≡ y = cc in
        let a = ap data_size same in let b = ap (λ z. data_size (f z)) same in omega (arith, a, b)
    go Greater h again = let k = again h in omega (arith, k)

-- ---- values

-- what stands behind the first name
abbrev Behind : List ℕ → List (List ℕ) → Members → Data → Type 0
Behind n ns ms x = (y : Data) × (get_member n ms ≡ Some y) × (value_at ns y ≡ Some x)

behind : (n : List ℕ) (ns : List (List ℕ)) (ms : Members) (x : Data) → value_at (n ∷ ns) (object ms) ≡ Some x → Behind n ns ms x
behind n ns ms x e = go (get_member n ms) refl e
  where
    go : (o : Option Data) → get_member n ms ≡ o → option_and_then (value_at ns) o ≡ Some x → Behind n ns ms x
    go None h k = absurd (let z : ◌≡◌ {A = Option Data} None (Some x) = k in cc)
    go (Some y) h k = (y, h, k)

pub cut_size : (ns : List (List ℕ)) (d x : Data) → value_at ns d ≡ Some x → data_size (cut ns d) + data_size x ≤ data_size d
cut_size [] d x e =
    let here : ◌≡◌ {A = Option Data} (Some d) (Some x) = e in let same : d ≡ x = cc in
    let a = ap data_size same in omega (arith, a)
cut_size (n ∷ ns) (object ms) x e =
    let b = behind n ns ms x e in
    let left = cut_size ns b.0 x b.2 in
    let changed = change_size n (cut ns) ms b.0 b.1 in
    omega (arith, left, changed)
cut_size (n ∷ ns) null x e = absurd (let z : ◌≡◌ {A = Option Data} None (Some x) = e in cc)
cut_size (n ∷ ns) (boolean b) x e = absurd (let z : ◌≡◌ {A = Option Data} None (Some x) = e in cc)
cut_size (n ∷ ns) (number v) x e = absurd (let z : ◌≡◌ {A = Option Data} None (Some x) = e in cc)
cut_size (n ∷ ns) (string s) x e = absurd (let z : ◌≡◌ {A = Option Data} None (Some x) = e in cc)
cut_size (n ∷ ns) (array ds) x e = absurd (let z : ◌≡◌ {A = Option Data} None (Some x) = e in cc)

tails_apart : (n : List ℕ) (ns ms : List (List ℕ)) → AreApart (n ∷ ns) (n ∷ ms) → AreApart ns ms
tails_apart n ns ms a = (λ h. a.0 (refl, h), λ h. a.1 (refl, h))

-- a path that is apart keeps what stands at it
pub cut_other : (ns ms : List (List ℕ)) (d : Data) → AreApart ns ms → value_at ms (cut ns d) ≡ value_at ms d
cut_other [] ms d a = absurd (a.0 tt)
cut_other (n ∷ ns) [] d a = absurd (a.1 tt)
cut_other (n ∷ ns) (m ∷ ms) (object os) a = go (slice_cmp nat_cmp n m) refl (λ y b. cut_other ns ms y b)
  where
    inner : AreApart ns ms → ((y : Data) → AreApart ns ms → value_at ms (cut ns y) ≡ value_at ms y) → (o : Option Data) → option_and_then (value_at ms) (option_map (cut ns) o) ≡ option_and_then (value_at ms) o
    inner b again None = refl
    inner b again (Some y) = again y b

    one : ((y : Data) → AreApart ns ms → value_at ms (cut ns y) ≡ value_at ms y) → AreApart (n ∷ ns) (n ∷ ms) → value_at (n ∷ ms) (object (change n (cut ns) os)) ≡ value_at (n ∷ ms) (object os)
    one again b = ap (option_and_then (value_at ms)) (get_changed n (cut ns) os) ∙ inner (tails_apart n ns ms b) again (get_member n os)

    same : n ≡ m → ((y : Data) → AreApart ns ms → value_at ms (cut ns y) ≡ value_at ms y) → value_at (m ∷ ms) (object (change n (cut ns) os)) ≡ value_at (m ∷ ms) (object os)
    same e again = subst (λ (k : List ℕ). AreApart (n ∷ ns) (k ∷ ms) → value_at (k ∷ ms) (object (change n (cut ns) os)) ≡ value_at (k ∷ ms) (object os)) e (one again) a

    differs : (o : Ordering) → slice_cmp nat_cmp n m ≡ o → (o ≡ Equal → ⊥) → value_at (m ∷ ms) (object (change n (cut ns) os)) ≡ value_at (m ∷ ms) (object os)
    differs o h never =
        ap (option_and_then (value_at ms)) (get_unchanged n m (cut ns) os (λ e. never (sym h ∙ ap (slice_cmp nat_cmp n) (sym e) ∙ equal-key n)))

    go : (o : Ordering) → slice_cmp nat_cmp n m ≡ o → ((y : Data) → AreApart ns ms → value_at ms (cut ns y) ≡ value_at ms y) → value_at (m ∷ ms) (object (change n (cut ns) os)) ≡ value_at (m ∷ ms) (object os)
    go Less h again = differs Less h (λ e. absurd cc)
    go Equal h again = same (same-key n m h) again
    go Greater h again = differs Greater h (λ e. absurd cc)
cut_other (n ∷ ns) (m ∷ ms) null a = refl
cut_other (n ∷ ns) (m ∷ ms) (boolean b) a = refl
cut_other (n ∷ ns) (m ∷ ms) (number x) a = refl
cut_other (n ∷ ns) (m ∷ ms) (string s) a = refl
cut_other (n ∷ ns) (m ∷ ms) (array ds) a = refl
