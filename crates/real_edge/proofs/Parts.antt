-- The first parts of names, and names that begin so.
use Rattle.std.proofs.Common.{◌≡◌, ℕ, zero, suc, ◌+◌, ◌<◌, ◌≤◌, add-one, nat_eq, Bool, true, false, cond, List, [], ◌∷◌, ◌++◌, length, get_or, take, drop, Option, Some, None, refl, sym, ap, subst, ◌∙◌, inl, inr, arith}
use Rattle.std.specs.Prelude.{◌==◌, is_some, IsSome, Contains}
use Rattle.std.specs.List.{starts_with}
use Rattle.std.specs.Ordering.{nat_cmp, eq_by_cmp}
use Rattle.std.specs.Cmp.Lexicographic.{slice_cmp}
use Rattle.std.specs.FinMap as finmap
use Rattle.std.proofs.Math.Seq.{drop-cons}
use Rattle.std.proofs.lemmas.Bool.{eqb-true}
use Rattle.std.proofs.lemmas.List.{take_more, take_all, append-nil}
use Rattle.std.proofs.lemmas.List.Elements.{Contains-append_left, Contains-append_right, Contains-push}
use Rattle.object_store.proofs.States.{Contents, get_of, tied}
use Rattle.real_edge.specs.declared.shelf_files.Object.{Object}
use Rattle.real_edge.specs.Disk.{Begins, Names, first_part}
use Rattle.real_edge.specs.Entries.{entries, found, IsInOrder}
use Rattle.real_edge.proofs.Fronts.{begins_so, appended}
use Rattle.real_edge.proofs.Walks.{true_false, took_cases}

-- ---- the first part of a name

nothing_behind : (name : List ℕ) (at : ℕ) → length name ≤ at → drop at name ≡ []
nothing_behind [] zero le = refl
nothing_behind [] (suc at) le = refl
nothing_behind (b ∷ name) zero le = absurd (omega arith)
nothing_behind (b ∷ name) (suc at) le = nothing_behind name at (omega arith)

-- a slash is come to
pub first_at : (name : List ℕ) (at : ℕ) → at < length name → get_or name at 0 ≡ 47 → first_part name ≡ take at name ++ first_part (drop at name) → take at name ≡ first_part name
first_at name at lt is h =
    sym (h ∙ ap (λ (l : List ℕ). take at name ++ first_part l) (drop-cons name at 0 lt)
    ∙ ap (λ (b : ℕ). take at name ++ cond (b == 47) [] (b ∷ first_part (drop (suc at) name))) is ∙ append-nil (take at name))

pub not_slash : (b : ℕ) → (b ≡ 47 → ⊥) → (b == 47) ≡ false
not_slash b ne = by (b == 47) refl
  where
    by : (t : Bool) → (b == 47) ≡ t → t ≡ false
    by false e = refl
    by true e = absurd (ne (eqb-true b 47 e))

-- a byte is passed
pub first_more : (name : List ℕ) (at : ℕ) → at < length name → (get_or name at 0 == 47) ≡ false → first_part name ≡ take at name ++ first_part (drop at name) → first_part name ≡ take (at + 1) name ++ first_part (drop (at + 1) name)
first_more name at lt not h =
    let b : ℕ = get_or name at 0 in
    h ∙ ap (λ (l : List ℕ). take at name ++ first_part l) (drop-cons name at 0 lt)
    ∙ ap (λ (t : Bool). take at name ++ cond t [] (b ∷ first_part (drop (suc at) name))) not
    ∙ sym (appended (take at name) (b ∷ []) (first_part (drop (suc at) name)))
    ∙ ap (λ (l : List ℕ). l ++ first_part (drop (suc at) name)) (sym (take_more name at 0 lt))
    ∙ ap (λ (k : ℕ). take (at + 1) name ++ first_part (drop k name)) (sym (add-one at))

pub first_end : (name : List ℕ) (at : ℕ) → length name ≤ at → first_part name ≡ take at name ++ first_part (drop at name) → name ≡ first_part name
first_end name at le h = sym (h ∙ ap (λ (l : List ℕ). l ++ first_part (drop at name)) (take_all at name le) ∙ ap (λ (l : List ℕ). name ++ first_part l) (nothing_behind name at le) ∙ append-nil name)

-- ---- files of a shelf

-- under a name that has bytes is one of the objects
pub object_of : (q : List ℕ) (os : List Object) → is_some (found q (entries os)) ≡ true → (o : Object) × Contains os o × (o.key ≡ q)
object_of q [] h = absurd (true_false (sym h))
object_of q (o ∷ os) h = by (λ k. object_of q os k) (eq_by_cmp (slice_cmp nat_cmp) q o.key) refl
  where
    by : (is_some (found q (entries os)) ≡ true → (x : Object) × Contains os x × (x.key ≡ q)) → (b : Bool) → eq_by_cmp (slice_cmp nat_cmp) q o.key ≡ b → (x : Object) × Contains (o ∷ os) x × (x.key ≡ q)
    by later true e = (o, Contains-append_left (o ∷ []) os o (Contains-push [] o), sym (tied q o.key e))
    by later false e =
        let rest = later (sym (ap (λ (b : Bool). is_some (cond b (Some o.content) (found q (entries os)))) e) ∙ h) in
        (rest.0, Contains-append_right (o ∷ []) os rest.0 rest.1, rest.2)

pub shelf_names : (folder : List ℕ) (names : List (List ℕ)) (os : List Object) → IsInOrder os → ((o : Object) → Contains os o → Begins folder o.key → Contains names (first_part (drop (length folder) o.key))) → Names folder names (Contents (entries os))
shelf_names folder names os order all q some begins =
    let o = object_of q os (sym (ap is_some (get_of (entries os) q order)) ∙ some) in
    subst (λ (k : List ℕ). Contains names (first_part (drop (length folder) k))) o.2 (all o.0 o.1 (subst (λ (k : List ℕ). Begins folder k) (sym o.2) begins))

pub no_front : (front : List ℕ) (os : List Object) (r : Bool) → IsInOrder os → ((o : Object) → Contains os o → Begins front o.key → r ≡ true) → r ≡ false → (q : List ℕ) → Begins front q → finmap.get (Contents (entries os)) q ≡ None
no_front front os r order any none q begins = by (finmap.get (Contents (entries os)) q) refl
  where
    by : (x : Option (List ℕ)) → finmap.get (Contents (entries os)) q ≡ x → x ≡ None
    by None e = refl
    by (Some y) e =
        let o = object_of q os (sym (ap is_some (get_of (entries os) q order)) ∙ ap is_some e) in
        absurd (true_false (sym (any o.0 o.1 (subst (λ (k : List ℕ). Begins front k) (sym o.2) begins)) ∙ none))

-- ---- loops over objects

pub not_begun : (front name : List ℕ) → starts_with nat_eq name front ≡ false → Begins front name → ⊥
not_begun front name not h = true_false (sym (begins_so front name h) ∙ not)

pub front_more : (front : List ℕ) (os : List Object) (i : ℕ) (x : Object) → i < length os → x ≡ get_or os i x → starts_with nat_eq x.key front ≡ false
    → ((o : Object) → Contains (take i os) o → Begins front o.key → ⊥) → (o : Object) → Contains (take (i + 1) os) o → Begins front o.key → ⊥
front_more front os i x lt is not so_far o h begins = elim (took_cases os i x o lt is h) [
  | inl k ↦ so_far o k begins
  | inr e ↦ not_begun front x.key not (subst (λ (y : Object). Begins front y.key) (sym e) begins)
]

pub parts_more : (folder : List ℕ) (os : List Object) (i : ℕ) (x : Object) (old new : List (List ℕ)) → i < length os → x ≡ get_or os i x
    → (Begins folder x.key → Contains new (first_part (drop (length folder) x.key))) → ((name : List ℕ) → Contains old name → Contains new name)
    → ((o : Object) → Contains (take i os) o → Begins folder o.key → Contains old (first_part (drop (length folder) o.key)))
    → (o : Object) → Contains (take (i + 1) os) o → Begins folder o.key → Contains new (first_part (drop (length folder) o.key))
parts_more folder os i x old new lt is here rest so_far o h begins = elim (took_cases os i x o lt is h) [
  | inl k ↦ rest (first_part (drop (length folder) o.key)) (so_far o k begins)
  | inr e ↦ subst (λ (y : Object). Contains new (first_part (drop (length folder) y.key))) e (here (subst (λ (y : Object). Begins folder y.key) (sym e) begins))
]

-- what is behind all is behind those that were gone over
pub all_taken : {X : Type 0} (xs : List X) (i : ℕ) (x : X) → length xs ≤ i → Contains xs x → Contains (take i xs) x
all_taken {X} xs i x le h = subst (λ (l : List X). Contains l x) (sym (take_all i xs le)) h

pub copied_more : (os : List Object) (i : ℕ) (x one : Object) (old new : List Object) → i < length os → x ≡ get_or os i x → one ≡ x → old ≡ take i os → new ≡ old ++ one ∷ [] → new ≡ take (i + 1) os
copied_more os i x one old new lt is same so_far e = e ∙ (λ k. so_far k ++ (same ∙ is) k ∷ []) ∙ sym (take_more os i x lt)
