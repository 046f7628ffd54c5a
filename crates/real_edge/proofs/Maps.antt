-- What the objects of a folder are, name by name.
use Rattle.std.proofs.Common.{◌≡◌, ◌≢◌, ◌⊎◌, ℕ, Bool, true, false, cond, T, List, [], ◌∷◌, map, filter, Option, Some, None, refl, sym, ap, subst, ◌∙◌, inl, inr}
use Rattle.std.specs.Ordering.{nat_cmp, eq_by_cmp, is_eq}
use Rattle.std.specs.declared.cmp.Ordering.TheVariants.{Equal}
use Rattle.std.specs.Cmp.Lexicographic.{slice_cmp, nat_list_cmp_total}
use Rattle.std.specs.FinMap as finmap
use Rattle.std.specs.FinMap.{slice_cmp-IsAntisymmetric, nat_cmp-IsAntisymmetric, get-insert, get-remove, get-retain_keys, get-entries, get-from_sorted, entries-from_sorted, entries_sorted, same_map}
use Rattle.std.specs.FinMap.Entries.{where_key, is_sorted-where_key, find-where_key}
use Rattle.object_store.proofs.Entries.{same_from_tie, ties_itself}
use Rattle.object_store.proofs.States.{tied}
use Rattle.real_edge.specs.Disk.{Files}
use Rattle.real_edge.specs.Names.{is_object}
use Rattle.real_edge.specs.Objects.{objects_of}

pub same : (m n : Files) → ((q : List ℕ) → finmap.get m q ≡ finmap.get n q) → m ≡ n
same m n is = same_map nat_list_cmp_total (slice_cmp-IsAntisymmetric nat_cmp-IsAntisymmetric) m n is

alike : (p : List ℕ → Bool) (q x : List ℕ) → slice_cmp nat_cmp q x ≡ Equal → p x ≡ p q
alike p q x t = ap p (sym (same_from_tie q x t))

pub get_object : (m : Files) (q : List ℕ) → finmap.get (objects_of m) q ≡ cond (is_object q) (finmap.get m q) None
get_object m q = get-retain_keys m is_object q (alike is_object q)

pub get_here : (m : Files) (q : List ℕ) → is_object q ≡ true → finmap.get (objects_of m) q ≡ finmap.get m q
get_here m q is = get_object m q ∙ ap (λ b. cond b (finmap.get m q) None) is

pub get_none : (m : Files) (q : List ℕ) → is_object q ≡ false → finmap.get (objects_of m) q ≡ None
get_none m q is = get_object m q ∙ ap (λ b. cond b (finmap.get m q) None) is

under : (b : Bool) (x y : Option (List ℕ)) → (b ≡ true → x ≡ y) → cond b x None ≡ cond b y None
under true x y e = e refl
under false x y e = refl

pub same_objects : (m n : Files) → ((q : List ℕ) → is_object q ≡ true → finmap.get m q ≡ finmap.get n q) → objects_of m ≡ objects_of n
same_objects m n e = same (objects_of m) (objects_of n) (λ q. get_object m q ∙ under (is_object q) (finmap.get m q) (finmap.get n q) (e q) ∙ sym (get_object n q))

put_swap : (m : Files) (k v q : List ℕ) → is_object k ≡ true → (b : Bool) → eq_by_cmp (slice_cmp nat_cmp) q k ≡ b
    → cond (is_object q) (cond b (Some v) (finmap.get m q)) None ≡ cond b (Some v) (cond (is_object q) (finmap.get m q) None)
put_swap m k v q is true e = ap (λ b. cond b (Some v) None) (ap is_object (tied q k e) ∙ is)
put_swap m k v q is false e = refl

pub objects-insert : (m : Files) (k v : List ℕ) → is_object k ≡ true → objects_of (finmap.insert m k v) ≡ finmap.insert (objects_of m) k v
objects-insert m k v is = same _ _ (λ q.
    get_object (finmap.insert m k v) q
    ∙ ap (λ x. cond (is_object q) x None) (get-insert nat_list_cmp_total m k v q)
    ∙ put_swap m k v q is (eq_by_cmp (slice_cmp nat_cmp) q k) refl
    ∙ ap (λ x. cond (eq_by_cmp (slice_cmp nat_cmp) q k) (Some v) x) (sym (get_object m q))
    ∙ sym (get-insert nat_list_cmp_total (objects_of m) k v q))

none_swap : (o b : Bool) (x : Option (List ℕ)) → cond o (cond b None x) None ≡ cond b None (cond o x None)
none_swap true true x = refl
none_swap true false x = refl
none_swap false true x = refl
none_swap false false x = refl

pub objects-remove : (m : Files) (k : List ℕ) → objects_of (finmap.remove m k) ≡ finmap.remove (objects_of m) k
objects-remove m k = same _ _ (λ q.
    get_object (finmap.remove m k) q
    ∙ ap (λ x. cond (is_object q) x None) (get-remove nat_list_cmp_total m k q)
    ∙ none_swap (is_object q) (eq_by_cmp (slice_cmp nat_cmp) q k) (finmap.get m q)
    ∙ ap (λ x. cond (eq_by_cmp (slice_cmp nat_cmp) q k) None x) (sym (get_object m q))
    ∙ sym (get-remove nat_list_cmp_total (objects_of m) k q))

gone_already : (m : Files) (k q : List ℕ) → is_object k ≡ false → (b : Bool) → eq_by_cmp (slice_cmp nat_cmp) q k ≡ b
    → cond b None (finmap.get (objects_of m) q) ≡ finmap.get (objects_of m) q
gone_already m k q is true e = sym (get_none m q (ap is_object (tied q k e) ∙ is))
gone_already m k q is false e = refl

pub remove_other : (m : Files) (k : List ℕ) → is_object k ≡ false → finmap.remove (objects_of m) k ≡ objects_of m
remove_other m k is = same _ _ (λ q. get-remove nat_list_cmp_total (objects_of m) k q ∙ gone_already m k q is (eq_by_cmp (slice_cmp nat_cmp) q k) refl)

-- ---- the names in order

abbrev firsts : List (List ℕ × List ℕ) → List (List ℕ)
firsts es = map (λ e. e.0) es

kept_firsts : (p : List ℕ → Bool) (es : List (List ℕ × List ℕ)) → firsts (where_key (slice_cmp nat_cmp) p es) ≡ filter p (firsts es)
kept_firsts p [] = refl
kept_firsts p (e ∷ es) =
    elim (p e.0) as (λ b. firsts (cond b (e ∷ where_key (slice_cmp nat_cmp) p es) (where_key (slice_cmp nat_cmp) p es)) ≡ cond b (e.0 ∷ filter p (firsts es)) (filter p (firsts es))) [
      | true ↦ ap (λ l. e.0 ∷ l) (kept_firsts p es)
      | false ↦ kept_firsts p es
    ]

pub keys-objects : (m : Files) → finmap.keys (objects_of m) ≡ filter is_object (finmap.keys m)
keys-objects m =
    let es : List (List ℕ × List ℕ) = finmap.entries m in
    let kept : List (List ℕ × List ℕ) = where_key (slice_cmp nat_cmp) is_object es in
    let in_order : T (finmap.is_sorted (slice_cmp nat_cmp) kept) = is_sorted-where_key (slice_cmp nat_cmp) is_object es (entries_sorted m) in
    let is : objects_of m ≡ finmap.from_sorted kept =
    same _ _ (λ q. get_object m q ∙ ap (λ x. cond (is_object q) x None) (get-entries m q)
    ∙ sym (find-where_key (slice_cmp nat_cmp) is_object q (alike is_object q) es)
    ∙ sym (get-from_sorted (slice_cmp nat_cmp) kept q in_order)) in
    ap finmap.keys is ∙ ap firsts (entries-from_sorted (slice_cmp nat_cmp) kept in_order) ∙ kept_firsts is_object es

-- ---- names are the same or not

pub cases_same : (q k : List ℕ) → (q ≡ k) ⊎ (q ≢ k)
cases_same q k = by (eq_by_cmp (slice_cmp nat_cmp) q k) refl
  where
    by : (b : Bool) → eq_by_cmp (slice_cmp nat_cmp) q k ≡ b → (q ≡ k) ⊎ (q ≢ k)
    by true e = inl (tied q k e)
    by false e = inr (λ is. differs (sym e ∙ ap (λ x. eq_by_cmp (slice_cmp nat_cmp) x k) is ∙ itself k))
      where
        differs : false ≡ true → ⊥
        differs e = cc

        itself : (x : List ℕ) → eq_by_cmp (slice_cmp nat_cmp) x x ≡ true
        itself x = ap is_eq (ties_itself x)

pub apart : (q k : List ℕ) → is_object q ≡ true → is_object k ≡ false → q ≢ k
apart q k is not e = differs (sym is ∙ ap is_object e ∙ not)
  where
    differs : true ≡ false → ⊥
    differs e = cc
