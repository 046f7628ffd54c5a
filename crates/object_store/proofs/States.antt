-- What lands, and what the objects of a list are as a map.
use Rattle.std.proofs.Common.{◌≡◌, ℕ, Bool, true, false, cond, T, List, [], length, take, map, Option, Some, None, refl, sym, ap, subst, ◌∙◌}
use Rattle.std.specs.Ordering.{nat_cmp, eq_by_cmp}
use Rattle.std.proofs.Common.{not}
use Rattle.std.specs.declared.cmp.Ordering.TheVariants.{Equal}
use Rattle.std.specs.Cmp.{Equal-is, eq_by_cmp_equiv}
use Rattle.std.specs.Cmp.Lexicographic.{slice_cmp, nat_list_cmp_total}
use Rattle.std.specs.FinMap as finmap
use Rattle.std.specs.FinMap.{slice_cmp-IsAntisymmetric, nat_cmp-IsAntisymmetric, get-insert, get-remove, get-from_sorted, entries-from_sorted, entries-insert, same_entries_map, same_map, empty_of_len, len-entries}
use Rattle.std.specs.FinMap.Entries.{is_sorted, is_sorted-put, is_sorted-where_key, find-where_key}
use Rattle.object_store.specs.Entries.{found, placed, removed}
use Rattle.std.specs.Prelude.{IfOk, Result, Ok, Err}
use Rattle.object_store.specs.declared.store.ListError.{ListError}
use Rattle.object_store.specs.Store.{Objects, State, listed, Lists}
use Rattle.object_store.proofs.Entries.{same_from_tie}

abbrev Entry : Type 0
Entry = List ℕ × List ℕ

abbrev pub Contents : List (List ℕ × List ℕ) → Objects
Contents es = finmap.from_sorted es

is_in : (b : Bool) → b ≡ true → T b
is_in b e = subst T (sym e) tt

is_true : (b : Bool) → T b → b ≡ true
is_true true h = refl
is_true false h = absurd h

turned : (b : Bool) (x : Option (List ℕ)) → cond (not b) x None ≡ cond b None x
turned true x = refl
turned false x = refl

-- keys that tie answer alike
alike : (q x key : List ℕ) → slice_cmp nat_cmp q x ≡ Equal → eq_by_cmp (slice_cmp nat_cmp) key x ≡ eq_by_cmp (slice_cmp nat_cmp) key q
alike q x key t = ap (λ (k : List ℕ). eq_by_cmp (slice_cmp nat_cmp) key k) (sym (same_from_tie q x t))

-- ---- a sorted list as a map

pub get_of : (es : List (List ℕ × List ℕ)) (key : List ℕ) → is_sorted (slice_cmp nat_cmp) es ≡ true → finmap.get (Contents es) key ≡ found key es
get_of es key h = get-from_sorted (slice_cmp nat_cmp) es key (is_in _ h)

pub sorted_placed : (es : List (List ℕ × List ℕ)) (key content : List ℕ) → is_sorted (slice_cmp nat_cmp) es ≡ true → is_sorted (slice_cmp nat_cmp) (placed key content es) ≡ true
sorted_placed es key content h = is_true _ (is_sorted-put (slice_cmp nat_cmp) nat_list_cmp_total key content es (is_in _ h))

pub sorted_removed : (es : List (List ℕ × List ℕ)) (key : List ℕ) → is_sorted (slice_cmp nat_cmp) es ≡ true → is_sorted (slice_cmp nat_cmp) (removed key es) ≡ true
sorted_removed es key h = is_true _ (is_sorted-where_key (slice_cmp nat_cmp) _ es (is_in _ h))

pub insert_of : (es : List (List ℕ × List ℕ)) (key content : List ℕ) → is_sorted (slice_cmp nat_cmp) es ≡ true → Contents (placed key content es) ≡ finmap.insert (Contents es) key content
insert_of es key content h = same_entries_map _ _
    (entries-from_sorted (slice_cmp nat_cmp) (placed key content es) (is_in _ (sorted_placed es key content h))
    ∙ ap (λ (l : List (List ℕ × List ℕ)). placed key content l) (sym (entries-from_sorted (slice_cmp nat_cmp) es (is_in _ h))) ∙ sym (entries-insert nat_list_cmp_total (Contents es) key content))

pub keys_of : (es : List (List ℕ × List ℕ)) → is_sorted (slice_cmp nat_cmp) es ≡ true → finmap.keys (Contents es) ≡ map (λ e. e.0) es
keys_of es h = ap (λ (l : List (List ℕ × List ℕ)). map (λ (e : List ℕ × List ℕ). e.0) l) (entries-from_sorted (slice_cmp nat_cmp) es (is_in _ h))

-- an object that is put where none stands
pub get_with : (m : Objects) (key content q : List ℕ) → finmap.get (finmap.insert m key content) q ≡ cond (eq_by_cmp (slice_cmp nat_cmp) q key) (Some content) (finmap.get m q)
get_with m key content q = get-insert nat_list_cmp_total m key content q

pub tied : (q key : List ℕ) → eq_by_cmp (slice_cmp nat_cmp) q key ≡ true → q ≡ key
tied q key e = same_from_tie q key ((Equal-is (slice_cmp nat_cmp q key)).0 e)

pub put_keeps : (m : Objects) (key content q c : List ℕ) → finmap.get m key ≡ None → finmap.get m q ≡ Some c → (b : Bool) → eq_by_cmp (slice_cmp nat_cmp) q key ≡ b → cond b (Some content) (finmap.get m q) ≡ Some c
put_keeps m key content q c none stands true e = let same : finmap.get m q ≡ finmap.get m key = ap (finmap.get m) (tied q key e) in absurd cc
put_keeps m key content q c none stands false e = stands

pub nothing : Contents [] ≡ finmap.empty
nothing = empty_of_len (Contents []) (len-entries (Contents []) ∙ ap length (entries-from_sorted (slice_cmp nat_cmp) [] tt))

pub remove_of : (es : List (List ℕ × List ℕ)) (key : List ℕ) → is_sorted (slice_cmp nat_cmp) es ≡ true → Contents (removed key es) ≡ finmap.remove (Contents es) key
remove_of es key h = same_map nat_list_cmp_total (slice_cmp-IsAntisymmetric nat_cmp-IsAntisymmetric) _ _ (λ q.
    get_of (removed key es) q (sorted_removed es key h)
    ∙ find-where_key (slice_cmp nat_cmp) (λ x. not (eq_by_cmp (slice_cmp nat_cmp) key x)) q (λ x t. ap (λ b. not b) (alike q x key t)) es
    ∙ turned (eq_by_cmp (slice_cmp nat_cmp) key q) (found q es)
    ∙ ap (λ b. cond b None (found q es)) ((eq_by_cmp_equiv nat_list_cmp_total).symm key q)
    ∙ ap (λ r. cond (eq_by_cmp (slice_cmp nat_cmp) q key) None r) (sym (get_of es q h))
    ∙ sym (get-remove nat_list_cmp_total (Contents es) key q))

-- a listing changes nothing
pub lists_of : (prefix : List ℕ) (after : Option (List ℕ)) (max : ℕ) (r : Result (List (List ℕ)) ListError) (s : State) → IfOk r (λ keys. keys ≡ take max (listed prefix after s.objects)) → Lists prefix after max r s s
lists_of prefix after max (Ok keys) s h = (refl, h)
lists_of prefix after max (Err e) s h = refl
