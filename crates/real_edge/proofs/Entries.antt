-- Finding, placing and removing, a step at a time.
use Rattle.std.proofs.Common.{◌≡◌, ◌≢◌, ℕ, ◌+◌, ◌<◌, Bool, true, false, cond, List, [], ◌∷◌, ◌++◌, length, get_or, take, drop, map, filter, Some, None, refl, sym, ap, ◌∙◌, add-one}
use Rattle.std.specs.declared.cmp.Ordering.TheVariants.{Less, Equal, Greater}
use Rattle.std.specs.Ordering.{nat_cmp, eq_by_cmp, is_eq}
use Rattle.std.specs.Cmp.{tied_itself}
use Rattle.std.specs.Cmp.Lexicographic.{slice_cmp, nat_list_cmp_total}
use Rattle.std.specs.FinMap.{slice_cmp-IsAntisymmetric, nat_cmp-IsAntisymmetric}
use Rattle.std.specs.FinMap.Entries.{by_order}
use Rattle.std.proofs.lemmas.List.{take_more, map_push, map-append, take_at, take-append-drop, take-map, drop-map, append-nil}
use Rattle.std.proofs.lemmas.List.Elements.{filter-append}
use Rattle.real_edge.specs.declared.shelf_files.Object.{Object}
use Rattle.real_edge.specs.Entries.{entry, entries, found, placed, rank_of}

pub ties_itself : (key : List ℕ) → slice_cmp nat_cmp key key ≡ Equal
ties_itself key = tied_itself nat_list_cmp_total key

pub same_from_tie : (a b : List ℕ) → slice_cmp nat_cmp a b ≡ Equal → a ≡ b
same_from_tie a b e = slice_cmp-IsAntisymmetric nat_cmp-IsAntisymmetric a b e

pub not_tied : (a b : List ℕ) → a ≢ b → eq_by_cmp (slice_cmp nat_cmp) a b ≡ false
not_tied a b ne = elim (slice_cmp nat_cmp a b) as (λ r. slice_cmp nat_cmp a b ≡ r → is_eq r ≡ false) [
  | Less ↦ λ e. refl
  | Equal ↦ λ e. absurd (ne (same_from_tie a b e))
  | Greater ↦ λ e. refl
] refl

pub found_here : (key : List ℕ) (o : Object) (os : List Object) → o.key ≡ key → found key (entries (o ∷ os)) ≡ Some o.content
found_here key o os same =
    let tie : eq_by_cmp (slice_cmp nat_cmp) key o.key ≡ true = ap (λ (k : List ℕ). eq_by_cmp (slice_cmp nat_cmp) key k) same ∙ ap is_eq (ties_itself key) in
    rw tie refl

pub found_later : (key : List ℕ) (o : Object) (os : List Object) → o.key ≢ key → found key (entries (o ∷ os)) ≡ found key (entries os)
found_later key o os other = rw (not_tied key o.key (λ e. other (sym e))) refl

-- ---- placing

pub placed_at_rank : (key content : List ℕ) (es : List (List ℕ × List ℕ)) → found key es ≡ None → take (rank_of key es) es ++ (key, content) ∷ drop (rank_of key es) es ≡ placed key content es
placed_at_rank key content [] none = refl
placed_at_rank key content (e ∷ es) none =
    elim (slice_cmp nat_cmp key e.0) as (λ r. cond (is_eq r) (Some e.1) (found key es) ≡ None → take (by_order r 0 0 (rank_of key es + 1)) (e ∷ es) ++ (key, content) ∷ drop (by_order r 0 0 (rank_of key es + 1)) (e ∷ es)
    ≡ by_order r ((key, content) ∷ e ∷ es) ((e.0, content) ∷ es) (e ∷ placed key content es)) [
      | Less ↦ λ none. refl
      | Equal ↦ λ none. absurd cc
      | Greater ↦ λ none. rw add-one (ap (λ (l : List (List ℕ × List ℕ)). e ∷ l) (placed_at_rank key content es none))
    ] none

-- ---- listing

abbrev pub keys_of : List Object → List (List ℕ)
keys_of os = map (λ (e : List ℕ × List ℕ). e.0) (entries os)

pub listed_more : (p : List ℕ → Bool) (os : List Object) (i : ℕ) (o : Object) → i < length os → o ≡ get_or os i o
    → filter p (keys_of (take (i + 1) os)) ≡ filter p (keys_of (take i os)) ++ cond (p o.key) (o.key ∷ []) []
listed_more p os i o lt is =
    let front : keys_of (take (i + 1) os) ≡ keys_of (take i os) ++ o.key ∷ [] =
    ap keys_of (take_more os i o lt ∙ ap (λ (x : Object). take i os ++ x ∷ []) (sym is))
    ∙ ap (λ (l : List (List ℕ × List ℕ)). map (λ (e : List ℕ × List ℕ). e.0) l) (map_push entry (take i os) o) ∙ map_push (λ (e : List ℕ × List ℕ). e.0) (entries (take i os)) (entry o) in
    ap (filter p) front ∙ filter-append p (keys_of (take i os)) (o.key ∷ [])

pub listed_taken : (p : List ℕ → Bool) (os : List Object) (i : ℕ) (o : Object) (keys keys' : List (List ℕ)) → i < length os → o ≡ get_or os i o → p o.key ≡ true → keys' ≡ keys ++ o.key ∷ []
    → keys ≡ filter p (keys_of (take i os)) → keys' ≡ filter p (keys_of (take (i + 1) os))
listed_taken p os i o keys keys' lt is wanted e so_far =
    e ∙ ap (λ (l : List (List ℕ)). l ++ o.key ∷ []) so_far ∙ ap (λ (b : Bool). filter p (keys_of (take i os)) ++ cond b (o.key ∷ []) []) (sym wanted) ∙ sym (listed_more p os i o lt is)

pub listed_passed : (p : List ℕ → Bool) (os : List Object) (i : ℕ) (o : Object) (keys : List (List ℕ)) → i < length os → o ≡ get_or os i o → p o.key ≡ false
    → keys ≡ filter p (keys_of (take i os)) → keys ≡ filter p (keys_of (take (i + 1) os))
listed_passed p os i o keys lt is passed so_far =
    so_far ∙ sym (append-nil (filter p (keys_of (take i os)))) ∙ ap (λ (b : Bool). filter p (keys_of (take i os)) ++ cond b (o.key ∷ []) []) (sym passed) ∙ sym (listed_more p os i o lt is)

pub full : (p : List ℕ → Bool) (os : List Object) (i max : ℕ) (keys : List (List ℕ)) → keys ≡ filter p (keys_of (take i os)) → length keys ≡ max → keys ≡ take max (filter p (keys_of os))
full p os i max keys so_far len =
    let parts : keys_of os ≡ keys_of (take i os) ++ keys_of (drop i os) =
    ap keys_of (sym (take-append-drop i os)) ∙ ap (map (λ (e : List ℕ × List ℕ). e.0)) (map-append entry (take i os) (drop i os)) ∙ map-append (λ (e : List ℕ × List ℕ). e.0) (entries (take i os)) (entries (drop i os)) in
    let kept : filter p (keys_of os) ≡ keys ++ filter p (keys_of (drop i os)) =
    ap (filter p) parts ∙ filter-append p (keys_of (take i os)) (keys_of (drop i os)) ∙ ap (λ (l : List (List ℕ)). l ++ filter p (keys_of (drop i os))) (sym so_far) in
    sym (ap (take max) kept ∙ take_at keys (filter p (keys_of (drop i os))) max len)

pub inserted_entries : (os : List Object) (i : ℕ) (o : Object) → entries (take i os ++ o ∷ drop i os) ≡ take i (entries os) ++ entry o ∷ drop i (entries os)
inserted_entries os i o = map-append entry (take i os) (o ∷ drop i os)
    ∙ ap (λ (l : List (List ℕ × List ℕ)). l ++ entry o ∷ entries (drop i os)) (sym (take-map entry i os)) ∙ ap (λ (l : List (List ℕ × List ℕ)). take i (entries os) ++ entry o ∷ l) (sym (drop-map entry i os))
