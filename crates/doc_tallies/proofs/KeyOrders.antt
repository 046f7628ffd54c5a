-- The near ones by their keys in a column.
use Rattle.std.proofs.Common.{◌≡◌, ℕ, ◌+◌, ◌<◌, Bool, cond, nat_lt, List, [], ◌∷◌, ◌++◌, length, take, get_or, slice_get, Option, Some, None, refl, ap, sym, ◌∙◌}
use Rattle.std.specs.List.{AllByRecursion, count_by, filter, filter_map, cons_option}
use Rattle.std.specs.Option.{option_to_list}
use Rattle.std.proofs.lemmas.List.{take_more}
use Rattle.std.proofs.lemmas.List.Elements.{recursion_from_All, filter_map-append}
use Rattle.std.proofs.lemmas.List.Sums.{sum_by-cons}
use Rattle.doc_value.specs.declared.schema.Schema.{Schema}
use Rattle.split_bundle.specs.Splits.{AreDocumentsOf}
use Rattle.split_bundle.specs.declared.placed.Placed.{Placed}
use Rattle.doc_tallies.specs.declared.hit_order.HitOrder.{HitOrder}
use Rattle.doc_tallies.specs.declared.near.SortColumn.{SortColumn}
use Rattle.doc_tallies.specs.Least.{few_before}
use Rattle.doc_tallies.specs.Near.{has_few_ahead, is_ahead, shown}
use Rattle.doc_tallies.specs.Picked.{AllBelow, picked}
use Rattle.doc_tallies.specs.Ranks.{IsSortFor, key_at, near_keys}
use Rattle.doc_tallies.proofs.Keys.{count_keys, key_before}
use Rattle.doc_tallies.proofs.Nears.{few_here}
use Rattle.doc_tallies.proofs.RankOrders.{ahead_key}
use Rattle.doc_tallies.proofs.TimeValues.{stands}

-- one more number
pub keys_more : (f : ℕ → Option ℕ) (ns : List ℕ) (i : ℕ) → i < length ns → filter_map f (take (i + 1) ns) ≡ filter_map f (take i ns) ++ option_to_list (f (get_or ns i 0))
keys_more f ns i lt = ap (filter_map f) (take_more ns i 0 lt) ∙ (filter_map-append f (take i ns) (get_or ns i 0 ∷ []) ∙ ap (λ (ks : List ℕ). filter_map f (take i ns) ++ ks) (last (f (get_or ns i 0))))
  where
    last : (o : Option ℕ) → cons_option o [] ≡ option_to_list o
    last None = refl
    last (Some k) = refl

-- documents ahead of one are counted by keys
count_picked : (q : Placed → Bool) (r : ℕ → Bool) (documents : List Placed) (ns : List ℕ) → AllByRecursion (λ n. n < length documents) ns
    → ((n : ℕ) (x : Placed) → slice_get documents n ≡ Some x → q x ≡ r n) → count_by q (picked ns documents) ≡ count_by r ns
count_picked q r documents [] below same = refl
count_picked q r documents (n ∷ ns) below same =
    let at = stands documents n below.0 in
    let d = at.document in
    ap (λ (o : Option Placed). count_by q (option_to_list o ++ picked ns documents)) at.here
    ∙ (sum_by-cons (λ (x : Placed). cond {A = ℕ} (q x) 1 0) d (picked ns documents)
    ∙ (ap (λ (t : Bool). cond {A = ℕ} t 1 0 + count_by q (picked ns documents)) (same n d at.here)
    ∙ (ap (λ (k : ℕ). cond {A = ℕ} (r n) 1 0 + k) (count_picked q r documents ns below.1 same)
    ∙ sym (sum_by-cons (λ (m : ℕ). cond {A = ℕ} (r m) 1 0) n ns))))

filter_same_on : (P : ℕ → Type 0) (p q : ℕ → Bool) → ((n : ℕ) → P n → p n ≡ q n) → (ns : List ℕ) → AllByRecursion P ns → filter p ns ≡ filter q ns
filter_same_on P p q same [] all = refl
filter_same_on P p q same (n ∷ ns) all = rw (same n all.0, filter_same_on P p q same ns all.1) refl

pub nears_by_keys : (s : Schema) (documents : List Placed) (order : Option HitOrder) (c : SortColumn) (wanted : ℕ) (ns : List ℕ) → AreDocumentsOf s documents → (is : IsSortFor s documents order c) → AllBelow (length documents) ns
    → near_keys c.descending is.is_for.is_of.entries wanted ns ≡ shown order wanted documents ns
nears_by_keys s documents order c wanted ns of is all =
    let by = is.by in
    let column = is.is_for.is_of in
    let es = column.entries in
    let below = recursion_from_All (λ (n : ℕ). n < length documents) ns all in
    let f = key_at by.descending es in
    let small = column.holds.fits.small_numbers in
    let one = λ (n : ℕ) (lt : n < length documents).
    (let at = stands documents n lt in
    sym (few_here by wanted documents ns n at.document at.here
    ∙ ap (λ (k : ℕ). nat_lt k wanted) (count_picked (λ x. is_ahead by x at.document) (λ m. key_before (f m) (f n)) documents ns below
    (λ m x here. ahead_key s documents by is.is_for.field column.texts es m n x at.document of is.is_for.here column.are_texts.rise small column.are_entries here at.here)
    ∙ count_keys f (f n) ns))) in
    ap (λ (d : Bool). near_keys d es wanted ns) is.descending_is
    ∙ (filter_same_on (λ n. n < length documents) (λ n. few_before wanted (filter_map f ns) (f n)) (has_few_ahead by wanted documents ns) one ns below
    ∙ ap (λ (o : Option HitOrder). shown o wanted documents ns) (sym is.order_is))
