-- A bucket's own keys among the names of its nested answers stand in byte order where these do.
use Rattle.std.proofs.Common.{◌≡◌, ◌∙◌, ℕ, ℤ, Bool, true, false, List, [], ◌∷◌, ◌++◌, Option, Some, None, append_assoc, refl, ap, sym, subst, if◌then◌else◌}
use Rattle.std.specs.Prelude.{codes}
use Rattle.std.specs.Cmp.Lexicographic.{slice_cmp, nat_list_cmp_total}
use Rattle.std.specs.Fmt.{decimal}
use Rattle.std.specs.List.{AllByRecursion}
use Rattle.std.specs.Ordering.{is_lt, nat_cmp, ordering_reverse}
use Rattle.std.specs.declared.cmp.Ordering.{Ordering}
use Rattle.std.specs.declared.cmp.Ordering.TheVariants.{Less, Equal, Greater}
use Rattle.doc_value.specs.Printed.{quoted}
use Rattle.agg_model.specs.declared.answer.Bucket.{Bucket}
use Rattle.agg_nested.specs.declared.answer.RangeBucket.{RangeBucket}
use Rattle.search_api.specs.Replies.{pair, is_below, before, behind, own_among, behind_all, among, edge_pairs, range_key, range_pairs, value_pairs, StandInOrder}
use Rattle.search_api.specs.declared.bucket_pairs.Pair.{Pair}

-- ---- the order of keys
lt_of : (o : Ordering) → is_lt o ≡ true → o ≡ Less
lt_of Less e = refl
lt_of Equal e = absurd cc
lt_of Greater e = absurd cc

-- what lies below a key does not lie behind it
below_once : (a b : List ℕ) → is_below a b ≡ true → is_below b a ≡ false
below_once a b e =
    let back : slice_cmp nat_cmp b a ≡ Greater = nat_list_cmp_total.antisymm b a ∙ ap ordering_reverse (lt_of (slice_cmp nat_cmp a b) e) in
    rw back refl

not_below_by : (a b c : List ℕ) (o r : Ordering) → slice_cmp nat_cmp c b ≡ o → slice_cmp nat_cmp c a ≡ r → is_below b a ≡ false → is_below c b ≡ false → is_below c a ≡ false
not_below_by a b c Less r e f p q = absurd (let z : true ≡ false = rw e at q in cc)
not_below_by a b c Equal r e f p q = rw (nat_list_cmp_total.congr c b a e) p
not_below_by a b c Greater Less e f p q =
    let back : slice_cmp nat_cmp b c ≡ Less = nat_list_cmp_total.antisymm b c ∙ ap ordering_reverse e in
    let less : slice_cmp nat_cmp b a ≡ Less = nat_list_cmp_total.trans b c a back f in
    absurd (let z : true ≡ false = rw less at p in cc)
not_below_by a b c Greater Equal e f p q = rw f refl
not_below_by a b c Greater Greater e f p q = rw f refl

not_below : (a b c : List ℕ) → is_below b a ≡ false → is_below c b ≡ false → is_below c a ≡ false
not_below a b c p q = not_below_by a b c (slice_cmp nat_cmp c b) (slice_cmp nat_cmp c a) refl refl p q

-- ---- lists of pairs
abbrev pub AreAbove : List ℕ → List Pair → Type 0
AreAbove key ps = AllByRecursion (λ q. is_below q.key key ≡ false) ps

abbrev pub AreBelow : List ℕ → List Pair → Type 0
AreBelow key ps = AllByRecursion (λ q. is_below q.key key ≡ true) ps

above_more : (a b : List ℕ) (ps : List Pair) → is_below b a ≡ false → AreAbove b ps → AreAbove a ps
above_more a b [] l h = tt
above_more a b (p ∷ ps) l h = (not_below a b p.key l h.0, above_more a b ps l h.1)

above_both : (key : List ℕ) (xs ys : List Pair) → AreAbove key xs → AreAbove key ys → AreAbove key (xs ++ ys)
above_both key [] ys h k = k
above_both key (x ∷ xs) ys h k = (h.0, above_both key xs ys h.1 k)

-- ---- those before a key and those behind it
before_above_by : (b : Bool) (a : List ℕ) (p : Pair) (ps : List Pair) → is_below p.key a ≡ false → AreAbove a ps → AreAbove a (if b then p ∷ ps else [])
before_above_by true a p ps h k = (h, k)
before_above_by false a p ps h k = tt

before_above : (a key : List ℕ) (ps : List Pair) → AreAbove a ps → AreAbove a (before key ps)
before_above a key [] h = tt
before_above a key (p ∷ ps) h = before_above_by (is_below p.key key) a p (before key ps) h.0 (before_above a key ps h.1)

behind_above_by : (b : Bool) (a : List ℕ) (p : Pair) (left ps : List Pair) → is_below p.key a ≡ false → AreAbove a ps → AreAbove a left → AreAbove a (if b then left else p ∷ ps)
behind_above_by true a p left ps h k l = l
behind_above_by false a p left ps h k l = (h, k)

behind_above : (a key : List ℕ) (ps : List Pair) → AreAbove a ps → AreAbove a (behind key ps)
behind_above a key [] h = tt
behind_above a key (p ∷ ps) h = behind_above_by (is_below p.key key) a p (behind key ps) ps h.0 h.1 (behind_above a key ps h.1)

before_below_by : (b : Bool) (key : List ℕ) (p : Pair) (ps : List Pair) → is_below p.key key ≡ b → AreBelow key ps → AreBelow key (if b then p ∷ ps else [])
before_below_by true key p ps e h = (e, h)
before_below_by false key p ps e h = tt

before_below : (key : List ℕ) (ps : List Pair) → AreBelow key (before key ps)
before_below key [] = tt
before_below key (p ∷ ps) = before_below_by (is_below p.key key) key p (before key ps) refl (before_below key ps)

before_order_by : (b : Bool) (p : Pair) (ps : List Pair) → AreAbove p.key ps → StandInOrder ps → StandInOrder (if b then p ∷ ps else [])
before_order_by true p ps h k = (h, k)
before_order_by false p ps h k = tt

before_order : (key : List ℕ) (ps : List Pair) → StandInOrder ps → StandInOrder (before key ps)
before_order key [] h = tt
before_order key (p ∷ ps) h = before_order_by (is_below p.key key) p (before key ps) (before_above p.key key ps h.0) (before_order key ps h.1)

behind_order_by : (b : Bool) (p : Pair) (left ps : List Pair) → AreAbove p.key ps → StandInOrder ps → StandInOrder left → StandInOrder (if b then left else p ∷ ps)
behind_order_by true p left ps h k l = l
behind_order_by false p left ps h k l = (h, k)

behind_order : (key : List ℕ) (ps : List Pair) → StandInOrder ps → StandInOrder (behind key ps)
behind_order key [] h = tt
behind_order key (p ∷ ps) h = behind_order_by (is_below p.key key) p (behind key ps) ps h.0 h.1 (behind_order key ps h.1)

behind_up_by : (b : Bool) (key : List ℕ) (p : Pair) (left ps : List Pair) → is_below p.key key ≡ b → AreAbove p.key ps → AreAbove key left → AreAbove key (if b then left else p ∷ ps)
behind_up_by true key p left ps e h k = k
behind_up_by false key p left ps e h k = (e, above_more key p.key ps e h)

-- what is left behind a key does not lie below it
behind_up : (key : List ℕ) (ps : List Pair) → StandInOrder ps → AreAbove key (behind key ps)
behind_up key [] h = tt
behind_up key (p ∷ ps) h = behind_up_by (is_below p.key key) key p (behind key ps) ps refl h.0 (behind_up key ps h.1)

-- ---- all together
own_first : (own : Pair) (more nested : List Pair) → before own.key nested ++ (own ∷ among more (behind own.key nested)) ≡ among (own ∷ more) nested
own_first own more nested =
    sym (append_assoc (before own.key nested) (own ∷ own_among more (behind own.key nested)) (behind_all more (behind own.key nested)))

among_above : (key : List ℕ) (own nested : List Pair) → AreAbove key own → AreAbove key nested → AreAbove key (among own nested)
among_above key [] nested h k = k
among_above key (own ∷ more) nested h k =
    let left = among_above key more (behind own.key nested) h.1 (behind_above key own.key nested k) in
    subst (λ (ps : List Pair). AreAbove key ps) (own_first own more nested)
    (above_both key (before own.key nested) (own ∷ among more (behind own.key nested)) (before_above key own.key nested k) (h.0, left))

joined_order : (xs : List Pair) (own : Pair) (ys : List Pair) → StandInOrder xs → AreBelow own.key xs → AreAbove own.key ys → StandInOrder ys → StandInOrder (xs ++ (own ∷ ys))
joined_order [] own ys h k l m = (l, m)
joined_order (x ∷ xs) own ys h k l m =
    let once = below_once x.key own.key k.0 in
    (above_both x.key xs (own ∷ ys) h.0 (once, above_more x.key own.key ys once l), joined_order xs own ys h.1 k.1 l m)

pub all_in_order : (own nested : List Pair) → StandInOrder own → StandInOrder nested → StandInOrder (among own nested)
all_in_order [] nested h k = k
all_in_order (own ∷ more) nested h k =
    subst (λ (ps : List Pair). StandInOrder ps) (own_first own more nested)
    (joined_order (before own.key nested) own (among more (behind own.key nested)) (before_order own.key nested k) (before_below own.key nested)
    (among_above own.key more (behind own.key nested) h.0 (behind_up own.key nested k)) (all_in_order more (behind own.key nested) h.1 (behind_order own.key nested k)))

-- ---- the pairs of a bucket's own
pub values_in_order : (b : Bucket) (nested : List Pair) → StandInOrder nested → StandInOrder (among (value_pairs b) nested)
values_in_order b nested h = all_in_order (value_pairs b) nested ((refl, tt), (tt, tt)) h

own_order : (count key : List ℕ) (from to : Option ℤ)
    → StandInOrder (pair (codes "doc_count") count ∷ (edge_pairs (codes "from") from ++ (pair (codes "key") key ∷ edge_pairs (codes "to") to)))
own_order count key None None = ((refl, tt), (tt, tt))
own_order count key None (Some to) = ((refl, (refl, tt)), ((refl, tt), (tt, tt)))
own_order count key (Some from) None = ((refl, (refl, tt)), ((refl, tt), (tt, tt)))
own_order count key (Some from) (Some to) = ((refl, (refl, (refl, tt))), ((refl, (refl, tt)), ((refl, tt), (tt, tt))))

pub ranges_in_order : (b : RangeBucket) (nested : List Pair) → StandInOrder nested → StandInOrder (among (range_pairs b) nested)
ranges_in_order b nested h =
    all_in_order (range_pairs b) nested (own_order (decimal b.count) (quoted (range_key b.range)) b.range.from b.range.to) h
