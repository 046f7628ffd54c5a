-- What the hits that a split gave tell of those that it did not give.
use Rattle.std.proofs.Common.{◌≡◌, ◌⊎◌, inl, inr, Option, None, IfNone, ℕ, zero, suc, ◌+◌, ◌-◌, ◌<◌, ◌≤◌, Bool, true, false, List, [], ◌∷◌, ◌++◌, count_by, length, take, drop, slice_get, Some, refl, ap, sym, subst, ◌∙◌, arith, append_assoc, append-nil, length-append}
use Rattle.std.specs.Bool.{OnTrue}
use Rattle.std.specs.Cmp.{IsStrictWeakOrder}
use Rattle.std.specs.List.{AllByRecursion, AllZip, filter}
use Rattle.std.proofs.lemmas.List.Elements.{filter-append}
use Rattle.std.proofs.lemmas.List.Sums.{length-filter}
use Rattle.split_bundle.specs.declared.placed.Placed.{Placed}
use Rattle.doc_tallies.specs.Orders.{comes_before, firsts}
use Rattle.doc_tallies.specs.declared.hit_order.HitOrder.{HitOrder}
use Rattle.doc_tallies.proofs.HitOrders.{hits_order}
use Rattle.root_search.specs.Shares.{AreEnough, IsFirstOf, IsPart, IsUsedUp, IsWhole, hits_in}
use Rattle.root_search.specs.declared.shares.SplitShare.{SplitShare}
use Rattle.doc_tallies.specs.Firsts.{sorted_by, firsts_by}
use Rattle.doc_tallies.specs.Shares.{IsCut, IsShare, joined}
use Rattle.doc_tallies.proofs.Late.{firsts_again}
use Rattle.doc_tallies.proofs.Putting.{InOrder, firsts_in_order, sorted_in_order, sorted_self, up_to}
use Rattle.doc_tallies.proofs.Shared.{firsts_both, shares_enough}

-- ---- of lists

take_wide : {X : Type 0} (n w : ℕ) (xs : List X) → n ≤ w → take w (take n xs) ≡ take n xs
take_wide zero zero xs few = refl
take_wide zero (suc w) xs few = refl
take_wide (suc n) zero xs few = absurd (omega (arith, few))
take_wide (suc n) (suc w) [] few = refl
take_wide (suc n) (suc w) (x ∷ xs) few = ap (λ zs. x ∷ zs) (take_wide n w xs (omega (arith, few)))

take_short : {X : Type 0} (n w : ℕ) (xs : List X) → n ≤ w → length (take n xs) < n → take n xs ≡ take w xs
take_short zero w xs few short = absurd (omega (arith, short))
take_short (suc n) zero xs few short = absurd (omega (arith, few))
take_short (suc n) (suc w) [] few short = refl
take_short (suc n) (suc w) (x ∷ xs) few short = ap (λ zs. x ∷ zs) (take_short n w xs (omega (arith, few)) (omega (arith, short)))

-- all others of a list in order stand behind what its first one stands behind
all_behind : {X : Type 0} (b : X → X → Bool) → IsStrictWeakOrder b → (z x : X) (xs : List X) → InOrder b (x ∷ xs) → b z x ≡ true → AllByRecursion (λ y. b z y ≡ true) xs
all_behind b o z x [] up behind = tt
all_behind b o z x (y ∷ ys) up behind =
    let next = up_to b o z x y behind up.0 in
    (next, all_behind b o z y ys up.1 next)

rest_behind : {X : Type 0} (b : X → X → Bool) → IsStrictWeakOrder b → (z y : X) (n i : ℕ) (xs : List X) → InOrder b xs → suc i ≡ length (take n xs) → n ≤ length (take n xs) → slice_get (take n xs) i ≡ Some y → b z y ≡ true
    → AllByRecursion (λ x. b z x ≡ true) (drop n xs)
rest_behind b o z y zero i xs up last full here behind = absurd (omega (arith, last))
rest_behind b o z y (suc n) i [] up last full here behind = absurd (omega (arith, last))
rest_behind b o z y (suc zero) zero (x ∷ xs) up last full here behind =
    let same : x ≡ y = cc in
    all_behind b o z x xs up (subst (λ d. b z d ≡ true) (sym same) behind)
rest_behind b o z y (suc zero) (suc i) (x ∷ xs) up last full here behind = absurd (omega (arith, last))
rest_behind b o z y (suc (suc n)) i (x ∷ []) up last full here behind = absurd (omega (arith, full))
rest_behind b o z y (suc (suc n)) zero (x ∷ v ∷ xs) up last full here behind = absurd (omega (arith, last))
rest_behind b o z y (suc (suc n)) (suc i) (x ∷ v ∷ xs) up last full here behind = rest_behind b o z y (suc n) i (v ∷ xs) up.1 (omega (arith, last)) (omega (arith, full)) here behind

-- ---- of the hits that a split gave

-- the first so many of a list are the first of themselves
pub own_firsts : {X : Type 0} (b : X → X → Bool) → IsStrictWeakOrder b → (n w : ℕ) (own hits : List X) → n ≤ w → hits ≡ firsts_by n b own → hits ≡ firsts_by w b hits
own_firsts {X = X} b o n w own hits few h =
    let first = firsts_by n b own in
    subst (λ (zs : List X). zs ≡ firsts_by w b zs) (sym h) (sym (ap (take w) (sorted_self b first (firsts_in_order b o n own)) ∙ take_wide n w (sorted_by b own) few))

-- a list that has fewer has no more than these
pub whole_short : {X : Type 0} (b : X → X → Bool) (n w : ℕ) (own hits : List X) → n ≤ w → hits ≡ firsts_by n b own → length hits < n → hits ≡ firsts_by w b own
whole_short {X = X} b n w own hits few h short = h ∙ take_short n w (sorted_by b own) few (subst (λ (zs : List X). length zs < n) h short)

-- where the last of them stands behind z, all others do
pub cut_behind : {X : Type 0} (b : X → X → Bool) → IsStrictWeakOrder b → (n : ℕ) (own hits : List X) (z y : X) → hits ≡ firsts_by n b own → n ≤ length hits → slice_get hits (length hits - 1) ≡ Some y → b z y ≡ true → IsCut b z own hits
cut_behind {X = X} b o n own [] z y h full here behind = absurd (cc)
cut_behind {X = X} b o n own (v ∷ hits) z y h full here behind =
    let long : length (v ∷ hits) ≡ length (firsts_by n b own) = ap length h in
    let place : length (v ∷ hits) - 1 ≡ length hits = omega arith in
    let there : slice_get (firsts_by n b own) (length hits) ≡ Some y = ap (λ zs. slice_get zs (length hits)) (sym h) ∙ (ap (slice_get (v ∷ hits)) (sym place) ∙ here) in
    record {
      many = n;
      firsts = h;
      behind = rest_behind b o z y n (length hits) (sorted_by b own) (sorted_in_order b o own) (omega (arith, long)) (omega (arith, long, full)) there behind;
    }

-- ---- of all lists

-- each list gave all that are wanted
pub whole_joined : {X : Type 0} (b : X → X → Bool) → IsStrictWeakOrder b → (w : ℕ) (owns shares : List (List X)) → AllZip (λ own share. share ≡ firsts_by w b own) owns shares → firsts_by w b (joined owns) ≡ firsts_by w b (joined shares)
whole_joined b o w [] [] all = refl
whole_joined b o w [] (s ∷ shares) all = absurd all
whole_joined b o w (own ∷ owns) [] all = absurd all
whole_joined b o w (own ∷ owns) (s ∷ shares) all = firsts_both b o w own s (joined owns) (joined shares) (sym (ap (firsts_by w b) all.0 ∙ firsts_again b o w own)) (whole_joined b o w owns shares all.1)

-- ---- of shares

pub when : (t : Bool) (P : Type 0) → (t ≡ true → P) → OnTrue t P
when true P f = f refl
when false P f = tt

pub if_none : {X : Type 0} (o : Option X) (P Q : Type 0) → IfNone o P → (P → Q) → IfNone o Q
if_none None P Q h f = f h
if_none (Some x) P Q h f = tt

pub all_last : {X : Type 0} (P : X → Type 0) (xs : List X) (x : X) → AllByRecursion P xs → P x → AllByRecursion P (xs ++ x ∷ [])
all_last P [] x all here = (here, tt)
all_last P (y ∷ xs) x all here = (all.0, all_last P xs x all.1 here)

joined_last : (shares : List SplitShare) (g : SplitShare) → joined (hits_in (shares ++ g ∷ [])) ≡ joined (hits_in shares) ++ g.answer.hits
joined_last [] g = append-nil g.answer.hits
joined_last (x ∷ shares) g = ap (λ (l : List Placed). x.answer.hits ++ l) (joined_last shares g) ∙ sym (append_assoc x.answer.hits (joined (hits_in shares)) g.answer.hits)

-- so many hits are missing, or fewer, where those of one more share are counted
pub enough_more : (p : Placed → Bool) (shares : List SplitShare) (g : SplitShare) (wanted missing left : ℕ) → wanted ≤ missing + length (filter p (joined (hits_in shares))) → left ≡ missing - count_by p g.answer.hits
    → wanted ≤ left + length (filter p (joined (hits_in (shares ++ g ∷ []))))
enough_more p shares g wanted missing left before e =
    let all = ap (λ (l : List Placed). length (filter p l)) (joined_last shares g) ∙ (ap (λ (l : List Placed). length l) (filter-append p (joined (hits_in shares)) g.answer.hits) ∙ length-append (filter p (joined (hits_in shares))) (filter p g.answer.hits)) in
    let one = length-filter p g.answer.hits in
    omega (arith, before, e, all, one)

-- ---- enough

-- a share has as many first hits of a list as are wanted of all, or as were wanted of it
abbrev pub IsTop : Option HitOrder → ℕ → SplitShare → List Placed → Type 0
IsTop order wanted share own = (share.answer.hits ≡ firsts wanted order own) ⊎ IsFirstOf order share own

whole_top : (order : Option HitOrder) (wanted : ℕ) (g : SplitShare) (own : List Placed) → IsWhole order wanted g → IsPart wanted g → IsTop order wanted g own → g.answer.hits ≡ firsts wanted order own
whole_top order wanted g own whole part (inl all) = all
whole_top order wanted g own whole part (inr first) = whole own part first

used_top : (order : Option HitOrder) (wanted : ℕ) (z : Placed) (g : SplitShare) (own : List Placed) → IsUsedUp order wanted z g → IsPart wanted g → IsTop order wanted g own → IsShare (comes_before order) wanted z own g.answer.hits
used_top order wanted z g own used part (inl all) = inl all
used_top order wanted z g own used part (inr first) = used own part first

zip_whole : (order : Option HitOrder) (wanted : ℕ) (shares : List SplitShare) (lists : List (List Placed)) → AllByRecursion (IsWhole order wanted) shares → AllByRecursion (IsPart wanted) shares → AllZip (IsTop order wanted) shares lists
    → AllZip (λ (own hits : List Placed). hits ≡ firsts wanted order own) lists (hits_in shares)
zip_whole order wanted [] [] whole parts are = tt
zip_whole order wanted [] (own ∷ lists) whole parts are = absurd are
zip_whole order wanted (g ∷ shares) [] whole parts are = absurd are
zip_whole order wanted (g ∷ shares) (own ∷ lists) whole parts are = (whole_top order wanted g own whole.0 parts.0 are.0, zip_whole order wanted shares lists whole.1 parts.1 are.1)

zip_used : (order : Option HitOrder) (wanted : ℕ) (z : Placed) (shares : List SplitShare) (lists : List (List Placed)) → AllByRecursion (IsUsedUp order wanted z) shares → AllByRecursion (IsPart wanted) shares → AllZip (IsTop order wanted) shares lists
    → AllZip (IsShare (comes_before order) wanted z) lists (hits_in shares)
zip_used order wanted z [] [] used parts are = tt
zip_used order wanted z [] (own ∷ lists) used parts are = absurd are
zip_used order wanted z (g ∷ shares) [] used parts are = absurd are
zip_used order wanted z (g ∷ shares) (own ∷ lists) used parts are = (used_top order wanted z g own used.0 parts.0 are.0, zip_used order wanted z shares lists used.1 parts.1 are.1)

-- of whatever lists they have the first hits, the first of all are among theirs
pub firsts_among : (order : Option HitOrder) (wanted : ℕ) (shares : List SplitShare) (lists : List (List Placed)) → AreEnough order wanted shares → AllByRecursion (IsPart wanted) shares → AllZip (IsTop order wanted) shares lists
    → firsts wanted order (joined lists) ≡ firsts wanted order (joined (hits_in shares))
firsts_among order wanted shares lists (inl whole) parts are = whole_joined (comes_before order) (hits_order order) wanted lists (hits_in shares) (zip_whole order wanted shares lists whole parts are)
firsts_among order wanted shares lists (inr used) parts are =
    shares_enough (comes_before order) (hits_order order) wanted used.0 lists (hits_in shares) (zip_used order wanted used.0 shares lists used.2 parts are) used.1

-- the first hits of a list are as many as are wanted of themselves
pub own_hits : (order : Option HitOrder) (wanted : ℕ) (g : SplitShare) (own : List Placed) → IsPart wanted g → IsTop order wanted g own → g.answer.hits ≡ firsts wanted order g.answer.hits
own_hits order wanted g own part (inl all) = own_firsts (comes_before order) (hits_order order) wanted wanted own g.answer.hits (omega arith) all
own_hits order wanted g own part (inr first) = own_firsts (comes_before order) (hits_order order) g.wanted wanted own g.answer.hits part first
