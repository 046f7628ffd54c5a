-- Shares that have what is wanted of all lists.
use Rattle.std.proofs.Common.{◌≡◌, ℕ, zero, suc, ◌≤◌, inl, inr, Bool, true, false, not, List, [], ◌∷◌, ◌++◌, length, take, drop, refl, ap, sym, ◌∙◌, arith, append-nil, subst}
use Rattle.std.specs.Cmp.{IsStrictWeakOrder}
use Rattle.std.specs.List.{AllByRecursion, AllZip, filter}
use Rattle.std.proofs.lemmas.List.{length-append, take-append-le}
use Rattle.std.proofs.lemmas.List.Elements.{filter-append}
use Rattle.doc_tallies.specs.Firsts.{sorted_by, firsts_by}
use Rattle.doc_tallies.proofs.Late.{firsts_again, length_passed}
use Rattle.doc_tallies.proofs.Parting.{length_sorted, not_true}
use Rattle.doc_tallies.proofs.Putting.{InOrder, firsts_in_order, merged, sorted_self}
use Rattle.doc_tallies.specs.Shares.{IsCut, IsShare, joined}
use Rattle.doc_tallies.proofs.Divided.{filter_none, sorted_divided, sorted_filter}

-- an item does not stand behind z
abbrev reaches : {X : Type 0} → (X → X → Bool) → X → X → Bool
reaches b z y = not (b z y)

true_of : (t : Bool) → not t ≡ false → t ≡ true
true_of true h = refl
true_of false h = absurd (cc)

apart : {X : Type 0} (b : X → X → Bool) → IsStrictWeakOrder b → (z x y : X) → reaches b z x ≡ true → reaches b z y ≡ false → b x y ≡ true
apart b o z x y near far = go (b x y) refl
  where
    go : (t : Bool) → b x y ≡ t → b x y ≡ true
    go true e = e
    go false e =
        let one : b z x ≡ false = not_true (b z x) near in
        let none : b z y ≡ false = o.chain z x y one e in
        let some : b z y ≡ true = true_of (b z y) far in
        absurd (cc)

-- lists of which the first so many are the same, one after the other
pub firsts_both : {X : Type 0} (b : X → X → Bool) → IsStrictWeakOrder b → (n : ℕ) (xs us ys ws : List X) → firsts_by n b xs ≡ firsts_by n b us → firsts_by n b ys ≡ firsts_by n b ws
    → firsts_by n b (xs ++ ys) ≡ firsts_by n b (us ++ ws)
firsts_both {X = X} b o n xs us ys ws one other =
    sym (merged b o n xs ys)
    ∙ (ap (λ (zs : List X). firsts_by n b (zs ++ firsts_by n b ys)) one
    ∙ (ap (λ (zs : List X). firsts_by n b (firsts_by n b us ++ zs)) other
    ∙ merged b o n us ws))

-- a share is in order and has all of a list that reaches as far
record Covers {X : Type 0} (b : X → X → Bool) (z : X) (mid share : List X) : Type 0 where
  up : InOrder b share
  same : filter (reaches b z) (sorted_by b mid) ≡ filter (reaches b z) share

none_reaches : {X : Type 0} (b : X → X → Bool) (z : X) (ys : List X) → AllByRecursion (λ y. b z y ≡ true) ys → AllByRecursion (λ y. reaches b z y ≡ false) ys
none_reaches b z [] all = tt
none_reaches b z (y ∷ ys) all = (ap not all.0, none_reaches b z ys all.1)

parts_of : {X : Type 0} (n : ℕ) (xs : List X) → xs ≡ take n xs ++ drop n xs
parts_of zero xs = refl
parts_of (suc n) [] = refl
parts_of (suc n) (x ∷ xs) = ap (λ zs. x ∷ zs) (parts_of n xs)

cut_covers : {X : Type 0} (b : X → X → Bool) → IsStrictWeakOrder b → (z : X) (own share : List X) → IsCut b z own share → Covers b z own share
cut_covers {X = X} b o z own share cut =
    let q : X → Bool = reaches b z in
    let all = sorted_by b own in
    let n = cut.many in
    record {
      up = subst (λ (zs : List X). InOrder b zs) (sym cut.firsts) (firsts_in_order b o n own);
      same = ap (filter q) (parts_of n all) ∙ (filter-append q (take n all) (drop n all)
          ∙ (ap (λ zs. filter q (take n all) ++ zs) (filter_none q (drop n all) (none_reaches b z (drop n all) cut.behind)) ∙ (append-nil (filter q (take n all)) ∙ ap (filter q) (sym cut.firsts))));
    }

whole_covers : {X : Type 0} (b : X → X → Bool) → IsStrictWeakOrder b → (z : X) (n : ℕ) (own share : List X) → share ≡ firsts_by n b own → Covers b z share share
whole_covers {X = X} b o z n own share same =
    let up : InOrder b share = subst (λ (zs : List X). InOrder b zs) (sym same) (firsts_in_order b o n own) in
    record { up = up; same = ap (filter (reaches b z)) (sorted_self b share up) }

-- each list, or its share where that has as many as are wanted
record Between {X : Type 0} (b : X → X → Bool) (n : ℕ) (z : X) (owns shares : List (List X)) : Type 0 where
  mids : List (List X)
  same : firsts_by n b (joined owns) ≡ firsts_by n b (joined mids)
  cover : AllZip (Covers b z) mids shares

between : {X : Type 0} (b : X → X → Bool) → IsStrictWeakOrder b → (n : ℕ) (z : X) (owns shares : List (List X)) → AllZip (IsShare b n z) owns shares → Between b n z owns shares
between b o n z [] [] all = record { mids = []; same = refl; cover = tt }
between b o n z [] (s ∷ ss) all = absurd all
between b o n z (own ∷ owns) [] all = absurd all
between {X = X} b o n z (own ∷ owns) (s ∷ ss) all =
    let rest = between b o n z owns ss all.1 in
    elim all.0 [
      | inl whole ↦ record {
        mids = s ∷ rest.mids;
        same = firsts_both b o n own s (joined owns) (joined rest.mids) (sym (ap (firsts_by n b) whole ∙ firsts_again b o n own)) rest.same;
        cover = (whole_covers b o z n own s whole, rest.cover);
      }
      | inr cut ↦ record {
        mids = own ∷ rest.mids;
        same = firsts_both b o n own own (joined owns) (joined rest.mids) refl rest.same;
        cover = (cut_covers b o z own s cut, rest.cover);
      }
    ]

-- what reaches as far, of all lists and of their shares
record Reaching {X : Type 0} (b : X → X → Bool) (n : ℕ) (z : X) (mids shares : List (List X)) : Type 0 where
  long : length (filter (reaches b z) (joined mids)) ≡ length (filter (reaches b z) (joined shares))
  same : firsts_by n b (filter (reaches b z) (joined mids)) ≡ firsts_by n b (filter (reaches b z) (joined shares))

reaching : {X : Type 0} (b : X → X → Bool) → IsStrictWeakOrder b → (n : ℕ) (z : X) (mids shares : List (List X)) → AllZip (Covers b z) mids shares → Reaching b n z mids shares
reaching b o n z [] [] all = record { long = refl; same = refl }
reaching b o n z [] (s ∷ ss) all = absurd all
reaching b o n z (mid ∷ mids) [] all = absurd all
reaching {X = X} b o n z (mid ∷ mids) (s ∷ ss) all =
    let q : X → Bool = reaches b z in
    let rest = reaching b o n z mids ss all.1 in
    let cover = all.0 in
    let one = filter-append q mid (joined mids) in
    let other = filter-append q s (joined ss) in
    let long_one = ap (λ (zs : List X). length zs) one ∙ length-append (filter q mid) (filter q (joined mids)) in
    let long_other = ap (λ (zs : List X). length zs) other ∙ length-append (filter q s) (filter q (joined ss)) in
    let long_first = sym (length_passed b q mid) ∙ ap (λ (zs : List X). length zs) cover.same in
    let rest_long = rest.long in
    let first = sorted_filter b o q (apart b o z) mid ∙ (cover.same ∙ (ap (filter q) (sym (sorted_self b s cover.up)) ∙ sym (sorted_filter b o q (apart b o z) s))) in
    record {
      long = omega arith;
      same = ap (firsts_by n b) one ∙ (firsts_both b o n (filter q mid) (filter q s) (filter q (joined mids)) (filter q (joined ss)) (ap (take n) first) rest.same ∙ sym (ap (firsts_by n b) other));
    }

-- the first so many are among those that reach as far
first_reach : {X : Type 0} (b : X → X → Bool) → IsStrictWeakOrder b → (n : ℕ) (z : X) (xs : List X) → n ≤ length (filter (reaches b z) xs) → firsts_by n b xs ≡ firsts_by n b (filter (reaches b z) xs)
first_reach {X = X} b o n z xs enough =
    let q : X → Bool = reaches b z in
    let front = sorted_by b (filter q xs) in
    let long = length_sorted b (filter q xs) in
    ap (take n) (sorted_divided b o q (apart b o z) xs) ∙ take-append-le n front (sorted_by b (filter (λ x. not (q x)) xs)) (omega arith)

pub shares_enough : {X : Type 0} (b : X → X → Bool) → IsStrictWeakOrder b → (n : ℕ) (z : X) (owns shares : List (List X)) → AllZip (IsShare b n z) owns shares → n ≤ length (filter (λ y. not (b z y)) (joined shares))
    → firsts_by n b (joined owns) ≡ firsts_by n b (joined shares)
shares_enough {X = X} b o n z owns shares all enough =
    let mid = between b o n z owns shares all in
    let reach = reaching b o n z mid.mids shares mid.cover in
    let long = reach.long in
    mid.same ∙ (first_reach b o n z (joined mid.mids) (omega arith) ∙ (reach.same ∙ sym (first_reach b o n z (joined shares) enough)))
