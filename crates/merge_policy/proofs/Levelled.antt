-- The candidates of the first level of a list whose levels don't fall, and those behind it.
use Rattle.std.proofs.Common.{◌≡◌, ◌≢◌, ℕ, zero, suc, ◌+◌, ◌-◌, ◌<◌, ◌≤◌, ◌==◌, Bool, true, false, List, [], ◌∷◌, length, take, drop, get_or, Option, Some, None, refl, sym, ap, subst, ◌∙◌, inl, inr, eq-eqb, drop-drop, arith, true≢false}
use Rattle.std.specs.List.{AllByRecursion, prefix_len}
use Rattle.std.proofs.lemmas.Bool.{cases_lt, cases_eq}
use Rattle.std.proofs.lemmas.Bool.Decides.{nat_tests}
use Rattle.std.proofs.lemmas.List.{take_all, drop_all, length-drop, length-take}
use Rattle.split_states.specs.declared.rows.Row.{Row}
use Rattle.merge_policy.specs.declared.candidate.Candidate.{Candidate}
use Rattle.merge_policy.specs.Choice.{IsMerge}
use Rattle.merge_policy.specs.Walk.{rows_of, of_level, LevelsRise, IsMergeAt, IsWalked}
use Rattle.merge_policy.proofs.Orders.{All-each, filter_none}

eq_no : (a b : ℕ) → (a ≡ b → ⊥) → (a == b) ≡ false
eq_no a b h = grind (arith, nat_tests)

eq_yes : (a b : ℕ) → (a == b) ≡ true → a ≡ b
eq_yes a b h = grind (arith, nat_tests)

-- candidates of higher levels alone
none_of : (k : ℕ) (list : List Candidate) → AllByRecursion (λ d. k < d.level) list → of_level k list ≡ []
none_of k list above = filter_none (λ c. c.level == k) list (All-each (λ d. k < d.level) (λ d. (d.level == k) ≡ false) list (λ d h. eq_no d.level k (λ e. omega arith)) above)

abbrev len_of : ℕ → List Candidate → ℕ
len_of k list = prefix_len (λ c. c.level == k) list

-- of a list of which the first is not on the level, none is
past : (k : ℕ) (c : Candidate) (list : List Candidate) → k ≤ c.level → (c.level == k) ≡ false → AllByRecursion (λ d. c.level ≤ d.level) list → AllByRecursion (λ d. k < d.level) (c ∷ list)
past k c list le other up =
    let ne : c.level ≢ k = λ e. true≢false (sym (eq-eqb c.level k e) ∙ other) in
    let lt : k < c.level = omega arith in
    (lt, All-each (λ d. c.level ≤ d.level) (λ d. k < d.level) list (λ d h. omega arith) up)

abbrev IsSplit : ℕ → List Candidate → ℕ → List Candidate → Type 0
IsSplit k list n merged = (merged ≡ take n list) × (of_level k (drop n list) ≡ [])

-- the level's candidates stand in front
split : (k : ℕ) (list : List Candidate) → AllByRecursion (λ d. k ≤ d.level) list → LevelsRise list → IsSplit k list (len_of k list) (of_level k list)
split k [] low rise = (refl, refl)
split k (c ∷ list) low rise = go (c.level == k) refl (split k list low.1 rise.1)
  where
    go : (b : Bool) → (c.level == k) ≡ b → IsSplit k list (len_of k list) (of_level k list) → IsSplit k (c ∷ list) (len_of k (c ∷ list)) (of_level k (c ∷ list))
    go true e more =
        let n : 1 + len_of k list ≡ suc (len_of k list) = omega arith in
        rw (e, n) (ap (λ l. c ∷ l) more.0, more.1)
    go false e more =
        let none = none_of k (c ∷ list) (past k c list low.0 e rise.0) in
        let len : len_of k (c ∷ list) ≡ 0 = rw e refl in
        (none ∙ sym (ap (λ (n : ℕ). take n (c ∷ list)) len), ap (λ (n : ℕ). of_level k (drop n (c ∷ list))) len ∙ none)

-- and those of another level behind them
others : (j k : ℕ) (list : List Candidate) → j ≢ k → of_level j list ≡ of_level j (drop (len_of k list) list)
others j k [] ne = refl
others j k (c ∷ list) ne = go (c.level == k) refl (others j k list ne)
  where
    go : (b : Bool) → (c.level == k) ≡ b → of_level j list ≡ of_level j (drop (len_of k list) list) → of_level j (c ∷ list) ≡ of_level j (drop (len_of k (c ∷ list)) (c ∷ list))
    go true e more =
        let n : 1 + len_of k list ≡ suc (len_of k list) = omega arith in
        let same = eq_yes c.level k e in
        let apart : (c.level == j) ≡ false = eq_no c.level j (λ p. ne (sym p ∙ same)) in
        let len : len_of k (c ∷ list) ≡ suc (len_of k list) = rw e n in
        rw (len, apart) more
    go false e more = let len : len_of k (c ∷ list) ≡ 0 = rw e refl in rw len refl

rise-drop : (n : ℕ) (list : List Candidate) → LevelsRise list → LevelsRise (drop n list)
rise-drop zero list rise = rise
rise-drop (suc n) [] rise = tt
rise-drop (suc n) (c ∷ list) rise = rise-drop n list rise.1

lowest : (list : List Candidate) (d : Candidate) → 0 < length list → LevelsRise list → AllByRecursion (λ c. (get_or list 0 d).level ≤ c.level) list
lowest [] d some rise = absurd (omega arith)
lowest (x ∷ list) d some rise = (omega arith, rise.0)

drop_taken : (n : ℕ) (list : List Candidate) → drop (length (take n list)) list ≡ drop n list
drop_taken zero list = refl
drop_taken (suc n) [] = refl
drop_taken (suc n) (c ∷ list) = drop_taken n list

pub rest_is : (start : ℕ) (list : List Candidate) → take (length list - start) (drop start list) ≡ drop start list
rest_is start list = take_all _ _ (omega (arith, length-drop start list))

module _ (factor greatest : ℕ) where
  nothing : (other : List Row) → IsMerge factor greatest [] other → ⊥
  nothing other merged =
      let cut = length-take {A = Row} (length other) [] in
      let same = ap length merged.first in
      let several = merged.several in
      absurd (omega arith)

  pub ended : (start : ℕ) (list : List Candidate) → length list ≤ start → IsWalked factor greatest (drop start list) None
  ended start list le k merged is =
      let e : drop start list ≡ [] = drop_all start list le in
      nothing merged (subst (λ (l : List Candidate). IsMergeAt factor greatest l k merged) e is)

  module _ (k : ℕ) (list : List Candidate) (low : AllByRecursion (λ d. k ≤ d.level) list) (rise : LevelsRise list) where
    here : (merged : List Row) → IsMerge factor greatest (rows_of (take (len_of k list) list)) merged → IsWalked factor greatest list (Some merged)
    here merged is = record {
      level = k;
      is_merge = subst (λ (l : List Candidate). IsMerge factor greatest (rows_of l) merged) (sym (split k list low rise).0) is;
      least = λ j other at. elim (cases_lt j k) [
        | inl less ↦
            let none = none_of j list (All-each (λ d. k ≤ d.level) (λ d. j < d.level) list (λ d h. omega arith) low) in
            absurd (nothing other (subst (λ (l : List Candidate). IsMerge factor greatest (rows_of l) other) none at))
        | inr le ↦ le
      ];
    }

    module _ (none : (other : List Row) → IsMerge factor greatest (rows_of (take (len_of k list) list)) other → ⊥) where
      not_here : (other : List Row) → IsMergeAt factor greatest list k other → ⊥
      not_here other at = none other (subst (λ (l : List Candidate). IsMerge factor greatest (rows_of l) other) (split k list low rise).0 at)

      behind : (j : ℕ) (other : List Row) → IsMergeAt factor greatest list j other → IsMergeAt factor greatest (drop (len_of k list) list) j other
      behind j other at = elim (cases_eq j k) [
        | inl e ↦ absurd (not_here other (subst (λ (i : ℕ). IsMergeAt factor greatest list i other) e at))
        | inr ne ↦ subst (λ (l : List Candidate). IsMerge factor greatest (rows_of l) other) (others j k list ne) at
      ]

      step : (r : Option (List Row)) → IsWalked factor greatest (drop (len_of k list) list) r → IsWalked factor greatest list r
      step None walked = λ j other at. walked j other (behind j other at)
      step (Some merged) walked =
          let ne : walked.level ≢ k = λ e. nothing merged (subst (λ (l : List Candidate). IsMerge factor greatest (rows_of l) merged) (split k list low rise).1
          (subst (λ (i : ℕ). IsMergeAt factor greatest (drop (len_of k list) list) i merged) e walked.is_merge)) in record {
            level = walked.level;
            is_merge = subst (λ (l : List Candidate). IsMerge factor greatest (rows_of l) merged) (sym (others walked.level k list ne)) walked.is_merge;
            least = λ j other at. walked.least j other (behind j other at);
          }

  -- a pass of the loop over the list behind a place
  module _ (start n : ℕ) (list rest : List Candidate) (d : Candidate) (more : start < length list) (behind_is : rest ≡ drop start list) (n_is : n ≡ len_of (get_or rest 0 d).level rest)
      (rise : LevelsRise (drop start list)) where
    abbrev first : ℕ
    first = (get_or rest 0 d).level

    rest_rises : LevelsRise rest
    rest_rises = rw behind_is rise

    low_rest : AllByRecursion (λ c. first ≤ c.level) rest
    low_rest = let long : 0 < length rest = rw behind_is (omega (arith, length-drop start list)) in lowest rest d long rest_rises

    next_is : drop (start + length (take n rest)) list ≡ drop (len_of first rest) rest
    next_is = sym (drop-drop (length (take n rest)) start list) ∙ (ap (λ (l : List Candidate). drop (length (take n rest)) l) (sym behind_is) ∙ (drop_taken n rest ∙ ap (λ (m : ℕ). drop m rest) n_is))

    pub found_here : (merged : List Row) → IsMerge factor greatest (rows_of (take n rest)) merged → IsWalked factor greatest (drop start list) (Some merged)
    found_here merged is =
        subst (λ (l : List Candidate). IsWalked factor greatest l (Some merged)) behind_is
        (here first rest low_rest rest_rises merged (subst (λ (m : ℕ). IsMerge factor greatest (rows_of (take m rest)) merged) n_is is))

    pub next_rises : LevelsRise (drop (start + length (take n rest)) list)
    next_rises = rw next_is (rise-drop (len_of first rest) rest rest_rises)

    pub go_on : ((other : List Row) → IsMerge factor greatest (rows_of (take n rest)) other → ⊥) → (r : Option (List Row)) → IsWalked factor greatest (drop (start + length (take n rest)) list) r
        → IsWalked factor greatest (drop start list) r
    go_on none r walked =
        subst (λ (l : List Candidate). IsWalked factor greatest l r) behind_is
        (step first rest low_rest rest_rises (λ other is. none other (subst (λ (m : ℕ). IsMerge factor greatest (rows_of (take m rest)) other) (sym n_is) is)) r
        (subst (λ (l : List Candidate). IsWalked factor greatest l r) next_is walked))
