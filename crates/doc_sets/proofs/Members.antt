-- The numbers that pass a test.
use Rattle.std.proofs.Common.{◌≡◌, ℕ, zero, suc, ◌+◌, ◌<◌, ◌≤◌, ◌≢◌, ◌⊎◌, inl, inr, Bool, true, false, cond, [], ◌∷◌, ◌++◌, length, refl, ap, sym, ◌∙◌, arith}
use Rattle.std.specs.List.{AllByRecursion}
use Rattle.std.proofs.lemmas.Bool.{cases_eq}
use Rattle.doc_sets.specs.BitWords.{members}

-- tests that agree on the numbers asked
pub members_same : (p q : ℕ → Bool) (n count : ℕ) → ((k : ℕ) → n ≤ k → k < n + count → p k ≡ q k) → members p n count ≡ members q n count
unfolding members
members_same p q n zero same = refl
members_same p q n (suc count) same =
    let rest = members_same p q (suc n) count (λ k low high. same k (omega arith) (omega arith)) in
    let here = same n (omega arith) (omega arith) in
    ap (λ b. cond b (n ∷ members p (suc n) count) (members p (suc n) count)) here ∙ ap (λ l. cond (q n) (n ∷ l) l) rest

-- no number passes
pub members_none : (p : ℕ → Bool) (n count : ℕ) → ((k : ℕ) → n ≤ k → k < n + count → p k ≡ false) → members p n count ≡ []
unfolding members
members_none p n zero none = refl
members_none p n (suc count) none =
    ap (λ b. cond b (n ∷ members p (suc n) count) (members p (suc n) count)) (none n (omega arith) (omega arith)) ∙ members_none p (suc n) count (λ k low high. none k (omega arith) (omega arith))

-- some numbers and those behind them
pub members_more : (p : ℕ → Bool) (n count more : ℕ) → members p n (count + more) ≡ members p n count ++ members p (n + count) more
unfolding members
members_more p n zero more =
    let e : n ≡ n + 0 = omega arith in
    let f : 0 + more ≡ more = omega arith in
    ap (λ k. members p n k) f ∙ ap (λ k. members p k more) e
members_more p n (suc count) more =
    let e : suc n + count ≡ n + suc count = omega arith in
    let f : suc count + more ≡ suc (count + more) = omega arith in
    let rest = members_more p (suc n) count more ∙ ap (λ k. members p (suc n) count ++ members p k more) e in
    ap (λ k. members p n k) f ∙ (ap (λ l. cond (p n) (n ∷ l) l) rest ∙ go (p n))
  where
    go : (b : Bool) → cond b (n ∷ (members p (suc n) count ++ members p (n + suc count) more)) (members p (suc n) count ++ members p (n + suc count) more)
        ≡ cond b (n ∷ members p (suc n) count) (members p (suc n) count) ++ members p (n + suc count) more
    go true = refl
    go false = refl

-- the first number that passes, and those of a test that has it no more
pub members_first : (p q : ℕ → Bool) (n count t : ℕ) → n ≤ t → t < n + count → p t ≡ true → ((k : ℕ) → n ≤ k → k < t → p k ≡ false) → ((k : ℕ) → n ≤ k → k ≤ t → q k ≡ false)
    → ((k : ℕ) → t < k → k < n + count → p k ≡ q k) → members p n count ≡ t ∷ members q n count
unfolding members
members_first p q n zero t low high here below none above = absurd (omega arith)
members_first p q n (suc count) t low high here below none above =
    go (cases_eq n t) (λ ne. members_first p q (suc n) count t (omega arith) (omega arith) here (λ k a b. below k (omega arith) b) (λ k a b. none k (omega arith) b) (λ k a b. above k a (omega arith)))
  where
    go : ((n ≡ t) ⊎ (n ≢ t)) → (n ≢ t → members p (suc n) count ≡ t ∷ members q (suc n) count)
        → cond (p n) (n ∷ members p (suc n) count) (members p (suc n) count) ≡ t ∷ cond (q n) (n ∷ members q (suc n) count) (members q (suc n) count)
    go (inl e) later =
        let rest = members_same p q (suc n) count (λ k a b. above k (omega arith) (omega arith)) in
        ap (λ b. cond b (n ∷ members p (suc n) count) (members p (suc n) count)) (ap p e ∙ here)
        ∙ (ap (λ m. m ∷ members p (suc n) count) e
        ∙ (ap (λ l. t ∷ l) rest
        ∙ sym (ap (λ b. t ∷ cond b (n ∷ members q (suc n) count) (members q (suc n) count)) (none n (omega arith) (omega arith)))))
    go (inr ne) later =
        ap (λ b. cond b (n ∷ members p (suc n) count) (members p (suc n) count)) (below n (omega arith) (omega arith))
        ∙ (later ne ∙ sym (ap (λ b. t ∷ cond b (n ∷ members q (suc n) count) (members q (suc n) count)) (none n (omega arith) (omega arith))))

-- there are no more than were asked
pub members_few : (p : ℕ → Bool) (n count : ℕ) → length (members p n count) ≤ count
unfolding members
members_few p n zero = omega arith
members_few p n (suc count) = go (p n) (members_few p (suc n) count)
  where
    go : (b : Bool) → length (members p (suc n) count) ≤ count → length (cond b (n ∷ members p (suc n) count) (members p (suc n) count)) ≤ suc count
    go true h = omega arith
    go false h = omega arith

-- and each is one of them
pub members_below : (p : ℕ → Bool) (n count size : ℕ) → n + count ≤ size → AllByRecursion (λ k. k < size) (members p n count)
unfolding members
members_below p n zero size le = tt
members_below p n (suc count) size le = go (p n) (members_below p (suc n) count size (omega arith))
  where
    go : (b : Bool) → AllByRecursion (λ k. k < size) (members p (suc n) count) → AllByRecursion (λ k. k < size) (cond b (n ∷ members p (suc n) count) (members p (suc n) count))
    go true h = (omega arith, h)
    go false h = h
