-- The fields but one, told by their numbers.
use Rattle.std.proofs.Common.{◌≡◌, ℕ, zero, suc, ◌+◌, ◌<◌, nat_eq, Bool, true, false, List, [], ◌∷◌, ◌++◌, take, drop, Option, Some, None, refl, ap, sym, ◌∙◌, subst, arith, if◌then◌else◌}
use Rattle.std.proofs.lemmas.Bool.Decides.{nat_tests}
use Rattle.doc_value.specs.declared.schema.Field.{Field}
use Rattle.doc_value.specs.Documents.{but_one}
use Rattle.dynamic_paths.specs.Leaves.{is_number}

-- these fields, numbered from `n` on, but the one of this number
abbrev pub others_from : Option ℕ → ℕ → List Field → List Field
others_from o n [] = []
others_from o n (f ∷ fs) = if is_number o n then others_from o (suc n) fs else f ∷ others_from o (suc n) fs

all_others : (n : ℕ) (fs : List Field) → others_from None n fs ≡ fs
all_others n [] = refl
all_others n (f ∷ fs) = ap (λ (l : List Field). f ∷ l) (all_others (suc n) fs)

-- behind the number all are others
behind : (m n : ℕ) (fs : List Field) → m < n → others_from (Some m) n fs ≡ fs
behind m n [] h = refl
behind m n (f ∷ fs) h =
    let other : nat_eq m n ≡ false = grind (arith, nat_tests) in
    rw other (ap (λ (l : List Field). f ∷ l) (behind m (suc n) fs (omega arith)))

before : (m n : ℕ) (fs : List Field) → others_from (Some (n + m)) n fs ≡ take m fs ++ drop (suc m) fs
before zero n [] = refl
before (suc m) n [] = refl
before zero n (f ∷ fs) =
    let here : nat_eq (n + 0) n ≡ true = grind (arith, nat_tests) in
    rw here (behind (n + 0) (suc n) fs (omega arith))
before (suc m) n (f ∷ fs) =
    let other : nat_eq (n + suc m) n ≡ false = grind (arith, nat_tests) in
    let on : n + suc m ≡ suc n + m = omega arith in
    rw other (ap (λ (l : List Field). f ∷ l) (ap (λ (k : ℕ). others_from (Some k) (suc n) fs) on ∙ before m (suc n) fs))

pub others : (o : Option ℕ) (fs : List Field) → but_one o fs ≡ others_from o 0 fs
others None fs = sym (all_others 0 fs)
others (Some m) fs =
    let same : 0 + m ≡ m = omega arith in
    sym (subst (λ (k : ℕ). others_from (Some k) 0 fs ≡ take m fs ++ drop (suc m) fs) same (before m 0 fs))
