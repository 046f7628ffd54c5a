-- Lines of words, as they are written.
use Rattle.std.proofs.Common.{◌≡◌, ℕ, ◌+◌, ◌<◌, ◌≤◌, List, [], ◌∷◌, ◌++◌, map, length, get_or, take, refl, sym, ap, ◌∙◌, append_assoc}
use Rattle.std.proofs.lemmas.List.{take_all, take_more, flat_map_more}
use Rattle.std.specs.Prelude.{flat_map}
use Rattle.index_report.specs.Reports.{line_on}

words_behind : {A : Type 0} (f : A → List ℕ) (xs : List A) → flat_map (λ x. 32 ∷ f x) xs ++ 10 ∷ [] ≡ line_on (map f xs)
words_behind f [] = refl
words_behind f (x ∷ xs) = rw (← words_behind f xs) (simp append_assoc)

-- all words stand behind what was there, and then the line feed
pub line_ended : {A : Type 0} (f : A → List ℕ) (xs : List A) (i : ℕ) (old all new : List ℕ)
    → length xs ≤ i → all ≡ old ++ flat_map (λ x. 32 ∷ f x) (take i xs) → new ≡ all ++ 10 ∷ [] → new ≡ old ++ line_on (map f xs)
line_ended f xs i old all new le before behind =
    let whole = take_all i xs le in
    let written : all ≡ old ++ flat_map (λ x. 32 ∷ f x) xs = rw whole at before in
    behind ∙ ap (λ (l : List ℕ). l ++ 10 ∷ []) written ∙ append_assoc old (flat_map (λ x. 32 ∷ f x) xs) (10 ∷ []) ∙ ap (λ (l : List ℕ). old ++ l) (words_behind f xs)

-- one item more stands behind those so far
pub one_more : {A : Type 0} (f : A → List ℕ) (xs : List A) (i : ℕ) (x : A) (old all new : List ℕ)
    → i < length xs → x ≡ get_or xs i x → all ≡ old ++ flat_map f (take i xs) → new ≡ all ++ f x → new ≡ old ++ flat_map f (take (i + 1) xs)
one_more {A = A} f xs i x old all new h here before behind =
    let more : take (i + 1) xs ≡ take i xs ++ x ∷ [] = rw here (take_more xs i x h) in
    behind ∙ ap (λ (l : List ℕ). l ++ f x) before ∙ flat_map_more f old (take i xs) x ∙ ap (λ (l : List A). old ++ flat_map f l) (sym more)
