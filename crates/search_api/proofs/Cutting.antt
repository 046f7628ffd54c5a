-- What lies between commas, by the first comma.
use Rattle.std.proofs.Common.{◌≡◌, ◌≢◌, ℕ, suc, ◌==◌, ◌<◌, false, List, [], ◌∷◌, ◌++◌, length, length-append, get_or, refl, ap, ◌∙◌, sym, append_assoc, arith}
use Rattle.std.proofs.lemmas.Bool.Decides.{nat_tests}
use Rattle.search_api.specs.Kinds.{cut}

-- no byte of the text is a comma
abbrev pub HasNoComma : List ℕ → Type 0
HasNoComma text = (i : ℕ) → i < length text → get_or text i 0 ≢ 44

head-no_comma : (c : ℕ) (cs : List ℕ) → HasNoComma (c ∷ cs) → (c == 44) ≡ false
head-no_comma c cs h = let other : c ≢ 44 = h 0 (omega arith) in grind (arith, nat_tests)

tail-no_comma : (c : ℕ) (cs : List ℕ) → HasNoComma (c ∷ cs) → HasNoComma cs
tail-no_comma c cs h = λ i l. h (suc i) (omega arith)

pub cut-one : (text : List ℕ) → HasNoComma text → cut text ≡ text ∷ []
cut-one [] h = refl
cut-one (c ∷ cs) h = rw (head-no_comma c cs h, cut-one cs (tail-no_comma c cs h)) refl

cut-more : (a b : List ℕ) → HasNoComma a → cut (a ++ 44 ∷ b) ≡ a ∷ cut b
cut-more [] b h = refl
cut-more (c ∷ cs) b h = rw (head-no_comma c cs h, cut-more cs b (tail-no_comma c cs h)) refl

-- one more part is cut off
pub cut_step : (text left path rest : List ℕ) (done : List (List ℕ)) → left ≡ path ++ 44 ∷ rest → HasNoComma path
    → cut text ≡ done ++ cut left → cut text ≡ (done ++ path ∷ []) ++ cut rest
cut_step text left path rest done e h i = i ∙ ap (λ t. done ++ cut t) e ∙ ap (λ ts. done ++ ts) (cut-more path rest h) ∙ sym (append_assoc done (path ∷ []) (cut rest))

pub cut_shorter : (left path rest : List ℕ) → left ≡ path ++ 44 ∷ rest → length rest < length left
cut_shorter left path rest e = omega (arith, ap length e, length-append path (44 ∷ rest))
