-- Bytes that are written one after another, behind backslashes where they are hidden.
use Rattle.std.proofs.Common.{◌≡◌, ℕ, suc, ◌+◌, ◌<◌, Bool, true, false, List, [], ◌∷◌, ◌++◌, length, get_or, drop, refl, ap, ◌∙◌, append_assoc, add-one, if◌then◌else◌}
use Rattle.std.proofs.Math.Seq.{drop-cons}
use Rattle.query_reader.specs.Printed.{hiding}

one : (h : ℕ → Bool) (t : Bool) (b : ℕ) (cs : List ℕ) → (if t then 92 ∷ b ∷ [] else b ∷ []) ++ hiding h cs ≡ (if t then 92 ∷ b ∷ hiding h cs else b ∷ hiding h cs)
one h true b cs = refl
one h false b cs = refl

hidden_one : (h : ℕ → Bool) (out text : List ℕ) (i : ℕ) → i < length text
    → (out ++ (if h (get_or text i 0) then 92 ∷ get_or text i 0 ∷ [] else get_or text i 0 ∷ [])) ++ hiding h (drop (i + 1) text) ≡ out ++ hiding h (drop i text)
hidden_one h out text i l =
    append_assoc out (if h (get_or text i 0) then 92 ∷ get_or text i 0 ∷ [] else get_or text i 0 ∷ []) (hiding h (drop (i + 1) text))
    ∙ ap (λ t. out ++ t) (rw (add-one, drop-cons text i 0 l) (one h (h (get_or text i 0)) (get_or text i 0) (drop (suc i) text)))

pub hidden_step : (h : ℕ → Bool) (out new text whole : List ℕ) (i : ℕ) (t : Bool) → i < length text → t ≡ h (get_or text i 0)
    → new ≡ out ++ (if t then 92 ∷ get_or text i 0 ∷ [] else get_or text i 0 ∷ []) → out ++ hiding h (drop i text) ≡ whole → new ++ hiding h (drop (i + 1) text) ≡ whole
hidden_step h out new text whole i t l d e inv =
    ap (λ x. x ++ hiding h (drop (i + 1) text)) (e ∙ ap (λ x. out ++ (if x then 92 ∷ get_or text i 0 ∷ [] else get_or text i 0 ∷ [])) d)
    ∙ hidden_one h out text i l ∙ inv
