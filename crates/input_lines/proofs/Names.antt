-- Names, each once.
use Rattle.std.proofs.Common.{◌≡◌, ℕ, suc, Bool, true, false, List, ◌∷◌, length, refl, sym, ap, ◌∙◌}
use Rattle.std.proofs.lemmas.Slice.Eq.{bytes_eq-Decides}
use Rattle.std.specs.List.{list_any}
use Rattle.std.specs.Prelude.{◌||◌, if◌then◌else◌, bytes_eq}
use Rattle.input_lines.specs.Reading.{with_client_name}

pub same-true : (a b : List ℕ) → bytes_eq a b ≡ true → a ≡ b
same-true a b = (bytes_eq-Decides a b).0

same-refl : (a : List ℕ) → bytes_eq a a ≡ true
same-refl a = (bytes_eq-Decides a a).1 refl

true_is_false : true ≡ false → ⊥
true_is_false e = cc

same-turned : (a b : List ℕ) → bytes_eq a b ≡ bytes_eq b a
same-turned a b = by (bytes_eq a b) (bytes_eq b a) refl refl
  where
    by : (x y : Bool) → bytes_eq a b ≡ x → bytes_eq b a ≡ y → x ≡ y
    by true true e f = refl
    by true false e f = absurd (true_is_false (sym (same-refl a) ∙ ap (λ n. bytes_eq n a) (same-true a b e) ∙ f))
    by false true e f = absurd (true_is_false (sym (same-refl b) ∙ ap (λ n. bytes_eq n b) (same-true b a f) ∙ e))
    by false false e f = refl

pub named_with : (q name : List ℕ) (names : List (List ℕ)) → list_any (bytes_eq q) (with_client_name name names) ≡ (bytes_eq name q || list_any (bytes_eq q) names)
named_with q name names = by (list_any (bytes_eq name) names) refl (bytes_eq name q) refl
  where
    by : (k : Bool) → list_any (bytes_eq name) names ≡ k → (b : Bool) → bytes_eq name q ≡ b →
        list_any (bytes_eq q) (with_client_name name names) ≡ (bytes_eq name q || list_any (bytes_eq q) names)
    by true e true f = rw (e, f) (ap (λ n. list_any (bytes_eq n) names) (sym (same-true name q f)) ∙ e)
    by true e false f = rw (e, f) refl
    by false e b f = ap (λ k. list_any (bytes_eq q) (if k then names else name ∷ names)) e ∙ ap (λ x. x || list_any (bytes_eq q) names) (same-turned q name)

pub length_named : (name : List ℕ) (names : List (List ℕ)) → length (with_client_name name names) ≡ (if list_any (bytes_eq name) names then length names else suc (length names))
length_named name names = by (list_any (bytes_eq name) names) refl
  where
    by : (k : Bool) → list_any (bytes_eq name) names ≡ k → length (with_client_name name names) ≡ (if list_any (bytes_eq name) names then length names else suc (length names))
    by true e = rw e refl
    by false e = rw e refl
