-- Objects as they are written, pair by pair.
use Rattle.std.proofs.Common.{◌≡◌, ℕ, Bool, List, [], ◌∷◌, ◌++◌, Result, append_assoc, ap, sym, ◌∙◌, subst}
use Rattle.std.specs.Prelude.{OnOk}
use Rattle.std.specs.declared.alloc.AllocError.{AllocError}
use Rattle.doc_value.specs.Printed.{comma}
use Rattle.search_api.specs.Replies.{begun_pair, pair_text, object_text}

-- a key, and then its value
pub keyed : (out key value : List ℕ) (first : Bool) → (out ++ begun_pair first key) ++ value ≡ out ++ (comma first ++ pair_text key value)
unfolding pair_text begun_pair
keyed out key value first = simp append_assoc

pub one_pair : (out p : List ℕ) → ((out ++ 123 ∷ []) ++ p) ++ 125 ∷ [] ≡ out ++ object_text (p ∷ [])
unfolding object_text
one_pair out p = simp append_assoc

pub two_pairs : (out p q : List ℕ) → (((out ++ 123 ∷ []) ++ p) ++ (44 ∷ q)) ++ 125 ∷ [] ≡ out ++ object_text (p ∷ q ∷ [])
unfolding object_text
two_pairs out p q = simp append_assoc

pub three_pairs : (out p q r : List ℕ) → ((((out ++ 123 ∷ []) ++ p) ++ (44 ∷ q)) ++ (44 ∷ r)) ++ 125 ∷ [] ≡ out ++ object_text (p ∷ q ∷ r ∷ [])
unfolding object_text
three_pairs out p q r = simp append_assoc

regroup : (a b c d e f g : List ℕ) → (((((a ++ b) ++ c) ++ d) ++ e) ++ f) ++ g ≡ a ++ (b ++ (c ++ (d ++ (e ++ (f ++ g)))))
regroup a b c d e f g = simp append_assoc

within : (p q r s t : List ℕ) → (p ++ (44 ∷ (q ++ (44 ∷ (r ++ (44 ∷ (s ++ (44 ∷ (t ++ []))))))))) ++ 125 ∷ []
    ≡ p ++ ((44 ∷ q) ++ ((44 ∷ r) ++ ((44 ∷ s) ++ ((44 ∷ t) ++ 125 ∷ []))))
within p q r s t = simp append_assoc

pub five_pairs : (out p q r s t : List ℕ) → ((((((out ++ 123 ∷ []) ++ p) ++ (44 ∷ q)) ++ (44 ∷ r)) ++ (44 ∷ s)) ++ (44 ∷ t)) ++ 125 ∷ []
    ≡ out ++ object_text (p ∷ q ∷ r ∷ s ∷ t ∷ [])
unfolding object_text
five_pairs out p q r s t =
    regroup (out ++ 123 ∷ []) p (44 ∷ q) (44 ∷ r) (44 ∷ s) (44 ∷ t) (125 ∷ [])
    ∙ append_assoc out (123 ∷ []) (p ++ ((44 ∷ q) ++ ((44 ∷ r) ++ ((44 ∷ s) ++ ((44 ∷ t) ++ 125 ∷ [])))))
    ∙ ap (λ x. out ++ (123 ∷ x)) (sym (within p q r s t))

-- what stands between two bytes
pub bracketed : (out text : List ℕ) (x y : ℕ) → ((out ++ x ∷ []) ++ text) ++ y ∷ [] ≡ out ++ (x ∷ (text ++ y ∷ []))
bracketed out text x y = simp append_assoc

-- what an Ok says of a text holds of the same text
pub on_same : (r : Result (Unit {0}) AllocError) (new x y : List ℕ) → x ≡ y → OnOk r (new ≡ x) → OnOk r (new ≡ y)
on_same r new x y e h = subst (λ (z : List ℕ). OnOk r (new ≡ z)) e h
