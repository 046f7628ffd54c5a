-- What begins with a front, by the front's two parts, and where a text is cut behind its front.
use Rattle.std.proofs.Common.{◌≡◌, ℕ, nat_eq, Bool, true, false, ◌&&◌, List, [], ◌∷◌, ◌++◌, length, take, drop, refl, sym, ap, ◌∙◌, subst}
use Rattle.std.specs.List.{starts_with}
use Rattle.std.specs.Str.{IsUtf8}
use Rattle.std.specs.String.Boundary.{IsSplitPoint}
use Rattle.std.proofs.lemmas.Str.{IsCharBoundary-at_seam}
use Rattle.std.proofs.Math.Seq.{take-append_seam}

and_three : (a b c : Bool) → (a && (b && c)) ≡ ((a && b) && c)
and_three true b c = refl
and_three false b c = refl

-- a front of two parts
pub starts_by_parts : (a y p : List ℕ) → starts_with nat_eq p (a ++ y) ≡ (starts_with nat_eq p a && starts_with nat_eq (drop (length a) p) y)
starts_by_parts [] y p = refl
starts_by_parts (c ∷ cs) y [] = refl
starts_by_parts (c ∷ cs) y (d ∷ ds) = ap (λ (b : Bool). nat_eq c d && b) (starts_by_parts cs y ds) ∙ and_three (nat_eq c d) (starts_with nat_eq ds cs) (starts_with nat_eq (drop (length cs) ds) y)

-- a text is cut where its front ends
pub splits_behind : (bs xs ys : List ℕ) (n : ℕ) → n ≡ length xs → bs ≡ xs ++ ys → IsUtf8 ys → IsSplitPoint bs n
splits_behind bs xs ys n k e u =
    let seam = IsCharBoundary-at_seam bs xs ys e u in
    subst (IsSplitPoint bs) (sym k) ((seam.0, λ some l h. seam.1 l h))

pub cut_back : (bs xs ys : List ℕ) (n : ℕ) → n ≡ length xs → bs ≡ xs ++ ys → take n bs ≡ xs
cut_back bs xs ys n k e = ap (λ (m : ℕ). take m bs) k ∙ ap (take (length xs)) e ∙ take-append_seam xs ys
