-- The distinct ones of some texts, rising.
use Rattle.std.specs.Prelude.{ℕ, List, [], ◌∷◌, if◌then◌else◌}
use Rattle.term_dict.specs.Keys.{is_below}

-- a text at its place among rising ones, once
abbrev pub with_text : List ℕ → List (List ℕ) → List (List ℕ)
with_text t [] = t ∷ []
with_text t (o ∷ os) = if is_below t o then t ∷ o ∷ os else if is_below o t then o ∷ with_text t os else o ∷ os

abbrev pub sorted : List (List ℕ) → List (List ℕ)
sorted [] = []
sorted (t ∷ ts) = with_text t (sorted ts)
