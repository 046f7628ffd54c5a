-- Members behind others.
use Rattle.std.proofs.Common.{◌≡◌, ℕ, List, [], ◌∷◌, ◌++◌, Option, Some, None, refl, ap, sym, append_assoc}
use Rattle.search_api.specs.Kinds.{with_text}

-- these texts, and behind them others where there are any
abbrev pub joined : List (List ℕ) → Option (List (List ℕ)) → Option (List (List ℕ))
joined done None = None
joined done (Some ts) = Some (done ++ ts)

pub joined_none : (o : Option (List (List ℕ))) → joined [] o ≡ o
joined_none None = refl
joined_none (Some ts) = refl

pub joined_step : (done : List (List ℕ)) (t : List ℕ) (o : Option (List (List ℕ))) → joined done (with_text (Some t) o) ≡ joined (done ++ t ∷ []) o
joined_step done t None = refl
joined_step done t (Some ts) = ap Some (sym (append_assoc done (t ∷ []) ts))
