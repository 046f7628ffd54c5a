-- The steps of a part that are answered.
use Rattle.std.specs.Prelude.{ℕ, zero, suc, List, [], ◌∷◌, ◌++◌, map, filter, ℤ, pos, ◌+ℤ◌, ◌-ℤ◌, nat_le, ◌+◌, ◌==◌, if◌then◌else◌, min, length}
use Rattle.std.specs.Int.RustNames.{unsigned_abs}
use Rattle.agg_model.specs.Listed.{all_listed}
use Rattle.agg_model.specs.declared.counts.Counts.{Counts}
use Rattle.agg_model.specs.declared.request.Agg.{Agg}
use Rattle.agg_model.specs.declared.request.Agg.TheVariants.{Terms, Histogram}
use Rattle.agg_model.specs.declared.request.NamedAgg.{NamedAgg}

-- so many steps from the first on
abbrev pub span : ℤ → ℕ → List ℤ
span first zero = []
span first (suc n) = span first n ++ (first +ℤ pos n) ∷ []

-- the steps of the entries with at least this count
abbrev pub steps_with : ℕ → List (ℤ × ℕ) → List ℤ
steps_with least es = map (λ e. e.0) (filter (λ e. nat_le least e.1) es)

-- the last key of entries, which begin with this one
abbrev pub last_step : ℤ → List (ℤ × ℕ) → ℤ
last_step step [] = step
last_step step (e ∷ es) = last_step e.0 es

-- all steps from the least to the greatest
abbrev pub spread : List (ℤ × ℕ) → List ℤ
spread [] = []
spread (e ∷ es) = span e.0 (unsigned_abs (last_step e.0 es -ℤ e.0) + 1)

abbrev pub steps_shown : ℕ → List (ℤ × ℕ) → List ℤ
steps_shown least es = if least == 0 then spread es else steps_with least es

-- how many buckets an aggregation shows of a part
abbrev pub shown_in : Agg → Counts → ℕ
shown_in (Terms field size) counts = min size (length (all_listed counts))
shown_in (Histogram field interval offset least dated) counts = length (steps_shown least counts.steps.entries)

-- and all of a request together
abbrev pub total_shown : List NamedAgg → List Counts → ℕ
total_shown [] parts = 0
total_shown (named ∷ rest) [] = 0
total_shown (named ∷ rest) (part ∷ parts) = shown_in named.agg part + total_shown rest parts
