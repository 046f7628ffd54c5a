-- Footers that are kept.
use Rattle.std.specs.Prelude.{◌≡◌, ◌⊎◌, ℕ, List, [], Contains}
use Rattle.std.specs.Option.{option_map_or}
use Rattle.split_bundle.specs.declared.footer.Footer.{Footer}
use Rattle.root_search.specs.declared.footers.Footers.{Footers}

-- the footers by the numbers of their splits, the one that was asked last first
abbrev pub entries : Footers → List (ℕ × Footer)
entries footers = option_map_or (λ cache. cache.entries) footers.cache []

-- what is kept was kept before, or is this footer
abbrev pub KeepsMore : List (ℕ × Footer) → List (ℕ × Footer) → ℕ → Footer → Type 0
KeepsMore old new number footer = (n : ℕ) (f : Footer) → Contains new (n, f) → Contains old (n, f) ⊎ ((n ≡ number) × (f ≡ footer))
