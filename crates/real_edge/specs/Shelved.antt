-- What a shelf holds.
use Rattle.std.specs.Prelude.{ℕ, refl}
use Rattle.std.specs.Coded.{Coded, code_by, coded×, coded_ℕ, coded_list}
use Rattle.std.specs.FinMap as finmap
use Rattle.real_edge.specs.Disk.{Files}

-- files, and for how many more there is room
pub record Shelved : Type 0 where
  pub objects : Files
  pub spare : ℕ

abbrev pub shelved_code : Coded Shelved
shelved_code = code_by (Files × ℕ) (coded× (finmap.code (coded_list coded_ℕ) (coded_list coded_ℕ)) coded_ℕ) (λ s. (s.objects, s.spare)) (λ p. record { objects = p.0; spare = p.1 }) (λ _. refl)
