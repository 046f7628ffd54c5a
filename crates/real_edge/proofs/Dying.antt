-- Calls that are not done.
use Rattle.std.proofs.Common.{◌≡◌, ◌⊎◌, ℕ, List, Option, Some, None, Result, Ok, Err, refl, inl, inr}
use Rattle.std.specs.FinMap as finmap
use Rattle.real_edge.specs.declared.faults.Trouble.{Trouble}
use Rattle.real_edge.specs.declared.disk.MakeError.{MakeError}
use Rattle.real_edge.specs.declared.disk.MakeError.TheVariants as makes
use Rattle.real_edge.specs.Disk.{Files, Where, Makes, Links, LinkFails, Removes}
use Rattle.real_edge.proofs.Wheres.{where_same}

pub not_made : (a : Option Files) (name content : List ℕ) (t : Trouble) (l : Files → Type 0) → Where a a (Makes name content (Err (makes.Failed t)) l l)
not_made a name content t l = where_same a a (Makes name content (Err (makes.Failed t)) l l) (λ f. record { others = λ q ne. refl; left = λ c h. (c, h, λ q ne. refl); stood = λ some. (refl, λ c h. h) }) refl

fails_at : (to : List ℕ) (x : Option (List ℕ)) (l : Files → Type 0) (f : Files) → LinkFails to x l l f f
fails_at to None l f = (refl, λ c h. h)
fails_at to (Some content) l f = inr (refl, λ c h. h)

pub not_linked : (a : Option Files) (from to : List ℕ) (t : Trouble) (l : Files → Type 0) → Where a a (Links from to (Err (makes.Failed t)) l l)
not_linked a from to t l = where_same a a (Links from to (Err (makes.Failed t)) l l) (λ f. fails_at to (finmap.get f from) l f) refl

pub not_removed : (a : Option Files) (name : List ℕ) (t : Trouble) (l : Files → Type 0) → Where a a (Removes name (Err t) l l)
not_removed a name t l = where_same a a (Removes name (Err t) l l) (λ f. (inr refl, λ c h. (c, h, record { others = λ q ne. refl; here = inl refl }))) refl
