-- The only member of a list, told from its front.
use Rattle.std.proofs.Common.{◌≡◌, List, [], ◌∷◌, Option, Some, None, refl}
use Rattle.search_api.specs.Aggregations.{alone}

-- the only one of one that was found, if any, and those behind
abbrev pub alone_after : {A : Type 0} → Option A → List A → Option A
alone_after None more = alone more
alone_after (Some x) [] = Some x
alone_after (Some x) (y ∷ ys) = None

pub alone_none : {A : Type 0} (x : A) (more : List A) → alone_after None (x ∷ more) ≡ alone_after (Some x) more
alone_none x [] = refl
alone_none x (y ∷ ys) = refl

pub alone_more : {A : Type 0} (o : Option A) → alone_after o [] ≡ o
alone_more None = refl
alone_more (Some x) = refl
