-- A text that has no minus sign before it is a path.
use Rattle.std.proofs.Common.{◌≡◌, ◌≢◌, ℕ, ◌==◌, Bool, true, false, List, [], ◌∷◌, refl, ap}
use Rattle.std.specs.Cmp.{unsigned_Decides}
use Rattle.search_api.specs.declared.request.SortBy.{SortBy}
use Rattle.search_api.specs.Requests.{sort_of}

ascending : List ℕ → SortBy
ascending path = record { path = path; descending = false }

pub plain_sort : (text : List ℕ) → ((rest : List ℕ) → text ≢ 45 ∷ rest) → record { path = text; descending = false } ≡ sort_of text
plain_sort [] h = refl
plain_sort (c ∷ cs) h = by (c == 45) refl
  where
    by : (b : Bool) → (c == 45) ≡ b → record { path = c ∷ cs; descending = false } ≡ sort_of (c ∷ cs)
    by true e = absurd (h cs (ap (λ x. x ∷ cs) ((unsigned_Decides c 45).0 e)))
    by false e = rw e refl
