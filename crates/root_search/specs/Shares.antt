-- When what splits gave of their hits is enough.
use Rattle.std.specs.Prelude.{◌≡◌, ◌⊎◌, ℕ, ◌≤◌, not, List, length, map, Option}
use Rattle.std.specs.List.{AllByRecursion, filter}
use Rattle.split_bundle.specs.declared.placed.Placed.{Placed}
use Rattle.doc_tallies.specs.Orders.{comes_before, firsts}
use Rattle.doc_tallies.specs.Shares.{IsShare, joined}
use Rattle.doc_tallies.specs.declared.hit_order.HitOrder.{HitOrder}
use Rattle.root_search.specs.declared.shares.SplitShare.{SplitShare}

-- the hits of a share are the first so many of a list
abbrev pub IsFirstOf : Option HitOrder → SplitShare → List Placed → Type 0
IsFirstOf order share own = share.answer.hits ≡ firsts share.wanted order own

-- the hits of some shares
abbrev pub hits_in : List SplitShare → List (List Placed)
hits_in shares = map (λ share. share.answer.hits) shares

-- no more are wanted of a split than of all
abbrev pub IsPart : ℕ → SplitShare → Type 0
IsPart wanted share = share.wanted ≤ wanted

-- of whatever list it has the first hits, it has as many as are wanted of all, as far as there are so many
abbrev pub IsWhole : Option HitOrder → ℕ → SplitShare → Type 0
IsWhole order wanted share = (own : List Placed) → IsPart wanted share → IsFirstOf order share own → share.answer.hits ≡ firsts wanted order own

-- the same, or all other hits of the list stand behind z
abbrev pub IsUsedUp : Option HitOrder → ℕ → Placed → SplitShare → Type 0
IsUsedUp order wanted z share = (own : List Placed) → IsPart wanted share → IsFirstOf order share own → IsShare (comes_before order) wanted z own share.answer.hits

-- Nothing that a split did not give may be among the first hits: each gave as many as are wanted of all, as far as it has so many; or so many hits do
-- not stand behind one, and all that the splits did not give stands behind it.
abbrev pub AreEnough : Option HitOrder → ℕ → List SplitShare → Type 0
AreEnough order wanted shares =
    AllByRecursion (IsWhole order wanted) shares
    ⊎ ((z : Placed) × (wanted ≤ length (filter (λ y. not (comes_before order z y)) (joined (hits_in shares)))) × AllByRecursion (IsUsedUp order wanted z) shares)
