-- Lists that are shared out in turn.
use Rattle.std.specs.Prelude.{◌≡◌, ℕ, zero, suc, List, [], ◌∷◌, ⊤, if◌then◌else◌, ◌==◌}
use Rattle.std.specs.declared.alloc.Global.{Global}
use Rattle.std.specs.declared.vec.Vec.{Vec}
use Rattle.run_plan.specs.Every.{every}

-- each of these lists, of which the first is the one at this place, has every so many of a list, the first of them behind as many as its place says
abbrev pub AreShares : {A : Type 0} → (count place : ℕ) → List A → List (Vec A Global) → Type 0
AreShares count place xs [] = ⊤
AreShares count place xs (own ∷ lists) = (own.items ≡ every count place xs) × AreShares count (suc place) xs lists

-- whose turn it is, so many times: each time the next one of so many, and behind the last the first
abbrev pub turns_of : (count next long : ℕ) → List ℕ
turns_of count next zero = []
turns_of count next (suc long) = next ∷ turns_of count (if suc next == count then 0 else suc next) long
