-- There is one choice.
use Rattle.std.proofs.Common.{◌≡◌, ℕ, ◌≤◌, List, map, length, take, Option, Some, None, refl, sym, ap, subst, ◌∙◌, arith}
use Rattle.std.proofs.lemmas.List.{length-take}
use Rattle.std.proofs.lemmas.List.Sorted.{IsPermutation-trans, IsPermutation-sym}
use Rattle.index_config.specs.declared.config.Policy.{Policy}
use Rattle.split_states.specs.declared.rows.Row.{Row}
use Rattle.merge_policy.specs.Choice.{row_order, merge_factor, max_merge_factor, FitsSplit, IsMerge, Gives, IsChosen}
use Rattle.merge_policy.proofs.Orders.{row_order_total, sorted_unique}

no_longer : (factor greatest : ℕ) (level one other : List Row) → IsMerge factor greatest level one → IsMerge factor greatest level other → length one ≤ length other
no_longer factor greatest level one other m n =
    let cut = length-take (length one) level in
    let same = ap length m.first in
    n.longest (length one) (omega arith) m.bounded (subst FitsSplit m.first m.fits)

one_merge : (factor greatest : ℕ) (level one other : List Row) → IsMerge factor greatest level one → IsMerge factor greatest level other → one ≡ other
one_merge factor greatest level one other m n =
    let le = no_longer factor greatest level one other m n in
    let ge = no_longer factor greatest level other one n m in
    let same : length one ≡ length other = omega arith in
    m.first ∙ (ap (λ (k : ℕ). take k level) same ∙ sym n.first)

one_given : (policy : Policy) (target now : ℕ) (rows : List Row) (k : ℕ) (one other : List Row) → Gives policy target now rows k one → Gives policy target now rows k other → one ≡ other
one_given policy target now rows k one other g h =
    let moved = IsPermutation-trans _ _ _ (IsPermutation-sym _ _ g.same) h.same in
    let same = sorted_unique row_order row_order_total g.level h.level g.in_order moved h.in_order in
    one_merge (merge_factor policy) (max_merge_factor policy) g.level one other g.is_merge (subst (λ (l : List Row). IsMerge (merge_factor policy) (max_merge_factor policy) l other) same h.is_merge)

pub one_choice : (policy : Policy) (target now : ℕ) (rows : List Row) (one other : Option (List ℕ)) → IsChosen policy target now rows one → IsChosen policy target now rows other → one ≡ other
one_choice policy target now rows None None g h = refl
one_choice policy target now rows None (Some other) g h = absurd (g h.level h.merged h.gives)
one_choice policy target now rows (Some one) None g h = absurd (h g.level g.merged g.gives)
one_choice policy target now rows (Some one) (Some other) g h =
    let le = g.least h.level h.merged h.gives in
    let ge = h.least g.level g.merged g.gives in
    let level : h.level ≡ g.level = omega arith in
    let merged = one_given policy target now rows g.level g.merged h.merged g.gives (subst (λ (k : ℕ). Gives policy target now rows k h.merged) level h.gives) in
    ap Some (g.numbers_are ∙ (ap (λ (l : List Row). map (λ row. row.number) l) merged ∙ sym h.numbers_are))
