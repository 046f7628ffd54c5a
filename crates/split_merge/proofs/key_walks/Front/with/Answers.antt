use Rattle.std.proofs.Common.{◌∙◌, ◌∷◌, ◌++◌, ℕ, List, [], Option, Some, sym, subst}
use Rattle.std.specs.Option.{option_copied}
use Rattle.split_merge.specs.Walking.{IsFrontAt}
use Rattle.split_merge.proofs.FrontLemmas.{front_less, front_more}
use Rattle.split_merge.proofs.key_walks.Front.with.Goals as goal

pub returns-then-is_below : goal.returns-then-is_below
returns-then-is_below c = λ walks w place at h.
    let f = c.args.self in
    subst (λ (n : ℕ). IsFrontAt n c.args.key.now (Some f.key.now) (walks ++ w ∷ [])) (sym place)
    (front_less f.walk f.key.now (option_copied f.bound) walks h w c.args.key.now at (sym c.is_below.ensures ∙ c.if-is_below.true))

pub returns-else-is_below : goal.returns-else-is_below
returns-else-is_below c = λ walks w place at h.
    let f = c.args.self in
    subst (λ (o : Option (List ℕ)). IsFrontAt f.walk f.key.now o (walks ++ w ∷ [])) (sym c.lesser.ensures)
    (front_more f.walk f.key.now (option_copied f.bound) walks h w c.args.key.now at (sym c.is_below.ensures ∙ c.if-is_below.false))
