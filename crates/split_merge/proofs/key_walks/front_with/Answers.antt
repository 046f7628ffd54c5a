use Rattle.std.proofs.Common.{◌∷◌, ◌++◌, ℕ, [], None, Option, sym, subst}
use Rattle.split_merge.specs.Walking.{FrontIs, IsFrontAt}
use Rattle.split_merge.specs.declared.key_walks.Front.{Front}
use Rattle.split_merge.proofs.FrontLemmas.{front_first, front_same}
use Rattle.split_merge.proofs.key_walks.front_with.Goals as goal

pub returns-in-None-front : goal.returns-in-None-front
returns-in-None-front c = λ walks place h.
    let w = c.args.walk.now in
    let key = c.in-Some.key.now in
    subst (λ (n : ℕ). IsFrontAt n key None (walks ++ w ∷ [])) (sym place) (front_first walks w key (subst (λ (o : Option Front). FrontIs o walks) c.in-None-front.is h) (sym c.in-Some.ensures))

pub returns-in-None : goal.returns-in-None
returns-in-None c = λ walks place h. front_same c.args.front walks c.args.walk.now (sym c.in-None.ensures) h
