use Rattle.std.proofs.Common.{◌≡◌, List, ap, arith}
use Rattle.std.proofs.lemmas.List.{nil_from_length}
use Rattle.split_bundle.specs.declared.placed.Placed.{Placed}
use Rattle.split_bundle.specs.Documents.{total_weight}
use Rattle.split_build.proofs.weights.weight_of.Goals as goal

pub returns : goal.returns
returns c =
    let none : total_weight c.loop-placed.rest.now ≡ 0 = ap (λ (xs : List Placed). total_weight xs) (nil_from_length c.loop-placed.rest.now c.in_default.ensures.cases) in
    omega (arith, none, c.loop-placed.invariant.sum, c.loop-placed.invariant.small)
