use Rattle.std.proofs.Common.{[], ◌∷◌, ◌++◌, ap}
use Rattle.dynamic_paths.specs.Leaves.{is_object}
use Rattle.dynamic_paths.proofs.Others.{others}
use Rattle.dynamic_paths.proofs.mapped.is_object.Goals as goal

pub loop-number-init : goal.loop-number-init
loop-number-init c = ap (λ fs. is_object fs (c.args.path.now ++ 46 ∷ [])) (others c.args.schema.now.dynamic c.args.schema.now.fields)
