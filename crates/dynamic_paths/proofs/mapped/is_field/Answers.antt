use Rattle.std.proofs.Common.{ap}
use Rattle.dynamic_paths.specs.Leaves.{is_field}
use Rattle.dynamic_paths.proofs.Others.{others}
use Rattle.dynamic_paths.proofs.mapped.is_field.Goals as goal

pub loop-number-init : goal.loop-number-init
loop-number-init c = ap (λ fs. is_field fs c.args.path.now) (others c.args.schema.now.dynamic c.args.schema.now.fields)
