use Rattle.std.proofs.Common.{arith, ◌∷◌, []}
use Rattle.agg_nested.proofs.Answered.{many_answered}
use Rattle.agg_nested.proofs.NothingNested.{plain_told}
use Rattle.agg_nested.proofs.nested_finishing.too_many.Goals as goal

pub returns : goal.returns
returns c = λ asked documents none is many. many_answered (asked ∷ []) documents c.args.count (plain_told asked documents c.args.count none (omega arith) is) many
