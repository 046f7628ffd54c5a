use Rattle.std.proofs.Common.{◌∙◌, sym, ap}
use Rattle.query_ast.specs.Sought.{view}
use Rattle.query_ast.specs.Pruning.{can_match}
use Rattle.query_ast.proofs.RuledOut.{ruled_out}
use Rattle.query_ast.proofs.pruning.possible.Goals as goal

pub returns-clause-none : goal.returns-clause-none
returns-clause-none c = λ h doc hold. ruled_out c.args.schema.now c.args.tags.now doc hold (view c.args.query.now) (ap (λ t. can_match c.args.schema.now t (view c.args.query.now)) (sym c.as_slice.ensures) ∙ sym c.may_match.ensures ∙ h)
