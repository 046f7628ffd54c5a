use Rattle.std.proofs.Common.{◌∙◌, ap, sym}
use Rattle.query_ast.specs.declared.query.Edge.TheVariants.{Excluded}
use Rattle.query_ast.proofs.query.EdgeReplica.copy.Goals as goal

pub returns-in_ok-copy-in-Excluded : goal.returns-in_ok-copy-in-Excluded
returns-in_ok-copy-in-Excluded c = ap Excluded c.in_ok-copy-in-Excluded.ensures ∙ sym c.in-Excluded.is
