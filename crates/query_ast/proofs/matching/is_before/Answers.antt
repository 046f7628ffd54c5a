use Rattle.std.proofs.Common.{rules}
use Rattle.query_ast.proofs.matching.is_before.Goals as goal

pub returns-in-Some : goal.returns-in-Some
returns-in-Some c = search rules
