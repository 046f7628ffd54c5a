use Rattle.std.proofs.Common.{rules}
use Rattle.query_ast.proofs.pruning.contains_value.Goals as goal

pub returns-in-I64 : goal.returns-in-I64
returns-in-I64 c = search rules
