use Rattle.std.proofs.Common.{rules}
use Rattle.query_ast.proofs.tokens.folded_prefix.Goals as goal

pub returns-in-Default : goal.returns-in-Default
returns-in-Default c = search rules
