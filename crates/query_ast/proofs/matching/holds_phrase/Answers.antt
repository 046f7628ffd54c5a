use Rattle.std.proofs.Common.{rules}
use Rattle.query_ast.proofs.matching.holds_phrase.Goals as goal

pub returns-in-len1-up : goal.returns-in-len1-up
returns-in-len1-up c = search rules
