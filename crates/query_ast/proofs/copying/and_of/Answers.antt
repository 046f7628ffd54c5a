use Rattle.std.proofs.Common.{rules}
use Rattle.query_ast.proofs.Copied.{row_all}
use Rattle.query_ast.specs.declared.query.Query.{the_lemmas}
use Rattle.query_ast.proofs.copying.and_of.Goals as goal

pub returns : goal.returns
returns c = search (rules, row_all, the_lemmas)
