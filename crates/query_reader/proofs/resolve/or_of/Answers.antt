use Rattle.std.proofs.Common.{rules}
use Rattle.query_reader.proofs.Each.{row_all}
use Rattle.query_ast.specs.declared.query.Query.{the_lemmas}
use Rattle.query_reader.proofs.resolve.or_of.Goals as goal

pub returns : goal.returns
returns c = search (rules, row_all, the_lemmas)
