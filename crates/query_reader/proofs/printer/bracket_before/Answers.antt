use Rattle.std.proofs.Common.{rules}
use Rattle.query_ast.specs.declared.query.Query.{the_lemmas}
use Rattle.query_reader.proofs.printer.bracket_before.Goals as goal

pub returns-in_default : goal.returns-in_default
returns-in_default c = search (rules, the_lemmas)
