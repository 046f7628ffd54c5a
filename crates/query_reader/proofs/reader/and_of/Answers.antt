use Rattle.std.proofs.Common.{rules}
use Rattle.query_reader.proofs.Rows.{row_after}
use Rattle.query_reader.specs.declared.tree.Raw.{the_lemmas}
use Rattle.query_reader.proofs.reader.and_of.Goals as goal

pub returns : goal.returns
returns c = search (rules, row_after, the_lemmas)
