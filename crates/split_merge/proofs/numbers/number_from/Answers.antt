use Rattle.split_merge.proofs.RisingLemmas.{number_past, number_rising}
use Rattle.split_merge.proofs.numbers.number_from.Goals as goal

pub returns-then-doc-docs : goal.returns-then-doc-docs
returns-then-doc-docs c = number_rising c.args.first c.args.docs c.args.doc c.requires c.if-doc-docs.true

pub returns-else-doc-docs : goal.returns-else-doc-docs
returns-else-doc-docs c = number_past c.args.first c.args.docs c.args.doc c.if-doc-docs.false
