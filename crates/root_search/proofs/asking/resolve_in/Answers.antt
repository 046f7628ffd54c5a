use Rattle.root_search.proofs.Schemas.{dynamic_field}
use Rattle.root_search.proofs.asking.resolve_in.Goals as goal

pub returns-clause-answerable : goal.returns-clause-answerable
returns-clause-answerable c = c.resolve.ensures.answerable (dynamic_field c.args.config.now.schema c.requires)
