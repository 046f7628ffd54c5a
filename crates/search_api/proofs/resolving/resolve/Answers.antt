use Rattle.search_api.specs.Resolved.{search_view}
use Rattle.search_api.proofs.Answered.{search_can, delete_can}
use Rattle.search_api.proofs.resolving.resolve.Goals as goal

pub returns-in_ok-search-in-Search-clause-answerable : goal.returns-in_ok-search-in-Search-clause-answerable
returns-in_ok-search-in-Search-clause-answerable c = λ dynamic.
    search_can c.args.schema.now c.args.defaults.now c.in-Search.asked (search_view c.in_ok-search-in-Search.search) dynamic c.in_ok-search-in-Search.ensures

pub returns-in_ok-deletion-in-Delete-clause-answerable : goal.returns-in_ok-deletion-in-Delete-clause-answerable
returns-in_ok-deletion-in-Delete-clause-answerable c = λ dynamic.
    delete_can c.args.schema.now c.args.defaults.now c.in-Delete.asked c.in_ok-deletion-in-Delete.deletion c.in_ok-deletion-in-Delete.ensures
