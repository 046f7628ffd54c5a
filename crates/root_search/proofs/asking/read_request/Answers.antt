use Rattle.std.proofs.Common.{subst}
use Rattle.search_api.specs.Answerable.{CanAnswer}
use Rattle.search_api.specs.Resolved.{search_view, view}
use Rattle.search_api.specs.declared.resolved.Resolved.{Resolved}
use Rattle.root_search.proofs.Schemas.{intervals_kept, sort_narrow}
use Rattle.root_search.proofs.asking.read_request.Goals as goal

pub read_search-requires-clause-narrow : goal.read_search-requires-clause-narrow
read_search-requires-clause-narrow c =
    let can = subst (λ (r : Resolved). CanAnswer c.args.config.now.schema (view r)) c.in-Search.is c.in_ok-asked.ensures.answerable in
    sort_narrow c.args.config.now.schema (search_view c.in-Search.search) c.requires can

pub read_search-requires-clause-steps : goal.read_search-requires-clause-steps
read_search-requires-clause-steps c =
    let can = subst (λ (r : Resolved). CanAnswer c.args.config.now.schema (view r)) c.in-Search.is c.in_ok-asked.ensures.answerable in
    intervals_kept c.in-Search.search.aggs can.steps
