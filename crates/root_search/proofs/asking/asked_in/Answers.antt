use Rattle.std.proofs.Common.{subst, sym, Result}
use Rattle.search_api.specs.Requests.{request_of}
use Rattle.search_api.specs.Resolved.{Asked, view}
use Rattle.search_api.specs.Unanswered.{Shows}
use Rattle.search_api.specs.declared.unanswered.Unanswered.{Unanswered}
use Rattle.root_search.proofs.ReadTexts.{asked_as}
use Rattle.root_search.proofs.asking.asked_in.Goals as goal

pub returns-clause-asked : goal.returns-clause-asked
returns-clause-asked c =
    subst (λ (r : Result Asked Unanswered). Shows view r c.resolve_in-resolved.result) (sym (asked_as c.args.config.now (request_of c.args.text.now) c.in_ok-request.request c.in_ok-request.ensures)) c.resolve_in-resolved.ensures.resolved
