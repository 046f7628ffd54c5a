use Rattle.root_search.proofs.Ruled.{times_meet, tags_hold, none_found}
use Rattle.root_search.proofs.plan_laws.ruling_laws.Goals as goal

pub returns : goal.returns
returns c = record { times = times_meet; tags = tags_hold; none = none_found }
