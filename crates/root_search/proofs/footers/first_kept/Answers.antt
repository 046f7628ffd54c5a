use Rattle.std.proofs.Common.{[], refl}
use Rattle.root_search.proofs.Puts.{keeps_as}
use Rattle.root_search.proofs.footers.first_kept.Goals as goal

pub returns : goal.returns
returns c = keeps_as c.in_ok-cache.cache.entries [] c.put.new.cache.entries c.args.number c.args.footer c.args.footer c.in_ok-cache.ensures refl c.put.ensures
