use Rattle.root_search.proofs.Tails.{starts_footer}
use Rattle.root_search.proofs.fetching.footer_start.Goals as goal

pub returns-clause-step : goal.returns-clause-step
returns-clause-step c = λ bytes f long same. starts_footer bytes c.args.trailer.now c.args.size c.read.result c.start_in.result f long same c.read.ensures.cut c.start_in.ensures.step
