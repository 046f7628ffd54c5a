use Rattle.split_collector.proofs.OnePage.{one_page}
use Rattle.split_collector.proofs.step_laws.pages_make_no_difference.Goals as goal

pub returns : goal.returns
returns c = one_page
