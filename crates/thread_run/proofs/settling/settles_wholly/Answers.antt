use Rattle.thread_run.proofs.Wholly.{is_whole}
use Rattle.thread_run.proofs.settling.settles_wholly.Goals as goal

pub returns : goal.returns
returns c = λ result core after s ok same below room open_end. is_whole core after same below room open_end result s ok
