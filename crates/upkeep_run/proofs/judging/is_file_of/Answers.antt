use Rattle.upkeep_run.proofs.Judged.{judged_by}
use Rattle.upkeep_run.proofs.judging.is_file_of.Goals as goal

pub returns-in-Ok-clause-judged : goal.returns-in-Ok-clause-judged
returns-in-Ok-clause-judged c =
    judged_by c.args.bytes.now c.args.row.now c.in-Ok.view c.in-Some.work c.in-Some.is (record { bytes_are = c.in-Ok.ensures.whole; footer = c.in-Ok.ensures.exact }) c.agrees.result c.agrees.ensures.exact
