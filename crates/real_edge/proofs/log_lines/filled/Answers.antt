use Rattle.std.proofs.Common.{refl}
use Rattle.real_edge.proofs.Lines.{gives_some}
use Rattle.real_edge.proofs.log_lines.filled.Goals as goal

pub returns-clause-records : goal.returns-clause-records
returns-clause-records c bytes from most f = gives_some from most bytes c.args.reading _ f refl refl
