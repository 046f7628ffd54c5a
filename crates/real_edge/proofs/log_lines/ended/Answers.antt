use Rattle.std.proofs.Common.{refl}
use Rattle.real_edge.proofs.Lines.{gives_all}
use Rattle.real_edge.proofs.log_lines.ended.Goals as goal

pub returns-clause-records : goal.returns-clause-records
returns-clause-records c bytes most r = gives_all c.args.from most bytes c.args.reading _ r c.if-behind-from.false refl refl
