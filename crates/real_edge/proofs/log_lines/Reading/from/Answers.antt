use Rattle.std.proofs.Common.{refl}
use Rattle.real_edge.proofs.Lines.{begun}
use Rattle.real_edge.proofs.log_lines.Reading.from.Goals as goal

pub returns-clause-reads : goal.returns-clause-reads
returns-clause-reads c bytes from most m before =
    begun from most bytes c.args.start _ m before c.vacant.ensures c.new.ensures.items refl refl
