use Rattle.std.proofs.Common.{sym}
use Rattle.shared_gate.proofs.Recording.{begun}
use Rattle.shared_gate.proofs.recorded.Recorded.new.Goals as goal

pub returns-clause-standing : goal.returns-clause-standing
returns-clause-standing g c = begun g.L.SourceLog.told _ c.new.ensures.items (sym c.of-opened.ensures)
