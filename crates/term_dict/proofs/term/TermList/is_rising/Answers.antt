use Rattle.std.proofs.Common.{sym}
use Rattle.term_dict.proofs.Rises.{one_less}
use Rattle.term_dict.proofs.term.TermList.is_rising.Goals as goal

pub loop-first-preserved : goal.loop-first-preserved
loop-first-preserved c =
    one_less c.in-Some.first.now c.loop-first.rest.now c.in-Some.behind.now c.args.self.now c.in-Some.ensures.cases.0 (sym c.if-not-stands_before.ensures) c.loop-first.invariant
