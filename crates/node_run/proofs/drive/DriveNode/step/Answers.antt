use Rattle.node_run.proofs.Parts.{does_ok, does_err}
use Rattle.node_run.proofs.drive.DriveNode.step.Goals as goal

pub returns-in-Ok-clause-does : goal.returns-in-Ok-clause-does
returns-in-Ok-clause-does g c = λ firsts node p f.
    does_ok g.L.SourceLog.told g.L.SourceLog.fault_count g.L.SourceLog.since firsts node _ c.in-Ok.out c.args.self.now _ p (c.in-Ok.ensures.does firsts node p f)

pub returns-in-Err-clause-does : goal.returns-in-Err-clause-does
returns-in-Err-clause-does g c = λ firsts node p f.
    does_err g.L.SourceLog.told g.L.SourceLog.fault_count g.L.SourceLog.since firsts node _ c.in-Err.refused c.do_line.new.self _ (c.in-Err.ensures.does firsts node p f) (λ n w. c.quiet.ensures firsts n w)

pub returns-in-Ok-clause-prints : goal.returns-in-Ok-clause-prints
returns-in-Ok-clause-prints g c = c.in-Ok.ensures.prints

pub returns-in-Err-clause-prints : goal.returns-in-Err-clause-prints
returns-in-Err-clause-prints g c = tt
