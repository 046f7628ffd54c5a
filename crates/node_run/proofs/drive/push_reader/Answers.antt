use Rattle.std.proofs.Common.{◌++◌, ◌∷◌, [], sym, subst}
use Rattle.std.specs.List.{AllZip}
use Rattle.node_run.specs.Standing.{IsFresh}
use Rattle.node_run.proofs.Zips.{zip_push}
use Rattle.node_run.proofs.drive.push_reader.Goals as goal

pub returns-clause-fresh : goal.returns-clause-fresh
returns-clause-fresh g c = λ logs z.
    subst (AllZip (IsFresh g.L.SourceLog.told g.L.SourceLog.fault_count) (logs ++ c.args.log ∷ [])) (sym c.in-Ok.ensures.items)
    (zip_push (IsFresh g.L.SourceLog.told g.L.SourceLog.fault_count) logs c.args.readers.now.items c.args.log c.start.result z (c.start.ensures.log, c.start.ensures.stands))
