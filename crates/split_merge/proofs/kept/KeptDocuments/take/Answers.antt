use Rattle.std.specs.Prelude.{⊤}
use Rattle.split_merge.proofs.InPlaceLemmas.{keeps_stop, part_fault}
use Rattle.split_merge.proofs.kept.KeptDocuments.take.Goals as goal

pub returns-in-Ok-clause-places : goal.returns-in-Ok-clause-places
returns-in-Ok-clause-places c = λ before h known. c.take_bytes.ensures.places before h known c.in-Ok.ensures.exact

pub returns-in-Ok-clause-exact : goal.returns-in-Ok-clause-exact
returns-in-Ok-clause-exact c = λ before h known. c.take_bytes.ensures.exact before h known c.in-Ok.ensures.exact

pub returns-in-Err-clause-exact : goal.returns-in-Err-clause-exact
returns-in-Err-clause-exact c = λ before h known.
    keeps_stop ⊤ c.args.self.now c.args.schema.now c.in-Err.fault before _ (part_fault c.args.schema.now c.args.view.now c.args.doc c.in-Err.fault c.in-Err.ensures.exact)
