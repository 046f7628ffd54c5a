use Rattle.real_edge.proofs.file_log.FileLog.keep_failure.Goals as goal

pub invariant_of-self : goal.invariant_of-self
invariant_of-self g c = record { places = λ grown told. c.forget.ensures grown (c.args.self.now.places grown told) }
