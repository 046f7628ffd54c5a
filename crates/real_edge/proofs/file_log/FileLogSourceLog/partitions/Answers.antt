use Rattle.std.proofs.Common.{◌∙◌, sym}
use Rattle.real_edge.proofs.Logs.{told-sound, told-names}
use Rattle.real_edge.proofs.file_log.FileLogSourceLog.partitions.Goals as goal

pub invariant_of-self : goal.invariant_of-self
invariant_of-self g c = record { places = λ grown told. c.args.self.now.places grown (sym c.partitions_of.ensures.same ∙ told) }

pub returns-in-Ok-clause-names : goal.returns-in-Ok-clause-names
returns-in-Ok-clause-names g c =
    told-names (g.G.GrowingFiles.told c.args.self.now.files) (g.G.GrowingFiles.told c.partitions_of.new.files) c.in-Ok.names c.in-Ok.ensures.same c.in-Ok.ensures.names

pub returns-in-Ok-clause-sound : goal.returns-in-Ok-clause-sound
returns-in-Ok-clause-sound g c = told-sound (g.G.GrowingFiles.told c.partitions_of.new.files) (g.met.G.GrowingFiles.sound c.partitions_of.new.files)

pub returns-in-Err-clause-sound : goal.returns-in-Err-clause-sound
returns-in-Err-clause-sound g c = told-sound (g.G.GrowingFiles.told c.failed.new.self.files) (g.met.G.GrowingFiles.sound c.failed.new.self.files)
