use Rattle.real_edge.proofs.Logs.{told-sound}
use Rattle.real_edge.proofs.file_log.FileLogSourceLog.faults.Goals as goal

pub returns-clause-sound : goal.returns-clause-sound
returns-clause-sound g c = told-sound (g.G.GrowingFiles.told c.args.self.now.files) (g.met.G.GrowingFiles.sound c.args.self.now.files)
