use Rattle.std.proofs.Common.{refl}
use Rattle.upkeep_run.specs.Places.{idle}
use Rattle.upkeep_run.specs.declared.work.Aim.TheVariants.{Merging}
use Rattle.node_run.specs.Node as said
use Rattle.node_run.specs.Turns.{calm, with_merger}
use Rattle.node_run.proofs.Parts.{most_done}
use Rattle.node_run.proofs.WorkerParts.{unmerged_parts}
use Rattle.node_run.proofs.drive.DriveNode.restart_merger.Goals as goal

pub returns-clause-does : goal.returns-clause-does
returns-clause-does g c = λ firsts node p.
    most_done g.L.SourceLog.told g.L.SourceLog.fault_count g.L.SourceLog.since firsts node said.RestartMerger _ c.merger_restarted.result calm (said.worker_restarted Merging) (with_merger idle node) refl c.merger_restarted.ensures
    (unmerged_parts g.L.SourceLog.told g.L.SourceLog.fault_count g.L.SourceLog.since firsts c.args.self.now.gate.world c.args.self.now.indexers.items c.args.self.now.merger.place c.args.self.now.deleter.place c.args.self.now.clients.items c.args.self.now.places.entries c.args.self.now.moment c.args.self.now.down node p c.restart.new.self.place (c.restart.ensures.stands node.core node.log))

pub returns-clause-prints : goal.returns-clause-prints
returns-clause-prints g c = c.merger_restarted.ensures
