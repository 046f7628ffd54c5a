use Rattle.std.proofs.Common.{◌∙◌, refl, subst, sym}
use Rattle.index_world.specs.World.{Keeping, WorldStands}
use Rattle.indexing_run.specs.Standing.{IndexerStands}
use Rattle.node_run.proofs.Parts.{map_twice}
use Rattle.node_run.proofs.Zips.{zip_same}
use Rattle.node_run.proofs.drive.DriveNode.finish_with_logs.Goals as goal

pub returns-clause-store : goal.returns-clause-store
returns-clause-store g c = λ firsts node p.
    let stands = subst (λ (w : Keeping). WorldStands w node.core node.log) (sym c.into_world.ensures) p.world_stands in
    record {
      kept = stands.kept;
      tells = c.unload.ensures.told ∙ stands.told;
      world = stands.world;
      faults = c.unload.ensures.faults ∙ stands.store_faults;
    }

pub returns-clause-logs : goal.returns-clause-logs
returns-clause-logs g c = λ firsts node p.
    record {
      later = p.later;
      counts_are = sym (map_twice g.L.SourceLog.fault_count (λ reader. reader.log) c.args.self.indexers.items)
          ∙ zip_same (λ reader indexer. IndexerStands g.L.SourceLog.told g.L.SourceLog.fault_count reader indexer node.core node.log)
          (λ reader. g.L.SourceLog.fault_count reader.log) (λ indexer. indexer.log_faults) c.args.self.indexers.items node.indexers
          (λ reader indexer s. s.log_faults) p.indexers;
    }

pub returns-clause-same : goal.returns-clause-same
returns-clause-same g c = refl
