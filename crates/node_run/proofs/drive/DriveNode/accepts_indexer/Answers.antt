use Rattle.std.proofs.Common.{arith}
use Rattle.indexing_run.specs.Standing.{IndexerStands}
use Rattle.node_run.proofs.Zips.{zip_length}
use Rattle.node_run.proofs.Parts.{yes_below, bad_above}
use Rattle.node_run.proofs.drive.DriveNode.accepts_indexer.Goals as goal

pub returns-then-indexer-len-clause-exact : goal.returns-then-indexer-len-clause-exact
returns-then-indexer-len-clause-exact g c = λ firsts node p.
    let same = zip_length (λ reader indexer. IndexerStands g.L.SourceLog.told g.L.SourceLog.fault_count reader indexer node.core node.log) c.args.self.now.indexers.items node.indexers p.indexers in
    yes_below c.args.indexer _ (omega (arith, same, c.if-indexer-len.true, c.args.self.now.indexers.ok.0))

pub returns-else-indexer-len-clause-exact : goal.returns-else-indexer-len-clause-exact
returns-else-indexer-len-clause-exact g c = λ firsts node p.
    let same = zip_length (λ reader indexer. IndexerStands g.L.SourceLog.told g.L.SourceLog.fault_count reader indexer node.core node.log) c.args.self.now.indexers.items node.indexers p.indexers in
    bad_above c.args.indexer _ (omega (arith, same, c.if-indexer-len.false, c.args.self.now.indexers.ok.0))
