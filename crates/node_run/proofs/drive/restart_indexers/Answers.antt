use Rattle.std.proofs.Common.{sym, subst, ap, get_or, add-one, arith}
use Rattle.std.specs.Prelude.{slice_set}
use Rattle.node_run.specs.Each.{ChangedUpTo}
use Rattle.node_run.specs.Restarting.{Restarted}
use Rattle.indexing_run.specs.Standing.{IndexerStands}
use Rattle.node_run.specs.Turns.{made_idle}
use Rattle.node_run.proofs.Zips.{none_changed, one_changed, all_changed, zip_map, same_map}
use Rattle.node_run.proofs.drive.restart_indexers.Goals as goal

pub loop-i-init : goal.loop-i-init
loop-i-init g c = none_changed (Restarted g.L.SourceLog.told g.L.SourceLog.fault_count) c.args.indexers.now

pub loop-i-preserved : goal.loop-i-preserved
loop-i-preserved g c =
    subst (λ n. ChangedUpTo (Restarted g.L.SourceLog.told g.L.SourceLog.fault_count) n c.args.indexers.now (slice_set c.loop-i.indexers c.loop-i.i c.restart.new.self)) (sym (add-one c.loop-i.i))
    (one_changed (Restarted g.L.SourceLog.told g.L.SourceLog.fault_count) c.loop-i.i c.args.indexers.now c.loop-i.indexers (get_or c.loop-i.indexers c.loop-i.i c.index-indexers-i.result) c.restart.new.self c.loop-i.invariant c.loop-i-test.true
    (ap (λ v. get_or c.loop-i.indexers c.loop-i.i v) c.index-indexers-i.is)
    (record { log = c.restart.ensures.log; stands = λ indexer core after read s. c.restart.ensures.stands indexer core after read s }))

pub returns-clause-logs : goal.returns-clause-logs
returns-clause-logs g c =
    same_map (Restarted g.L.SourceLog.told g.L.SourceLog.fault_count) (λ reader. reader.log) c.args.indexers.now c.loop-i.indexers
    (all_changed (Restarted g.L.SourceLog.told g.L.SourceLog.fault_count) c.loop-i.i c.args.indexers.now c.loop-i.indexers c.loop-i.invariant (omega (arith, c.loop-i.auto.i-end, c.loop-i-test.false)))
    (λ x y r. r.log)

pub returns-clause-stand : goal.returns-clause-stand
returns-clause-stand g c = λ actors core after log z.
    zip_map (Restarted g.L.SourceLog.told g.L.SourceLog.fault_count)
    (λ reader indexer. IndexerStands g.L.SourceLog.told g.L.SourceLog.fault_count reader indexer core log)
    (λ reader indexer. IndexerStands g.L.SourceLog.told g.L.SourceLog.fault_count reader indexer after log) made_idle
    c.args.indexers.now c.loop-i.indexers actors
    (all_changed (Restarted g.L.SourceLog.told g.L.SourceLog.fault_count) c.loop-i.i c.args.indexers.now c.loop-i.indexers c.loop-i.invariant (omega (arith, c.loop-i.auto.i-end, c.loop-i-test.false)))
    z (λ x y m r s. r.stands m core after log s)
