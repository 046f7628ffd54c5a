use Rattle.std.proofs.Common.{◌∙◌, ap, sym, map, sum}
use Rattle.std.specs.Prelude.{min}
use Rattle.index_world.specs.Core.{last_count}
use Rattle.node_run.specs.Logs.{logs_in}
use Rattle.node_run.proofs.Parts.{map_twice}
use Rattle.node_run.proofs.drive.DriveNode.finish.Goals as goal

pub returns-clause-store : goal.returns-clause-store
returns-clause-store g c = c.finish_with_logs-store.ensures.store

pub returns-clause-faults : goal.returns-clause-faults
returns-clause-faults g c = λ firsts node p.
    let given = c.finish_with_logs-store.ensures.logs firsts node p in
    record { lasts = logs_in c.finish_with_logs-store.result.1; later = given.later; counts_are = given.counts_are; sum_is = c.faults-faults.ensures }

pub returns-clause-sum : goal.returns-clause-sum
returns-clause-sum g c =
    c.faults-faults.ensures ∙ ap (λ ls. min (sum (map g.L.SourceLog.fault_count ls)) last_count) c.finish_with_logs-store.ensures.same
    ∙ ap (λ ns. min (sum ns) last_count) (sym (map_twice g.L.SourceLog.fault_count (λ reader. reader.log) c.args.self.indexers.items))
