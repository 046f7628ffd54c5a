use Rattle.std.proofs.Common.{◌≡◌}
use Rattle.thread_run.specs.Jobs.{fresh_of}
use Rattle.thread_run.proofs.Fresh.{fresh_stands, holds_none}
use Rattle.thread_run.proofs.job.index.Goals as goal

pub index_all-end-requires-clause-owns : goal.index_all-end-requires-clause-owns
index_all-end-requires-clause-owns g c = holds_none g.G.Gate.Owns c.args.gate.now c.args.indexer.place c.requires.idle

pub index_all-end-requires-clause-begun : goal.index_all-end-requires-clause-begun
index_all-end-requires-clause-begun g c read begins =
    let b = c.requires.begun read begins in
    let l = g.L.SourceLog in
    (fresh_of l.fault_count c.args.indexer, b.1.0, fresh_stands l.told l.fault_count c.args.indexer b.1.0 read c.requires.idle b.0.1 b.0.0, b.1.1)

pub returns-clause-ran : goal.returns-clause-ran
returns-clause-ran g c core log tells stands =
    let l = g.L.SourceLog in
    c.index_all-end.ensures.ran (fresh_of l.fault_count c.args.indexer) core log (fresh_stands l.told l.fault_count c.args.indexer core log c.requires.idle tells.1 tells.0) stands
