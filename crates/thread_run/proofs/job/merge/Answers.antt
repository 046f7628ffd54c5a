use Rattle.std.proofs.Common.{◌≡◌}
use Rattle.index_world.proofs.Ran.{ran_as}
use Rattle.upkeep_run.specs.Places.{idle}
use Rattle.upkeep_run.specs.WorkAll.{WorkerDid}
use Rattle.upkeep_run.specs.declared.work.Aim.TheVariants.{Merging}
use Rattle.upkeep_run.proofs.Holding.{idle_owns}
use Rattle.thread_run.specs.Jobs.{MergedDid}
use Rattle.thread_run.specs.declared.job.Done.TheVariants as done
use Rattle.thread_run.proofs.job.merge.Goals as goal

pub merge_all-requires-clause-owns : goal.merge_all-requires-clause-owns
merge_all-requires-clause-owns g c = idle_owns g.G.Gate.Owns c.args.gate.now c.start-merger.result.place c.start-merger.ensures.idle

pub merge_all-requires-clause-begun : goal.merge_all-requires-clause-begun
merge_all-requires-clause-begun g c log begins =
    let b = c.requires.begun log begins in
    (b.0, (idle, b.1.0, c.start-merger.ensures.stands b.1.0 log, b.1.1))

pub returns-clause-ran : goal.returns-clause-ran
returns-clause-ran g c core log is stands =
    let t = g.G.Gate in
    ran_as t.Stands t.Adds (λ made after. WorkerDid t.Between Merging log c.args.turns c.merge_all.result c.merge_all.new.merger.place idle core made after)
    (λ made after. MergedDid {L = g.row.L.Denot} t.Between log c.args.turns (done.Merged c.merge_all.result) core made after) core log c.args.gate.now c.merge_all.new.gate (λ made after did. (c.merge_all.new.merger.place, did))
    (c.merge_all.ensures.ran idle core log is (c.start-merger.ensures.stands core log) stands)
