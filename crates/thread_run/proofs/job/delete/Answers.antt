use Rattle.std.proofs.Common.{◌≡◌}
use Rattle.index_world.proofs.Ran.{ran_as}
use Rattle.upkeep_run.specs.Places.{idle}
use Rattle.upkeep_run.specs.WorkAll.{WorkerDid}
use Rattle.upkeep_run.specs.declared.work.Aim.TheVariants.{Deleting}
use Rattle.upkeep_run.proofs.Holding.{idle_owns}
use Rattle.thread_run.specs.Jobs.{DeletedDid}
use Rattle.thread_run.specs.declared.job.Done.TheVariants as done
use Rattle.thread_run.proofs.job.delete.Goals as goal

pub delete_all-requires-clause-owns : goal.delete_all-requires-clause-owns
delete_all-requires-clause-owns g c = idle_owns g.G.Gate.Owns c.args.gate.now c.start-worker.result.place c.start-worker.ensures.idle

pub delete_all-requires-clause-begun : goal.delete_all-requires-clause-begun
delete_all-requires-clause-begun g c log begins =
    let b = c.requires.begun log begins in
    (b.0, (idle, b.1.0, c.start-worker.ensures.stands b.1.0 log, b.1.1))

pub returns-clause-ran : goal.returns-clause-ran
returns-clause-ran g c core log is stands =
    let t = g.G.Gate in
    ran_as t.Stands t.Adds (λ made after. WorkerDid t.Between Deleting log c.args.turns c.delete_all.result c.delete_all.new.worker.place idle core made after)
    (λ made after. DeletedDid {L = g.row.L.Denot} t.Between log c.args.turns (done.Deleted c.delete_all.result) core made after) core log c.args.gate.now c.delete_all.new.gate (λ made after did. (c.delete_all.new.worker.place, did))
    (c.delete_all.ensures.ran idle core log is (c.start-worker.ensures.stands core log) stands)
