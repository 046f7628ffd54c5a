use Rattle.std.proofs.Common.{sym, subst, arith}
use Rattle.std.specs.Prelude.{Option}
use Rattle.meta_store.specs.declared.planning.PlanRow.{PlanRow}
use Rattle.index_world.specs.Answering.{Answered}
use Rattle.split_merge.proofs.KeptLemmas.{drop_at}
use Rattle.upkeep_run.specs.Ending.{Ends, EndsDeleteAt}
use Rattle.upkeep_run.proofs.Done.{all_done, none_at}
use Rattle.upkeep_run.specs.Corrupting.{CorruptDeleteAt}
use Rattle.upkeep_run.proofs.delete_worker.DeleteWorker.work_on.Goals as goal

pub returns-then-work-len-clause-ends : goal.returns-then-work-len-clause-ends
returns-then-work-len-clause-ends g c =
    let at = drop_at c.args.work.plan.rows c.args.work.next (omega (arith, c.if-work-len.true, c.len.ensures)) in
    subst (λ (o : Option PlanRow). Ends (EndsDeleteAt o (λ (call : Answered). g.G.Gate.Answers c.args.gate.now call c.fetch.new.gate) (g.G.Gate.configured c.args.gate.now) c.args.work (g.G.Gate.told c.args.gate.now) (g.G.Gate.told c.fetch.new.gate)) c.fetch.result c.fetch.new.place) (sym at.1) (c.fetch.ensures.ends at.0 at.1)

pub returns-clause-ends : goal.returns-clause-ends
returns-clause-ends g c =
    subst (λ (o : Option PlanRow). Ends (EndsDeleteAt o (λ (call : Answered). g.G.Gate.Answers c.args.gate.now call c.close.new.gate) (g.G.Gate.configured c.args.gate.now) c.args.work (g.G.Gate.told c.args.gate.now) (g.G.Gate.told c.close.new.gate)) c.close.result c.close.new.self.place)
    (sym (none_at c.args.work.plan.rows c.args.work.next (omega (arith, c.if-work-len.false, c.len.ensures)))) c.close.ensures.ends

pub returns-clause-step : goal.returns-clause-step
returns-clause-step g c = λ core log planned is stands ws i p.
    c.close.ensures.step core log planned is stands ws i p (all_done c.args.work planned ws (omega (arith, c.if-work-len.false, c.len.ensures)))

pub close-requires-clause-begun : goal.close-requires-clause-begun
close-requires-clause-begun g c = λ log begins.
    let given = c.requires.begun log begins in
    (given.0, given.1, given.2, given.3, given.4, all_done c.args.work given.1 given.2 (omega (arith, c.if-work-len.false, c.len.ensures)), given.5)

pub returns-then-work-len-clause-corrupt : goal.returns-then-work-len-clause-corrupt
returns-then-work-len-clause-corrupt g c =
    let at = drop_at c.args.work.plan.rows c.args.work.next (omega (arith, c.if-work-len.true, c.len.ensures)) in
    subst (λ (o : Option PlanRow). CorruptDeleteAt o (λ (call : Answered). g.G.Gate.Answers c.args.gate.now call c.fetch.new.gate) (g.G.Gate.configured c.args.gate.now) c.args.work c.fetch.result) (sym at.1) (c.fetch.ensures.corrupt at.0 at.1)

pub returns-clause-corrupt : goal.returns-clause-corrupt
returns-clause-corrupt g c =
    subst (λ (o : Option PlanRow). CorruptDeleteAt o (λ (call : Answered). g.G.Gate.Answers c.args.gate.now call c.close.new.gate) (g.G.Gate.configured c.args.gate.now) c.args.work c.close.result)
    (sym (none_at c.args.work.plan.rows c.args.work.next (omega (arith, c.if-work-len.false, c.len.ensures)))) c.close.ensures.corrupt
