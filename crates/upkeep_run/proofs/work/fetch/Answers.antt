use Rattle.std.proofs.Common.{◌∙◌, ℕ, List, sym, refl, subst, Ok, Err}
use Rattle.index_world.specs.Answering.{Answered}
use Rattle.meta_store.specs.declared.planning.PlanRow.{PlanRow}
use Rattle.split_bundle.specs.Splits.{IsSplit}
use Rattle.split_merge.proofs.KeptLemmas.{drop_at}
use Rattle.upkeep_run.specs.Ending.{EndsFetch, JudgesFile}
use Rattle.upkeep_run.specs.declared.outcome.UpkeepOutcome.{UpkeepOutcome as Said}
use Rattle.upkeep_run.proofs.Corrupted.{fetch_fault}
use Rattle.upkeep_run.proofs.Ended.{ends_by, ends_where}
use Rattle.upkeep_run.proofs.Fetched.{docs_known, fetch_fails, fetch_takes, fetched_whole, known, known_is, next, weight_known}
use Rattle.upkeep_run.proofs.Holding.{idle_owns, none_owns}
use Rattle.upkeep_run.proofs.work.fetch.Goals as goal

pub returns-in-Ok-clause-step : goal.returns-in-Ok-clause-step
returns-in-Ok-clause-step g c = λ aim core log planned stands ws i p.
    let at = drop_at c.args.work.plan.rows c.args.work.next c.requires.next in
    let d = c.in-Ok.ensures.step core log planned.config at.0 stands i.configured at.1 in
    let n = next core log c.args.work planned at.0 ws i at.1 in
    let is_file = fetched_whole core log c.args.work planned at.0 ws i at.1 g.G.Gate.Stands g.G.Gate.Between g.G.Gate.Owns g.G.Gate.Adds aim c.args.gate.now c.fetch.new.self g.met.G.Gate.between_goes (λ after there. g.met.G.Gate.is_sound c.fetch.new.self after log there) (Ok c.in-Ok.piece) p d c.in-Ok.piece refl in
    fetch_takes core log c.args.work planned at.0 ws i at.1 g.G.Gate.Stands g.G.Gate.Between g.G.Gate.Owns g.G.Gate.Adds aim c.args.gate.now c.fetch.new.self g.met.G.Gate.between_goes (λ after there. g.met.G.Gate.is_sound c.fetch.new.self after log there) (Ok c.in-Ok.piece) p d c.in-Ok.piece refl c.taken.new.place c.taken.result
    (c.taken.ensures.takes at.0 (known core log c.args.work planned at.0 ws i at.1) planned.config.schema n.documents at.1 (known_is core log c.args.work planned at.0 ws i at.1)
    (subst (λ (bs : List ℕ). IsSplit planned.config.schema bs n.documents) (sym is_file) n.known.split.stands)
    (docs_known core log c.args.work planned at.0 ws i at.1) (weight_known core log c.args.work planned at.0 ws i at.1))

pub returns-in-Err-clause-step : goal.returns-in-Err-clause-step
returns-in-Err-clause-step g c = λ aim core log planned stands ws i p.
    let at = drop_at c.args.work.plan.rows c.args.work.next c.requires.next in
    let d = c.in-Err.ensures.step core log planned.config at.0 stands i.configured at.1 in
    fetch_fails core log c.args.work planned at.0 ws i at.1 g.G.Gate.Stands g.G.Gate.Between g.G.Gate.Owns g.G.Gate.Adds aim c.args.gate.now c.fetch.new.self g.met.G.Gate.between_goes (λ after there. g.met.G.Gate.is_sound c.fetch.new.self after log there)
    (Err c.in-Err.error) p d c.args.place.now c.in-Err.error c.faulted.result refl c.requires.place c.faulted.ensures.trouble

pub returns-in-Ok-clause-owns : goal.returns-in-Ok-clause-owns
returns-in-Ok-clause-owns g c = none_owns g.G.Gate.Owns c.fetch.new.self c.taken.new.place c.taken.ensures.none

pub returns-in-Err-clause-owns : goal.returns-in-Err-clause-owns
returns-in-Err-clause-owns g c = idle_owns g.G.Gate.Owns c.fetch.new.self c.args.place.now c.requires.place

pub returns-in-Ok-clause-ends : goal.returns-in-Ok-clause-ends
returns-in-Ok-clause-ends g c = λ (row : PlanRow) there.
    ends_where (JudgesFile row c.args.work c.in-Ok.piece.bytes) (EndsFetch row (λ (call : Answered). g.G.Gate.Answers c.args.gate.now call c.fetch.new.self) c.args.work (g.G.Gate.told c.args.gate.now) (g.G.Gate.told c.fetch.new.self)) c.taken.result c.taken.new.place
    (λ (outcome : Said) says. (Ok c.in-Ok.piece, c.in-Ok.ensures.kinds row there, c.in-Ok.ensures.answers row there, c.in-Ok.ensures.answered row there, says)) (c.taken.ensures.ends row there)

pub returns-in-Err-clause-ends : goal.returns-in-Err-clause-ends
returns-in-Err-clause-ends g c = λ (row : PlanRow) there.
    ends_by (EndsFetch row (λ (call : Answered). g.G.Gate.Answers c.args.gate.now call c.fetch.new.self) c.args.work (g.G.Gate.told c.args.gate.now) (g.G.Gate.told c.fetch.new.self)) c.faulted.result c.args.place.now c.requires.place
    (λ (outcome : Said) e. (Err c.in-Err.error, c.in-Err.ensures.kinds row there, c.in-Err.ensures.answers row there, c.in-Err.ensures.answered row there, (sym c.faulted.ensures.exact ∙ e, c.requires.place)))

pub returns-in-Ok-clause-corrupt : goal.returns-in-Ok-clause-corrupt
returns-in-Ok-clause-corrupt g c = λ (row : PlanRow) there. (Ok c.in-Ok.piece, c.in-Ok.ensures.answered row there, c.taken.ensures.corrupt row there)

pub returns-in-Err-clause-corrupt : goal.returns-in-Err-clause-corrupt
returns-in-Err-clause-corrupt g c = λ (row : PlanRow) there. (Err c.in-Err.error, c.in-Err.ensures.answered row there, fetch_fault row c.in-Err.error c.faulted.result c.faulted.ensures.exact)
