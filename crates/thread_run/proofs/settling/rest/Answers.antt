use Rattle.std.proofs.Common.{◌≡◌, true, false, sym, ap, ◌∙◌, arith}
use Rattle.std.proofs.lemmas.Result.{err_from_is_err_and}
use Rattle.std.specs.Prelude.{Bool, Result, Ok}
use Rattle.thread_run.specs.Resting.{aim_of, place_of}
use Rattle.thread_run.specs.declared.settling.Stop.{Stop}
use Rattle.thread_run.proofs.Resting.{fills, goes_further, none_yet, rests_here, stops_here, works_for}
use Rattle.thread_run.proofs.settling.rest.Goals as goal

pub loop-turn-init : goal.loop-turn-init
loop-turn-init g c = (c.start-worker.ensures.aim, λ core log is frozen s. none_yet c.args.aim core log (place_of c.start-worker.result) c.args.gate.now.world c.start-worker.ensures.idle frozen s)

pub returns-in_err-went_on : goal.returns-in_err-went_on
returns-in_err-went_on g c = λ core log is frozen s.
    let going = c.loop-turn.invariant.1 core log is frozen s in
    let works = works_for c.args.aim (aim_of c.loop-turn.worker) c.loop-turn.invariant.0 core log c.loop-turn.turn (place_of c.loop-turn.worker) c.loop-turn.gate.world c.step.result (place_of c.step.new.self) c.step.new.gate.world is
    c.step.ensures.step going in
    let p = err_from_is_err_and c.from_residual.result c.from_residual.ensures.1 in
    rw (p.1, p.2)
    (stops_here c.args.aim core log c.loop-turn.turn (place_of c.loop-turn.worker) c.loop-turn.gate.world going c.step.result (place_of c.step.new.self) c.step.new.gate.world works c.in_err-went_on.field-0.0
    (sym c.went_on.ensures ∙ c.in_err-went_on.was) c.step.ensures.counted)

pub returns-then-not-branch : goal.returns-then-not-branch
returns-then-not-branch g c = λ core log is frozen s.
    let going = c.loop-turn.invariant.1 core log is frozen s in
    let works = works_for c.args.aim (aim_of c.loop-turn.worker) c.loop-turn.invariant.0 core log c.loop-turn.turn (place_of c.loop-turn.worker) c.loop-turn.gate.world c.step.result (place_of c.step.new.self) c.step.new.gate.world is
    c.step.ensures.step going in
    let none : ◌≡◌ {A = Result Bool Stop} (Ok c.in_ok-went_on.field-0) (Ok false) = ap (λ b. Ok b) c.if-not-branch.true in
    rests_here c.args.aim core log c.loop-turn.turn (place_of c.loop-turn.worker) c.loop-turn.gate.world going c.step.result (place_of c.step.new.self) c.step.new.gate.world works
    (sym c.went_on.ensures ∙ c.in_ok-went_on.was ∙ none)

pub loop-turn-preserved : goal.loop-turn-preserved
loop-turn-preserved g c = (
  c.step.ensures.aim ∙ c.loop-turn.invariant.0,
  λ core log is frozen s.
      let going = c.loop-turn.invariant.1 core log is frozen s in
      let works = works_for c.args.aim (aim_of c.loop-turn.worker) c.loop-turn.invariant.0 core log c.loop-turn.turn (place_of c.loop-turn.worker) c.loop-turn.gate.world c.step.result (place_of c.step.new.self) c.step.new.gate.world is
      c.step.ensures.step going in
      let some : ◌≡◌ {A = Result Bool Stop} (Ok c.in_ok-went_on.field-0) (Ok true) = ap (λ b. Ok b) c.if-not-branch.false in
      goes_further c.args.aim core log c.loop-turn.turn (place_of c.loop-turn.worker) c.loop-turn.gate.world going c.step.result (place_of c.step.new.self) c.step.new.gate.world works
      (sym c.went_on.ensures ∙ c.in_ok-went_on.was ∙ some),
)

pub returns : goal.returns
returns g c = λ core log is frozen s.
    fills c.args.aim core log c.loop-turn.turn (place_of c.loop-turn.worker) c.loop-turn.gate.world (omega arith) (c.loop-turn.invariant.1 core log is frozen s)
