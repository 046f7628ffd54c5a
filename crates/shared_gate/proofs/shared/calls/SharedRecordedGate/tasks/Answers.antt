use Rattle.std.proofs.Common.{sym, subst}
use Rattle.shared_gate.specs.Sharing.{seat_of}
use Rattle.shared_gate.proofs.Doing.{since_of}
use Rattle.shared_gate.proofs.Looking.{look_answered, looked_back, looks}
use Rattle.shared_gate.proofs.Plain.{home_by_turn, lent_by, rests_by_turn, took_by}
use mathlib.Core.List.{IsPrefix}
use Rattle.shared_gate.proofs.shared.calls.SharedRecordedGate.tasks.Goals as goal

pub done-requires-clause-value : goal.done-requires-clause-value
done-requires-clause-value g c =
    let told = g.L.SourceLog.told in let w = c.args.self.now in let t = c.turn-turn in
    let l = lent_by told w.lock.now w.pass w.config.now w.home t.result.value t.ensures.lent.0 t.ensures.lent.1 t.ensures.seen.0 t.ensures.apart w.homed in
    let b = looked_back told (seat_of w.lock.now w.pass w.config.now w.home) t.result.value l in
    (b.standing, λ i. record { world = b.opened i; source = b.source i })

pub done-requires-clause-appended : goal.done-requires-clause-appended
done-requires-clause-appended g c =
    let told = g.L.SourceLog.told in let w = c.args.self.now in let t = c.turn-turn in
    let l = lent_by told w.lock.now w.pass w.config.now w.home t.result.value t.ensures.lent.0 t.ensures.lent.1 t.ensures.seen.0 t.ensures.apart w.homed in
    let b = looked_back told (seat_of w.lock.now w.pass w.config.now w.home) t.result.value l in
    subst (λ es. IsPrefix es t.result.value.events.items) (sym t.ensures.seen.1) b.seen

pub done-requires-clause-rests : goal.done-requires-clause-rests
done-requires-clause-rests g c =
    let told = g.L.SourceLog.told in let w = c.args.self.now in let t = c.turn-turn in
    let l = lent_by told w.lock.now w.pass w.config.now w.home t.result.value t.ensures.lent.0 t.ensures.lent.1 t.ensures.seen.0 t.ensures.apart w.homed in
    let b = looked_back told (seat_of w.lock.now w.pass w.config.now w.home) t.result.value l in
    rests_by_turn told w.lock.now w.pass t.new.pass w.config.now w.home w.home t.result.value t.result.value t.ensures.seen.1 t.ensures.same.0 b

pub invariant_of-self : goal.invariant_of-self
invariant_of-self g c =
    let told = g.L.SourceLog.told in let w = c.args.self.now in let t = c.turn-turn in
    let l = lent_by told w.lock.now w.pass w.config.now w.home t.result.value t.ensures.lent.0 t.ensures.lent.1 t.ensures.seen.0 t.ensures.apart w.homed in
    let b = looked_back told (seat_of w.lock.now w.pass w.config.now w.home) t.result.value l in
    let k = took_by told w.lock.now w.pass t.new.pass c.done.new.pass w.config.now w.home w.home t.result.value t.result.value t.ensures.seen.1 t.ensures.same c.done.ensures.seen c.done.ensures.places c.done.ensures.rises c.done.ensures.same in
    record { of_lock = c.done.ensures.lock; idle = c.done.ensures.idle; homed = home_by_turn told w.lock.now w.pass c.done.new.pass w.config.now w.home w.home t.result.value t.result.value b k; formed = w.formed }

pub returns-clause-later : goal.returns-clause-later
returns-clause-later g c =
    let told = g.L.SourceLog.told in let w = c.args.self.now in let t = c.turn-turn in
    let l = lent_by told w.lock.now w.pass w.config.now w.home t.result.value t.ensures.lent.0 t.ensures.lent.1 t.ensures.seen.0 t.ensures.apart w.homed in
    let b = looked_back told (seat_of w.lock.now w.pass w.config.now w.home) t.result.value l in
    let k = took_by told w.lock.now w.pass t.new.pass c.done.new.pass w.config.now w.home w.home t.result.value t.result.value t.ensures.seen.1 t.ensures.same c.done.ensures.seen c.done.ensures.places c.done.ensures.rises c.done.ensures.same in
    since_of told (seat_of w.lock.now w.pass w.config.now w.home) (seat_of w.lock.now c.done.new.pass w.config.now w.home) w.home t.result.value t.result.value l b k

pub returns-clause-answered : goal.returns-clause-answered
returns-clause-answered g c =
    let told = g.L.SourceLog.told in let w = c.args.self.now in let t = c.turn-turn in
    let l = lent_by told w.lock.now w.pass w.config.now w.home t.result.value t.ensures.lent.0 t.ensures.lent.1 t.ensures.seen.0 t.ensures.apart w.homed in
    let b = looked_back told (seat_of w.lock.now w.pass w.config.now w.home) t.result.value l in
    let k = took_by told w.lock.now w.pass t.new.pass c.done.new.pass w.config.now w.home w.home t.result.value t.result.value t.ensures.seen.1 t.ensures.same c.done.ensures.seen c.done.ensures.places c.done.ensures.rises c.done.ensures.same in
    look_answered told (seat_of w.lock.now w.pass w.config.now w.home) (seat_of w.lock.now c.done.new.pass w.config.now w.home) t.result.value l b k c.args.upto c.tasks-tasks.result c.tasks-tasks.ensures.value

pub returns-clause-step : goal.returns-clause-step
returns-clause-step g c core log s =
    let told = g.L.SourceLog.told in let w = c.args.self.now in let t = c.turn-turn in
    let l = lent_by told w.lock.now w.pass w.config.now w.home t.result.value t.ensures.lent.0 t.ensures.lent.1 t.ensures.seen.0 t.ensures.apart w.homed in
    let b = looked_back told (seat_of w.lock.now w.pass w.config.now w.home) t.result.value l in
    let k = took_by told w.lock.now w.pass t.new.pass c.done.new.pass w.config.now w.home w.home t.result.value t.result.value t.ensures.seen.1 t.ensures.same c.done.ensures.seen c.done.ensures.places c.done.ensures.rises c.done.ensures.same in
    looks told (λ w. seat_of w.lock.now w.pass w.config.now w.home) w _ t.result.value l b k c.args.upto c.tasks-tasks.result c.tasks-tasks.ensures.step core log s
