use Rattle.std.proofs.Common.{◌≡◌, ◌⊎◌, inl, inr, true, arith}
use Rattle.std.proofs.lemmas.Result.{err_from_is_err_and}
use Rattle.thread_run.proofs.RestAll.{both_rest, deleting_stops, merging_stops, no_round, round_more, rounds_fill}
use Rattle.thread_run.proofs.settling.rest_all.Goals as goal
use Rattle.thread_run.proofs.settling.rest_all.Goals.{else-not-deleted-via-then-not-deleted+else-not-merged, else-not-deleted-via-else-not-deleted}

pub loop-init : goal.loop-init
loop-init g c = λ core log is frozen s. no_round core log c.args.gate.now.world frozen s

pub returns-in_err-deleted : goal.returns-in_err-deleted
returns-in_err-deleted g c = λ core log is frozen s.
    let r = c.loop.invariant core log is frozen s in
    let p = err_from_is_err_and c.from_residual.result c.from_residual.ensures.1 in
    rw (p.1, p.2)
    (deleting_stops core log c.loop.counter c.loop.gate.world r c.in_err-deleted.field-0.0 c.rest.new.gate.world (c.in_err-deleted.ensures r.core log is r.unasked.frozen r.stands))

pub returns-in_err-merged : goal.returns-in_err-merged
returns-in_err-merged g c = λ core log is frozen s.
    let r = c.loop.invariant core log is frozen s in
    let d = c.in_ok-deleted.ensures r.core log is r.unasked.frozen r.stands in
    let p = err_from_is_err_and c.from_residual-in_err-merged.result c.from_residual-in_err-merged.ensures.1 in
    rw (p.1, p.2)
    (merging_stops core log c.loop.counter c.loop.gate.world r c.rest.new.gate.world c.in_ok-deleted.deleted d c.in_err-merged.field-0.0 c.rest-in-loop.new.gate.world
    (c.in_err-merged.ensures d.after log is d.unasked.frozen d.stands))

pub returns-then-not-merged : goal.returns-then-not-merged
returns-then-not-merged g c = λ core log is frozen s.
    let r = c.loop.invariant core log is frozen s in
    let d = c.in_ok-deleted.ensures r.core log is r.unasked.frozen r.stands in
    both_rest core log c.loop.counter c.loop.gate.world r c.rest.new.gate.world c.in_ok-deleted.deleted d c.rest-in-loop.new.gate.world c.in_ok-merged.merged
    (c.in_ok-merged.ensures d.after log is d.unasked.frozen d.stands) c.if-not-deleted.true c.if-not-merged.true

pub loop-preserved : goal.loop-preserved
loop-preserved g c = λ core log is frozen s.
    let r = c.loop.invariant core log is frozen s in
    let d = c.in_ok-deleted.ensures r.core log is r.unasked.frozen r.stands in
    let some : (c.in_ok-deleted.deleted ≡ true) ⊎ (c.in_ok-merged.merged ≡ true) =
    elim c.else-not-deleted.branch [ else-not-deleted-via-then-not-deleted+else-not-merged w ↦ inr w.if-not-merged.false | else-not-deleted-via-else-not-deleted w ↦ inl w.if-not-deleted.false ] in
    round_more core log c.loop.counter c.loop.gate.world r c.rest.new.gate.world c.in_ok-deleted.deleted d c.rest-in-loop.new.gate.world c.in_ok-merged.merged
    (c.in_ok-merged.ensures d.after log is d.unasked.frozen d.stands) some

pub returns : goal.returns
returns g c = λ core log is frozen s.
    rounds_fill core log c.loop.counter c.loop.gate.world (c.loop.invariant core log is frozen s) (omega arith)
