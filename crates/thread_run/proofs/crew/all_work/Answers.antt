use denote.Exit.{no}
use denote.Param.Send.{arg_send, param_send, sendable}
use Rattle.std.proofs.Common.{rules}
use Rattle.std.proofs.Crossing.{crosses}
use Rattle.shared_gate.proofs.Sending.{recorded_send}
use Rattle.shared_gate.specs.contracts.recorded.Event as Event
use Rattle.shared_gate.specs.contracts.recorded.Opening as Opening
use Rattle.shared_gate.specs.contracts.recorded.Recorded as Recorded
use Rattle.shared_gate.specs.contracts.recorded.RecordedHasHistory.TheImpl.{ghosts}
use Rattle.thread_run.specs.contracts.actor.Actor as Actor
use Rattle.thread_run.specs.contracts.crew.all_work.{R-row, S-row, K-row, M-row, L-row}
use Rattle.thread_run.proofs.actor.Actor.TheSendSync as actor
use Rattle.thread_run.proofs.crew.all_work.Lts.{arg-1-1}
use Rattle.thread_run.proofs.Together.{all_each, each_changed}
use Rattle.thread_run.proofs.crew.all_work.Goals as goal

pub returns : goal.returns
returns g c = each_changed _ _ _ c.args.actors.now c.for_each_mut.new.s c.for_each_mut.auto.s c.for_each_mut.ensures (λ i p q post. post)

pub for_each_mut-requires-clause-accepts : goal.for_each_mut-requires-clause-accepts
for_each_mut-requires-clause-accepts g c κs within = λ i p less is. (all_each _ c.args.actors.now i p.now c.requires less is, search (rules, sendable) depth 20)

pub for_each_mut-requires-send-T : goal.for_each_mut-requires-send-T
for_each_mut-requires-send-T g c κs within =
    let R = R-row g.row.R g.row.S g.row.K g.row.M g.row.L g.row.H in let S = S-row g.row.R g.row.S g.row.K g.row.M g.row.L g.row.H in let K = K-row g.row.R g.row.S g.row.K g.row.M g.row.L g.row.H in
    let M = M-row g.row.R g.row.S g.row.K g.row.M g.row.L g.row.H in let L = L-row g.row.R g.row.S g.row.K g.row.M g.row.L g.row.H in
    let s = g.S.ObjectStore in
    let h = ghosts g.row.S g.row.K g.row.M s g.S.ObjectStore-dict g.K.Clock g.K.Clock-dict g.M.SourceLog g.M.SourceLog-dict g.K.Destruct-dict g.M.Destruct-dict in
    let v = recorded_send S K M s c.type_bounds.send-S c.type_bounds.send-K in
    param_send 1 (arg-1-1 g.row.R g.row.S g.row.K g.row.M g.row.L g.row.H g.R.laws g.S.laws g.K.laws g.M.laws g.L.laws g.H.laws g.R.Threads g.R.Threads-dict g.R.Wait g.R.Wait-dict g.S.ObjectStore g.S.ObjectStore-dict g.K.Clock g.K.Clock-dict g.M.SourceLog g.M.SourceLog-dict g.L.SourceLog g.L.SourceLog-dict g.H.LeafHold g.H.LeafHold-dict g.K.Destruct-dict g.M.Destruct-dict g.L.Destruct-dict κs)
    (arg_send _ no (Actor.the_row _ R (Recorded.the_row S K M s) L (Opening.the_row S M s) (Event.the_row S s) h)
    (search (sendable, crosses, actor.the_send, v, c.type_bounds.send-L, c.type_bounds.sync-R) depth 20))
