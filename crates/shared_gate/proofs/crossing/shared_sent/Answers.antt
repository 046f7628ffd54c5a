use denote.Exit.{no}
use denote.Param.Send.{arg_send, param_send}
use Rattle.shared_gate.proofs.Sending.{recorded_send}
use Rattle.shared_gate.proofs.shared.Shared.TheSendSync as shared
use Rattle.shared_gate.specs.contracts.recorded.Event as Event
use Rattle.shared_gate.specs.contracts.recorded.Opening as Opening
use Rattle.shared_gate.specs.contracts.recorded.Recorded as Recorded
use Rattle.shared_gate.specs.contracts.recorded.RecordedHasHistory.TheImpl.{ghosts}
use Rattle.shared_gate.specs.contracts.shared.Shared as Shared
use Rattle.shared_gate.specs.contracts.crossing.shared_sent.{R-row, S-row, K-row, L-row}
use Rattle.shared_gate.proofs.crossing.shared_sent.Lts.{arg-0-0}
use Rattle.shared_gate.proofs.crossing.shared_sent.Goals as goal

pub sent-requires-send-T : goal.sent-requires-send-T
sent-requires-send-T g c κs within =
    let R = R-row g.row.R g.row.S g.row.K g.row.L in let S = S-row g.row.R g.row.S g.row.K g.row.L in let K = K-row g.row.R g.row.S g.row.K g.row.L in let L = L-row g.row.R g.row.S g.row.K g.row.L in
    let s = g.S.ObjectStore in
    let h = ghosts g.row.S g.row.K g.row.L s g.S.ObjectStore-dict g.K.Clock g.K.Clock-dict g.L.SourceLog g.L.SourceLog-dict g.K.Destruct-dict g.L.Destruct-dict in
    param_send 0 (arg-0-0 g.row.R g.row.S g.row.K g.row.L g.R.laws g.S.laws g.K.laws g.L.laws s g.S.ObjectStore-dict g.K.Clock g.K.Clock-dict g.L.SourceLog g.L.SourceLog-dict g.K.Destruct-dict g.L.Destruct-dict κs)
    (arg_send _ no (Shared.the_row _ R (Recorded.the_row S K L s) (Opening.the_row S L s) (Event.the_row S s) h)
    (shared.the_send _ R (Recorded.the_row S K L s) (Opening.the_row S L s) (Event.the_row S s) h (recorded_send S K L s c.type_bounds.send-S c.type_bounds.send-K) c.type_bounds.sync-R))
