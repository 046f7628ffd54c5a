use denote.Exit.{no}
use denote.Param.Send.{arg_send, param_send}
use Rattle.shared_gate.proofs.Sending.{recorded_send}
use Rattle.shared_gate.specs.contracts.recorded.Recorded as Recorded
use Rattle.shared_gate.specs.contracts.crossing.recorded_sent.{S-row, K-row, L-row}
use Rattle.shared_gate.proofs.crossing.recorded_sent.Lts.{arg-0-0}
use Rattle.shared_gate.proofs.crossing.recorded_sent.Goals as goal

pub sent-requires-send-T : goal.sent-requires-send-T
sent-requires-send-T g c κs within =
    param_send 0 (arg-0-0 g.row.S g.row.K g.row.L g.S.laws g.K.laws g.L.laws g.S.ObjectStore g.S.ObjectStore-dict g.K.Clock g.K.Clock-dict g.L.SourceLog g.L.SourceLog-dict g.K.Destruct-dict g.L.Destruct-dict κs)
    (arg_send _ no (Recorded.the_row (S-row g.row.S g.row.K g.row.L) (K-row g.row.S g.row.K g.row.L) (L-row g.row.S g.row.K g.row.L) g.S.ObjectStore) (recorded_send (S-row g.row.S g.row.K g.row.L) (K-row g.row.S g.row.K g.row.L) (L-row g.row.S g.row.K g.row.L) g.S.ObjectStore c.type_bounds.send-S c.type_bounds.send-K))
