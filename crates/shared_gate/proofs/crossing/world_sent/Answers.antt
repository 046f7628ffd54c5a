use denote.Exit.{yes}
use denote.Param.Send.{arg_send, param_send}
use Rattle.clock_time.specs.contracts.clock.ScriptClock as Script
use Rattle.clock_time.specs.contracts.clock.ScriptClockClock.TheImpl.{ghosts}
use Rattle.clock_time.proofs.clock.ScriptClock.TheSendSync as script
use Rattle.index_world.specs.contracts.world.World as World
use Rattle.shared_gate.proofs.Sending.{world_send}
use Rattle.shared_gate.specs.contracts.crossing.world_sent.{S-row}
use Rattle.shared_gate.proofs.crossing.world_sent.Lts.{arg-0-0}
use Rattle.shared_gate.proofs.crossing.world_sent.Goals as goal

pub sent-requires-send-T : goal.sent-requires-send-T
sent-requires-send-T g c κs within =
    param_send 0 (arg-0-0 g.row.S g.S.laws g.S.ObjectStore g.S.ObjectStore-dict κs)
    (arg_send _ yes (World.the_row (S-row g.row.S) Script.the_row g.S.ObjectStore ghosts) (world_send (S-row g.row.S) Script.the_row g.S.ObjectStore ghosts c.type_bounds.send-S script.the_send))
