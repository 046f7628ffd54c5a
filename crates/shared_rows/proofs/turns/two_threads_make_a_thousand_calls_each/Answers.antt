use denote.Param.Send.{sendable}
use Rattle.std.proofs.Crossing.{crosses}
use Rattle.turn_lock.proofs.lock.Pass.TheSendSync as pass
use Rattle.turn_lock.proofs.lock.TurnLock.TheSendSync as lock
use Rattle.index_config.proofs.config.IndexConfig.TheSendSync as config
use Rattle.shared_rows.proofs.Sending.{kept_send}
use Rattle.shared_rows.proofs.turns.two_threads_make_a_thousand_calls_each.Goals as goal

pub join-first-requires-send-F : goal.join-first-requires-send-F
join-first-requires-send-F g c κs within = search (sendable, crosses, kept_send, pass.the_send, lock.the_sync, config.the_sync) depth 30

pub join-first-requires-send-A : goal.join-first-requires-send-A
join-first-requires-send-A g c κs within = search (sendable, crosses, kept_send, pass.the_send) depth 30
