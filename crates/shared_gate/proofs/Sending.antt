-- A recorded world, and one of many that share it, may go to another thread.
use denote.RattleType.{RattleType}
use denote.Param.Send.{IsSend, sendable, view_send}
use denote.Param.SendFields.{declared_send, variants_send}
use Rattle.std.proofs.Crossing.{crosses}
use Rattle.std.proofs.alloc.Global.TheSendSync as heap
use Rattle.doc_value.proofs.items.List.TheSendSync as items
use Rattle.doc_value.proofs.text.Text.TheSendSync as text
use Rattle.doc_value.proofs.facts.TimeRange.TheSendSync as times
use Rattle.query_ast.proofs.query.Edge.TheSendSync as edge
use Rattle.query_ast.proofs.query.Item.TheSendSync as item
use Rattle.query_ast.proofs.query.Query.TheLaws.TheKnot as knot
use Rattle.query_ast.specs.contracts.query.Query as Query
use Rattle.delete_tasks.specs.contracts.task.Task as Task
use Rattle.delete_tasks.specs.contracts.tasks.Tasks as Tasks
use Rattle.source_checkpoint.proofs.delta.Part.TheSendSync as part
use Rattle.source_checkpoint.proofs.ledger.Ledger.TheSendSync as ledger
use Rattle.source_checkpoint.proofs.span.Span.TheSendSync as span
use Rattle.split_states.proofs.rows.Rows.TheSendSync as rows
use Rattle.meta_store.proofs.config.Config.TheSendSync as config
use Rattle.meta_store.proofs.config.TaskAsk.TheSendSync as ask
use Rattle.meta_store.specs.contracts.meta.Meta as Meta
use Rattle.meta_journal.proofs.journal.Journal.TheSendSync as journal
use Rattle.index_world.proofs.doom_list.Doomed.TheSendSync as doomed
use Rattle.index_world.proofs.marking.Marking.TheSendSync as marking
use Rattle.index_world.specs.contracts.life.Life as Life
use Rattle.index_world.specs.contracts.world.World as World
use Rattle.index_world.specs.contracts.world.World.TheInside as inside
use Rattle.object_store.specs.declared.store.ObjectStore as store
use Rattle.clock_time.specs.declared.clock.Clock as clock
use Rattle.clock_time.specs.contracts.clock.ScriptClock as Script
use Rattle.clock_time.specs.contracts.clock.ScriptClockClock.TheImpl as script_clock
use Rattle.clock_time.proofs.clock.ScriptClock.TheSendSync as script
use Rattle.shared_gate.specs.contracts.call.Call as Call
use Rattle.shared_gate.specs.contracts.recorded.Event as Event
use Rattle.shared_gate.specs.contracts.recorded.Recorded as Recorded

-- ---- the state of an index, from the queries of its tasks on

query_send : IsSend (Query.the_field).row
query_send = search (sendable, crosses, knot.send-Query, items.the_send, text.the_send, edge.the_field_send, item.the_send)

task_send : IsSend Task.the_row
task_send = search (sendable, crosses, query_send, times.the_field_send) depth 20

tasks_send : IsSend Tasks.the_row
tasks_send = search (sendable, crosses, task_send) depth 20

meta_send : IsSend Meta.the_row
meta_send = search (sendable, crosses, heap.the_field_send, config.the_send, tasks_send, ask.the_send, ledger.the_send, rows.the_send, part.the_send, span.the_send) depth 20

life_send : IsSend Life.the_row
life_send = search (sendable, crosses, journal.the_send, meta_send, marking.the_send, doomed.the_field_send) depth 20

-- ---- a world, where its store and its clock may go

module _ (S C : RattleType) (s : store.Ghosts S.Denot) (c : clock.Ghosts C.Denot) (store_send : IsSend S) (clock_send : IsSend C) where
  fields_send : IsSend (inside.the_row S C s c)
  fields_send = declared_send (inside.the_type S C s c) (search (sendable, store_send) depth 10, (search (sendable, life_send) depth 10, (search (sendable, clock_send) depth 10, (search sendable depth 10, tt))))

  pub world_send : IsSend (World.the_row S C s c)
  world_send = view_send _ _ _ _ _ fields_send

-- ---- a recorded one: an event has snapshots, which own nothing

call_send : IsSend Call.the_row
call_send = variants_send Call.enum (
  tt,
  (
    tt,
    (
      (search (sendable, crosses), (search (sendable, crosses), (search sendable depth 10, tt))),
      (
        (search sendable, tt),
        (
          (search sendable, tt),
          (
            (search sendable, (search (sendable, crosses), (search sendable, tt))),
            (
              (search sendable, (search sendable, tt)),
              (
                (search (sendable, crosses), tt),
                (
                  (search (sendable, crosses), tt),
                  ((search sendable, (search sendable, (search sendable, tt))), (tt, (tt, (tt, ((search (sendable, crosses) depth 10, (search (sendable, crosses) depth 10, tt)), ((search sendable, tt), tt)))))),
                ),
              ),
            ),
          ),
        ),
      ),
    ),
  ),
)

event_send : (S : RattleType) (s : store.Ghosts S.Denot) → IsSend (Event.the_row S s)
event_send S s = declared_send (Event.the_type S s) (call_send, (search sendable, (search (sendable, crosses), tt)))

module _ (S K L : RattleType) (s : store.Ghosts S.Denot) (store_send : IsSend S) (clock_send : IsSend K) where
  pub recorded_send : IsSend (Recorded.the_row S K L s)
  recorded_send = declared_send (Recorded.the_type S K L s)
      (world_send S Script.the_row s script_clock.ghosts store_send script.the_send, (search (sendable, clock_send) depth 10, (search (sendable, crosses, event_send) depth 10, (search (sendable, crosses) depth 10, (search (sendable, crosses) depth 10, tt)))))
