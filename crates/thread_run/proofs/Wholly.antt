-- Where nothing failed and no limit stands, settling is whole.
use Rattle.std.proofs.Common.{◌≡◌, ◌<◌, length, refl, arith}
use Rattle.std.specs.Prelude.{IsOk, Result, Ok, Err}
use Rattle.std.specs.declared.alloc.AllocError.{AllocError}
use Rattle.meta_store.specs.History.{history}
use Rattle.meta_store.specs.Rows.{rows}
use Rattle.index_world.specs.Core.{Core, last_count}
use Rattle.index_world.specs.Index.{max_entries}
use Rattle.index_world.specs.declared.world_error.WorldError.{WorldError}
use Rattle.index_world.specs.declared.world_error.WorldError.TheVariants as errors
use Rattle.thread_run.specs.Settling.{IsHindered, SettlesBy}
use Rattle.thread_run.specs.declared.settling.Settled.{Settled}
use Rattle.thread_run.specs.declared.settling.Settled.TheVariants as settled

module _ (core after : Core) (same : after.store_faults ≡ core.store_faults) (below : core.store_faults < last_count) (room : length (rows (history after.history)) < 100000) (open_end : length after.history < max_entries) where
  not_hindered : (error : WorldError) → IsHindered error core after → ⊥
  not_hindered (errors.StoreFault low high) h = let past = h.0 in let rose = h.1 in let most = h.2 in omega (arith, past, rose, most, same, below)
  not_hindered errors.Full h = let full = h.1 in omega (arith, full, open_end)
  not_hindered (errors.Expired planned_at now) h = h
  not_hindered (errors.Memory refused) h = h
  not_hindered (errors.Refused refusal) h = h
  not_hindered (errors.Missing key) h = h
  not_hindered (errors.Corrupt key) h = h
  not_hindered (errors.Foreign key) h = h
  not_hindered errors.NoIndex h = h
  not_hindered errors.IndexExists h = h
  not_hindered (errors.BadConfig bad) h = h

  pub is_whole : (result : Result Settled AllocError) → SettlesBy result core after → IsOk result → result ≡ Ok settled.Whole
  is_whole (Ok settled.Whole) s ok = refl
  is_whole (Ok (settled.Refused refusal)) s ok = absurd (let crowded = s.1.0 in omega (arith, crowded, room))
  is_whole (Ok (settled.Fault error)) s ok = absurd (not_hindered error s)
  is_whole (Err refused) s ok = absurd cc
