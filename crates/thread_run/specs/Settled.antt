-- A run, and settling behind it.
use Rattle.std.specs.Prelude.{◌≡◌, Bool, true, false, Option, Some, None, Result, Ok, Err}
use Rattle.std.specs.declared.alloc.AllocError.{AllocError}
use Rattle.source_log.specs.Log.{IsLog, Log}
use Rattle.index_world.specs.Core.{Core}
use Rattle.index_world.specs.World.{WorldStands}
use Rattle.thread_run.specs.Settling.{Settles}
use Rattle.thread_run.specs.declared.settling.Settled.{Settled}
use Rattle.thread_run.specs.declared.run_end.RunEnd.{RunEnd}

-- what settling came to is told, and whether there was no memory
abbrev pub TellsSettled : Result Settled AllocError → Option Settled → (memory : Bool) → Type 0
TellsSettled (Ok settled) told memory = (told ≡ Some settled) × (memory ≡ false)
TellsSettled (Err short) told memory = memory ≡ true

-- The world was settled, and all else is as it was.
pub record WasSettled {S L : Type 0} (end last : RunEnd S L) : Type 0 where
  pub result : Result Settled AllocError
  pub settles : (core : Core) (log : Log) → IsLog log → WorldStands end.world core log → Settles result core log last.world
  pub told : TellsSettled result last.settled last.memory
  pub logs : last.logs ≡ end.logs
  pub replies : last.replies ≡ end.replies
  pub ends : last.ends ≡ end.ends

-- where there was no memory before, nothing is settled
pub record HasSettled {S L : Type 0} (end last : RunEnd S L) : Type 0 where
  pub short : end.memory ≡ true → last ≡ end
  pub settled : end.memory ≡ false → WasSettled end last
