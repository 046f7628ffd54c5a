-- What a run did and what comes back.
use Rattle.std.specs.Prelude.{◌≡◌, ℕ, false, List}
use Rattle.source_log.specs.Log.{Log}
use Rattle.index_world.specs.Configuration.{config_or, configuration}
use Rattle.index_world.specs.Core.{Core, Nobody}
use Rattle.index_world.specs.World.{GoesFor, WorldStands}
use Rattle.run_plan.specs.declared.clients.Request.{Request}
use Rattle.thread_run.specs.declared.run_end.RunEnd.{RunEnd}
use Rattle.thread_run.specs.declared.run_end.RunOptions.{RunOptions}
use Rattle.thread_run.specs.RunAll.{RunSaid}

-- WHAT A RUN DID from a core on: the index went on, the world that comes back stands for where it led, and where there was memory it said this.
pub record RunDid {S L : Type 0} (options : RunOptions) (log : Log) (firsts : List ℕ) (core : Core) (requests : List Request) (lasts : List ℕ) (end : RunEnd S L) : Type 0 where
  pub exit : Core
  pub goes_on : GoesFor Nobody core exit
  pub stands : WorldStands end.world exit log
  pub said : end.memory ≡ false → RunSaid (config_or (configuration core.history)) log core exit options firsts lasts requests end.replies.items end.ends.items end.settled
