-- What a run writes of what it says, before the last line.
use Rattle.std.specs.Prelude.{◌≡◌, ◌⊎◌, ℕ, List, [], ◌++◌, map, Option, Some, None, IsSome, Result, Ok, Err, ⊤}
use Rattle.std.specs.List.{AllByRecursion}
use Rattle.byte_fields.specs.Causes.{Rose}
use Rattle.index_config.specs.declared.config.IndexConfig.{IndexConfig}
use Rattle.object_store.specs.Store.{State}
use Rattle.source_log.specs.Log.{Log}
use Rattle.index_world.specs.Core.{Core, IsConfigured, Nobody}
use Rattle.index_world.specs.World.{GoesFor, IsWorld}
use Rattle.run_plan.specs.declared.clients.Request.{Request}
use Rattle.thread_run.specs.declared.run_end.RunOptions.{RunOptions}
use Rattle.thread_run.specs.EndLines.{end_text}
use Rattle.quick_node.specs.Ending.{ended_status}
use Rattle.quick_node.specs.Runs.{RunSays, Said, said_text}
use Rattle.quick_node.specs.Serve.{IsPrefixOf}
use Rattle.quick_node.specs.declared.error_line.End.{End as Ended}
use Rattle.quick_node.specs.declared.error_line.End.TheVariants as ended
use Rattle.input_lines.specs.declared.requests.ReadEnd.{ReadEnd}
use Rattle.input_lines.specs.declared.requests.ReadEnd.TheVariants as reads
use Rattle.quick_node.specs.declared.saying.Unsaid.{Unsaid}
use Rattle.quick_node.specs.declared.saying.Unsaid.TheVariants as unsaid

-- ---- lines

-- why a line was not written, by the count of faults of the sink
abbrev pub IsUnsaid : (before after : ℕ) → Unsaid → Type 0
IsUnsaid before after unsaid.Memory = ⊤
IsUnsaid before after unsaid.Fault = Rose before after

-- a text was written, or a front of it
abbrev pub WroteSo : (text said : List ℕ) → Result (Unit {0}) Unsaid → Type 0
WroteSo text said (Ok done) = text ≡ said
WroteSo text said (Err why) = IsPrefixOf text said

-- ---- a run

-- how the saying of a run may end, by the count of faults of the sink
abbrev pub EndsSaying : (before after : ℕ) → Ended → Type 0
EndsSaying before after ended.Done = ⊤
EndsSaying before after ended.BadWords = ⊥
EndsSaying before after (ended.BadLine number) = ⊥
EndsSaying before after ended.ClientsOver = ⊥
EndsSaying before after ended.LineOver = ⊥
EndsSaying before after ended.InputOver = ⊥
EndsSaying before after ended.RequestsOver = ⊥
EndsSaying before after ended.ConfigOver = ⊥
EndsSaying before after (ended.NotOpened error) = ⊥
EndsSaying before after (ended.NotMade error) = ⊥
EndsSaying before after ended.ReadFault = ⊥
EndsSaying before after ended.WriteFault = Rose before after
EndsSaying before after ended.Memory = ⊤

-- all of it was written, and no end is want of memory; or a front of it
abbrev pub SaysUpTo : Said → (text : List ℕ) → Ended → Type 0
SaysUpTo said text ended.Done = AllByRecursion (λ end. IsSome (end_text end)) said.ends × (text ≡ said_text said)
SaysUpTo said text ended.BadWords = ⊥
SaysUpTo said text (ended.BadLine number) = ⊥
SaysUpTo said text ended.ClientsOver = ⊥
SaysUpTo said text ended.LineOver = ⊥
SaysUpTo said text ended.InputOver = ⊥
SaysUpTo said text ended.RequestsOver = ⊥
SaysUpTo said text ended.ConfigOver = ⊥
SaysUpTo said text (ended.NotOpened error) = ⊥
SaysUpTo said text (ended.NotMade error) = ⊥
SaysUpTo said text ended.ReadFault = ⊥
SaysUpTo said text ended.WriteFault = IsPrefixOf text (said_text said)
SaysUpTo said text ended.Memory = IsPrefixOf text (said_text said)

-- The run said this, of which so much was written; or there was no memory, and nothing was.
abbrev pub SaysSome : (Ran : Said → Type 0) → (text : List ℕ) → Ended → Type 0
SaysSome Ran text end = ((end ≡ ended.Memory) × (text ≡ [])) ⊎ ((said : Said) × Ran said × SaysUpTo said text end)

-- A run was made from a core on, of an index over this log, by these requests. It led to that core, for which the store stands that it gives back; and
-- of what it said that much was written behind what was held.
pub record RunsOn (options : RunOptions) (log : Log) (firsts lasts : List ℕ) (core : Core) (requests : List Request) (told : Option State) (count : ℕ)
    (held : List ℕ) (content : Option (List ℕ)) (end : Ended) : Type 0 where
  pub exit : Core
  pub goes_on : GoesFor Nobody core exit
  pub kept : State
  pub tells : told ≡ Some kept
  pub world : IsWorld kept exit log
  pub faults : count ≡ exit.store_faults
  pub text : List ℕ
  pub written : content ≡ Some (held ++ text)
  pub says : SaysSome (λ said. (config : IndexConfig) × IsConfigured config core × RunSays config log core exit options firsts lasts requests said) text end

-- the same, and then the last line of that end, which is nothing
pub record RanOn (options : RunOptions) (log : Log) (firsts lasts : List ℕ) (core : Core) (requests : List Request) (told : Option State) (count : ℕ)
    (held : List ℕ) (content : Option (List ℕ)) (before after status : ℕ) : Type 0 where
  pub end : Ended
  pub ran : RunsOn options log firsts lasts core requests told count held content end
  pub rose : end ≡ ended.WriteFault → Rose before after
  pub status_is : (status ≡ ended_status end) ⊎ (status ≡ 11)

-- by all ends it is 0, 6 with a cause, or 11
abbrev pub SaidAlone : (before after status : ℕ) → Type 0
SaidAlone before after status = (status ≡ 0) ⊎ ((status ≡ 6) × Rose before after ⊎ (status ≡ 11))

-- ---- a reading that was not whole

abbrev pub end_of : ReadEnd → Option Ended
end_of reads.Whole = None
end_of (reads.BadLine number) = Some (ended.BadLine number)
end_of reads.RequestsOver = Some ended.RequestsOver
end_of reads.ClientsOver = Some ended.ClientsOver
end_of reads.LineOver = Some ended.LineOver
end_of reads.InputOver = Some ended.InputOver
end_of reads.Fault = Some ended.ReadFault
