-- Which logs are given back.
use Rattle.std.specs.Prelude.{List, map}
use Rattle.node_run.specs.declared.logs.Logs.{Logs}
use Rattle.node_run.specs.declared.logs.Logs.TheVariants as given

abbrev pub logs_in : {L : Type 0} → Logs L → List L
logs_in (given.Unread logs) = logs.items
logs_in (given.Read readers) = map (λ reader. reader.log) readers.items
