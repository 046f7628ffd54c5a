-- Which lines a node takes.
use Rattle.std.specs.Prelude.{ℕ, ◌<◌}
use Rattle.node_run.specs.declared.line.Line.{Line}
use Rattle.node_run.specs.declared.line.Line.TheVariants as line
use Rattle.node_run.specs.declared.drive.Accepts.{Accepts}
use Rattle.node_run.specs.declared.drive.Accepts.TheVariants as accepts

-- the line's indexer is one of so many
abbrev pub IsNumbered : Line → ℕ → Type 0
IsNumbered (line.At moment) count = Unit {0}
IsNumbered (line.Assign indexer partitions) count = indexer < count
IsNumbered (line.Indexer indexer) count = indexer < count
IsNumbered (line.RestartIndexer indexer) count = indexer < count
IsNumbered (line.RestartClient client) count = Unit {0}
IsNumbered line.Merger count = Unit {0}
IsNumbered line.RestartMerger count = Unit {0}
IsNumbered line.Deleter count = Unit {0}
IsNumbered line.RestartDeleter count = Unit {0}
IsNumbered line.Collector count = Unit {0}
IsNumbered line.RestartCollector count = Unit {0}
IsNumbered line.RestartNode count = Unit {0}
IsNumbered (line.Open client text) count = Unit {0}
IsNumbered (line.Client client) count = Unit {0}

abbrev pub IsYes : Accepts → Type 0
IsYes accepts.Yes = Unit {0}
IsYes accepts.BadLine = ⊥
IsYes accepts.TooManyClients = ⊥
