-- What the lines of the code say.
use Rattle.std.specs.Prelude.{ℕ, List, Result, MatchResult}
use Rattle.node_run.specs.declared.line.Line.{Line}
use Rattle.node_run.specs.declared.line.Line.TheVariants as line
use Rattle.node_run.specs.declared.line.LineError.{LineError}
use Rattle.node_run.specs.declared.line.LineError.TheVariants as errors
use Rattle.node_run.specs.Node as said
use Rattle.node_run.specs.Lines.{Spells}

abbrev pub seen : Line → said.Line
seen (line.At moment) = said.At moment
seen (line.Assign indexer partitions) = said.Assign indexer partitions
seen (line.Indexer indexer) = said.StepIndexer indexer
seen (line.RestartIndexer indexer) = said.RestartIndexer indexer
seen (line.RestartClient client) = said.RestartClient client
seen line.Merger = said.StepMerger
seen line.RestartMerger = said.RestartMerger
seen line.Deleter = said.StepDeleter
seen line.RestartDeleter = said.RestartDeleter
seen line.Collector = said.StepCollector
seen line.RestartCollector = said.RestartCollector
seen line.RestartNode = said.RestartNode
seen (line.Open client text) = said.Open client text
seen (line.Client client) = said.StepClient client

-- what holds where bytes are no line; want of memory says nothing
abbrev pub IsBadWhere : Type 0 → LineError → Type 0
IsBadWhere P (errors.Memory e) = Unit {0}
IsBadWhere P errors.BadLine = P

-- what was read of a text: the line that it spells, or that it spells none
abbrev pub IsRead : List ℕ → Result Line LineError → Type 0
IsRead text result = MatchResult result (λ line. Spells text (seen line)) (λ error. IsBadWhere ((line : said.Line) → Spells text line → ⊥) error)
