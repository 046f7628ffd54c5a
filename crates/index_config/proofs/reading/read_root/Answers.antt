use Rattle.toml.specs.View.{view}
use Rattle.index_config.proofs.Answering.{answer-tables}
use Rattle.index_config.proofs.reading.read_root.Goals as goal

pub returns-in-Ok-Some : goal.returns-in-Ok-Some
returns-in-Ok-Some c = λ _.
    answer-tables (view c.args.root.now) c.in-Ok-Some.field-0 c.in-Ok-Some.fault c.in-Ok-Some.ensures c.in-Ok-Some.field-0-is
