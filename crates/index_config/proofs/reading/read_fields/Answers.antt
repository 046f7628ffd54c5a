use Rattle.toml.specs.View.{view}
use Rattle.index_config.proofs.Answering.{answer-config, answer-fault}
use Rattle.index_config.proofs.reading.read_fields.Goals as goal

pub returns-in_ok-config_of-in-Ok-None : goal.returns-in_ok-config_of-in-Ok-None
returns-in_ok-config_of-in-Ok-None c =
    answer-config (view c.args.root.now) c.in_ok-raws.raws c.as_slice.result.now c.in-Ok-None.field-0 c.in_ok-config_of-in-Ok-None.field-0 c.requires c.in_ok-raws.ensures
    c.as_slice.ensures c.in-Ok-None.ensures c.in-Ok-None.field-0-is c.in_ok-config_of-in-Ok-None.ensures

pub returns-in-Ok-Some : goal.returns-in-Ok-Some
returns-in-Ok-Some c = λ _.
    answer-fault (view c.args.root.now) c.in_ok-raws.raws c.as_slice.result.now c.in-Ok-Some.field-0 c.in-Ok-Some.fault c.requires c.in_ok-raws.ensures
    c.as_slice.ensures c.in-Ok-Some.ensures c.in-Ok-Some.field-0-is
