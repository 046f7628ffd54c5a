use Rattle.toml.proofs.Views.{view-Table}
use Rattle.index_config.proofs.Answering.{answer-no_text, answer-toml, answered}
use Rattle.index_config.proofs.reading.read_config.Goals as goal

pub returns-in_default : goal.returns-in_default
returns-in_default c = λ _. answer-no_text c.args.text.now c.in_default.ensures.cases.0

pub returns-in-Ok-table_from_str : goal.returns-in-Ok-table_from_str
returns-in-Ok-table_from_str c =
    answered c.read_root.result _ _
    (answer-toml c.args.text.now c.in-Ok.text.now _ _ c.in-Ok.ensures.cases.1 c.in-Ok.ensures.cases.0 c.in-Ok-table_from_str.ensures.ok
    (view-Table c.in-Ok-table_from_str.table))
    c.read_root.ensures
