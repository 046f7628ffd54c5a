use Rattle.std.proofs.lemmas.Result.{on_ok_weaker}
use Rattle.toml.specs.View.{view}
use Rattle.index_config.proofs.Asked.{mapping-keys}
use Rattle.index_config.proofs.tables.check_mapping.Goals as goal

pub returns : goal.returns
returns c =
    on_ok_weaker c.check_fields.result (mapping-keys _ _ _ _ c.args.here.now.path (view c.args.here.now.table.now) c.in_ok-check_table.ensures)
    c.check_fields.ensures
