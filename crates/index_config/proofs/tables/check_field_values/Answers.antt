use Rattle.std.proofs.lemmas.Result.{on_ok_weaker}
use Rattle.toml.specs.View.{view}
use Rattle.index_config.proofs.Asked.{value-keys}
use Rattle.index_config.proofs.tables.check_field_values.Goals as goal

pub returns : goal.returns
returns c =
    on_ok_weaker c.check_keys.result
    (value-keys _ _ c.args.here.now.path (view c.args.here.now.table.now) c.args.field_type _ c.is_object-object.ensures) c.check_keys.ensures
