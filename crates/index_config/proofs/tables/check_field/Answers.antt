use Rattle.std.proofs.lemmas.Result.{on_ok_weaker}
use Rattle.toml.specs.View.{view}
use Rattle.index_config.proofs.Nesting.{chain}
use Rattle.index_config.proofs.Asked.{field-keys}
use Rattle.index_config.proofs.tables.check_field.Goals as goal

pub returns : goal.returns
returns c =
    let s1 = field-keys _ _ c.args.here.now.path (view c.args.here.now.table.now) c.args.field_type c.in_ok-check_table.ensures in
    let s2 = chain _ _ _ _ _ s1 c.in_ok-check_depth.ensures in
    let s3 = chain _ _ _ _ _ s2 c.in_ok-check_field_values.ensures in
    on_ok_weaker c.check_field_notes.result (chain _ _ _ _ _ s3) c.check_field_notes.ensures
