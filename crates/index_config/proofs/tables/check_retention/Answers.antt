use Rattle.std.proofs.lemmas.Result.{on_ok_weaker}
use Rattle.toml.specs.View.{view}
use Rattle.index_config.proofs.Asked.{retention-keys}
use Rattle.index_config.proofs.tables.check_retention.Goals as goal

pub returns : goal.returns
returns c = on_ok_weaker c.check_table.result (retention-keys _ _ c.args.here.now.path (view c.args.here.now.table.now)) c.check_table.ensures
