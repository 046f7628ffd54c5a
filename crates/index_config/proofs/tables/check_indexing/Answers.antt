use Rattle.std.proofs.lemmas.Result.{on_ok_weaker}
use Rattle.toml.specs.View.{view}
use Rattle.index_config.proofs.Asked.{indexing-keys}
use Rattle.index_config.proofs.tables.check_indexing.Goals as goal

pub returns : goal.returns
returns c = on_ok_weaker c.check_table.result (indexing-keys _ _ c.args.here.now.path (view c.args.here.now.table.now)) c.check_table.ensures
