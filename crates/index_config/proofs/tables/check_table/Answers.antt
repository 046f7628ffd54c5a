use Rattle.std.proofs.lemmas.Result.{on_ok_weaker}
use Rattle.index_config.proofs.Nesting.{chain}
use Rattle.index_config.proofs.tables.check_table.Goals as goal

pub returns : goal.returns
returns c = on_ok_weaker c.check_keys.result (chain _ _ _ _ _ c.in_ok-check_known.ensures) c.check_keys.ensures
