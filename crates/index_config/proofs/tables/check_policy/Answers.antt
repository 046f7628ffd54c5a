use Rattle.std.proofs.lemmas.Result.{on_ok_weaker}
use Rattle.toml.specs.View.{view}
use Rattle.index_config.proofs.Asked.{policy-keys}
use Rattle.index_config.proofs.tables.check_policy.Goals as goal

pub returns : goal.returns
returns c =
    on_ok_weaker c.check_table.result
    (policy-keys _ _ c.args.here.now.path (view c.args.here.now.table.now) _ _ c.policy_type-kind.ensures c.merge_factor-least.ensures) c.check_table.ensures
