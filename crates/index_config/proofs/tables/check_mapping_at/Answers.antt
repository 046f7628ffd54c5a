use Rattle.std.proofs.Common.{sym, ◌∙◌}
use Rattle.std.proofs.lemmas.Result.{on_ok_weaker}
use Rattle.index_config.specs.Tables.{mapping_faults, mapping_path}
use Rattle.index_config.proofs.Nesting.{there-table}
use Rattle.index_config.proofs.tables.check_mapping_at.Goals as goal

pub returns-in_ok-path-in-Some : goal.returns-in_ok-path-in-Some
returns-in_ok-path-in-Some c =
    on_ok_weaker c.check_mapping.result (there-table mapping_path _ mapping_faults _ _ _ _ c.in-Some.ensures (sym c.is_table.ensures ∙ c.if-not-is_table.false) c.in_ok-path-in-Some.ensures) c.check_mapping.ensures
