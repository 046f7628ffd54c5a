use Rattle.std.proofs.Common.{sym, ◌∙◌}
use Rattle.std.proofs.lemmas.Result.{on_ok_weaker}
use Rattle.index_config.specs.Sections.{section_path, key_faults}
use Rattle.index_config.proofs.Nesting.{wrong-table, right-table}
use Rattle.index_config.proofs.tables.check_section_at.Goals as goal

pub returns-then-is_table : goal.returns-then-is_table
returns-then-is_table c =
    on_ok_weaker c.check_section.result (right-table (section_path c.args.section) _ (key_faults c.args.section) _ _ _ _ c.in-Some.ensures (sym c.is_table.ensures ∙ c.if-is_table.true) (c.in_ok-path-in-Some.ensures ∙ c.section_path.ensures)) c.check_section.ensures

pub returns-else-is_table : goal.returns-else-is_table
returns-else-is_table c =
    on_ok_weaker c.wrong_unless.result (wrong-table (section_path c.args.section) _ _ _ _ _ _ c.in-Some.ensures (sym c.is_table.ensures ∙ c.if-is_table.false) (c.in_ok-path-in-Some.ensures ∙ c.section_path.ensures)) c.wrong_unless.ensures
