use Rattle.std.proofs.lemmas.Result.{on_ok_weaker}
use Rattle.toml.specs.View.{view}
use Rattle.index_config.proofs.Nesting.{chain, settings-chain}
use Rattle.index_config.proofs.tables.check_tables.Goals as goal

pub returns : goal.returns
returns c =
    let s1 = c.in_ok-check_top_at.ensures in
    let s2 = chain _ _ _ _ _ s1 c.in_ok-check_mapping_at.ensures in
    let settings = settings-chain (view c.args.root.now) _ _ _ c.in_ok-check_section_at.ensures c.in_ok-check_section_at-2.ensures in
    let s3 = chain _ _ _ _ _ s2 settings in
    let s4 = chain _ _ _ _ _ s3 c.in_ok-check_section_at-3.ensures in
    let s5 = chain _ _ _ _ _ s4 c.in_ok-check_section_at-4.ensures in
    on_ok_weaker c.check_section_at-5.result (chain _ _ _ _ _ s5) c.check_section_at-5.ensures
