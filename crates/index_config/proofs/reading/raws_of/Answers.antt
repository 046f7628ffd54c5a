use Rattle.toml.specs.View.{view}
use Rattle.index_config.proofs.Nesting.{raws-all}
use Rattle.index_config.proofs.reading.raws_of.Goals as goal

pub returns-in-Ok : goal.returns-in-Ok
returns-in-Ok c =
    raws-all (view c.args.root.now) _ _ _ _ _ _ c.mode_of.ensures c.in_ok-raws.ensures c.in_ok-place.ensures c.vacant-path.ensures c.mapping_items-items.ensures c.in-Ok.ensures
