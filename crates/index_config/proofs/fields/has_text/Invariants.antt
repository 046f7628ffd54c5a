use Rattle.std.proofs.Common.{◌≡◌, drop}
use Rattle.toml.specs.View.{items_view}
use Rattle.index_config.specs.Fields.{has_text}
use Rattle.index_config.proofs.fields.has_text.Given as goal

abbrev pub invariant-loop-item : goal.invariant-loop-item
invariant-loop-item l = has_text l.word (items_view l.items) ≡ has_text l.word (items_view (drop l.item-index l.items))
