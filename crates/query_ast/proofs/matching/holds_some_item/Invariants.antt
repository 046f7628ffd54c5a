use Rattle.std.proofs.Common.{◌≡◌, drop}
use Rattle.query_ast.specs.Meaning.{some_item_holds}
use Rattle.query_ast.proofs.matching.holds_some_item.Given as goal

abbrev pub invariant-loop-item : goal.invariant-loop-item
invariant-loop-item l = some_item_holds l.field l.values (drop l.item-index l.items) ≡ some_item_holds l.field l.values l.items
