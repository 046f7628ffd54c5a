use Rattle.std.proofs.Common.{◌≡◌, drop}
use Rattle.query_reader.specs.Resolve.{first_unplaced}
use Rattle.query_reader.specs.Tree.{view_ask}
use Rattle.query_reader.proofs.resolve.first_unplaced.Given as goal

abbrev pub invariant-loop-number : goal.invariant-loop-number
invariant-loop-number l = first_unplaced l.fields l.text (view_ask l.ask) (drop l.number-index l.numbers) ≡ first_unplaced l.fields l.text (view_ask l.ask) l.numbers
