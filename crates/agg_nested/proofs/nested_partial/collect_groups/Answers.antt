use Rattle.agg_nested.proofs.Joining.{ok_then}
use Rattle.agg_nested.proofs.NothingNested.{some_nested}
use Rattle.agg_nested.proofs.nested_partial.collect_groups.Goals as goal

pub raise_spots-requires-clause-known : goal.raise_spots-requires-clause-known
raise_spots-requires-clause-known c = rw c.as_slice.ensures (c.requires.known (some_nested c.is_empty.result c.args.asked.now.nested c.is_empty.ensures.1 c.if-is_empty.false))

pub returns-then-is_empty : goal.returns-then-is_empty
returns-then-is_empty c = λ some. absurd (some (c.is_empty.ensures.0 c.if-is_empty.true))

pub returns : goal.returns
returns c = ok_then c.raise_spots.result (λ raised some. raised) (rw c.as_slice.ensures at c.raise_spots.ensures)
