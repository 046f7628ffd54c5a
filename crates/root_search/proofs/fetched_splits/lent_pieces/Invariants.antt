use Rattle.std.proofs.Common.{take}
use Rattle.std.specs.List.{AllZip}
use Rattle.root_search.specs.FetchedSplits.{IsLentOf}
use Rattle.root_search.proofs.fetched_splits.lent_pieces.Given as goal

abbrev pub invariant-loop-piece : goal.invariant-loop-piece
invariant-loop-piece l = AllZip IsLentOf (take l.piece-index l.pieces) l.lent
