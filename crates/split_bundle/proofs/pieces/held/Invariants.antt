use Rattle.std.proofs.Common.{◌≡◌, drop}
use Rattle.split_bundle.specs.Pieces.{held_in}
use Rattle.split_bundle.proofs.pieces.held.Given as goal

abbrev pub invariant-loop-piece : goal.invariant-loop-piece
invariant-loop-piece l = held_in (drop l.piece-index l.pieces) l.start l.len ≡ held_in l.pieces l.start l.len
