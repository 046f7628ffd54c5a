use Rattle.std.proofs.Common.{List, length}
use Rattle.split_bundle.specs.declared.placed.Placed.{Placed}
use Rattle.split_build.specs.HeldDocuments.{HasDocuments}
use Rattle.split_build.proofs.DocumentLemmas.{IsPut}
use Rattle.split_build.proofs.documents.DocumentLog.put_starts.Given as goal

abbrev pub invariant-loop-piece : goal.invariant-loop-piece
invariant-loop-piece l = (documents : List Placed) → HasDocuments l.fn.self documents → IsPut l.fn.self.names.items l.partitions l.pieces l.rest l.area.items l.out.items l.initial.out.items documents

abbrev pub decreases-loop-piece : goal.decreases-loop-piece
decreases-loop-piece l = length l.pieces
