use Rattle.std.proofs.Common.{◌≤◌, length}
use Rattle.doc_mapping.proofs.Numbering.{LiesBetween}
use Rattle.doc_mapping.proofs.parts.put.Given as goal

abbrev pub invariant-loop-place : goal.invariant-loop-place
invariant-loop-place l = (l.place ≤ length l.parts.items) × LiesBetween l.number l.parts.items l.place

abbrev pub decreases-loop-place : goal.decreases-loop-place
decreases-loop-place l = l.place
