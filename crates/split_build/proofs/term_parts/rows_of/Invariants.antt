use Rattle.std.proofs.Common.{◌≡◌, ◌++◌, true, length}
use Rattle.term_postings.specs.Rows.{lent}
use Rattle.split_build.specs.Grouped.{grouped}
use Rattle.split_build.proofs.term_parts.rows_of.Given as goal

abbrev pub invariant-loop-document : goal.invariant-loop-document
invariant-loop-document l = record {
  sizes : l.kept ≡ true → length l.rest ≡ length l.left;
  rows : lent l.rows.items ++ grouped l.kept l.left l.rest ≡ grouped l.kept l.documents l.places;
}

abbrev pub decreases-loop-document : goal.decreases-loop-document
decreases-loop-document l = length l.left
