use Rattle.std.proofs.Common.{drop}
use Rattle.term_postings.specs.Rows.{lent}
use Rattle.term_postings.proofs.Puts.{PutsDocuments}
use Rattle.term_postings.proofs.encode.put_documents.Given as goal

abbrev pub invariant-loop-row : goal.invariant-loop-row
invariant-loop-row l = PutsDocuments l.counted l.fn.blocks.items l.fn.places.items l.blocks.items l.places.items l.before l.last (drop l.row-index (lent l.rows)) (lent l.rows)
