use Rattle.std.proofs.Common.{◌≡◌, take}
use Rattle.term_postings.specs.Rows.{lent}
use Rattle.term_postings.proofs.encode.rows_of.Given as goal

abbrev pub invariant-loop-posting : goal.invariant-loop-posting
invariant-loop-posting l = lent l.rows.items ≡ take l.posting-index l.postings
