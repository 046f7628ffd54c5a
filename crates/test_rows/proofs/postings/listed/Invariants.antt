use Rattle.std.proofs.Common.{◌≡◌, ◌<◌, []}
use Rattle.std.specs.List.{AllByRecursion}
use Rattle.term_postings.specs.Postings.{AreRising, documents}
use Rattle.test_rows.proofs.postings.listed.Given as goal

abbrev pub invariant-loop-document : goal.invariant-loop-document
invariant-loop-document l = AreRising (documents l.list) × AllByRecursion (λ p. p.document < l.document) l.list × AllByRecursion (λ p. p.positions ≡ []) l.list
