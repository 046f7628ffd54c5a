use Rattle.doc_sets.proofs.ReadLookups.{met}
use Rattle.std.proofs.Common.{◌≡◌, ◌∙◌, ℕ, length, filter}
use Rattle.query_ast.specs.Meaning.{meaning}
use Rattle.query_ast.specs.Sought.{view}
use Rattle.doc_sets.specs.Asking.{LacksLookups}
use Rattle.leaf_search.specs.Asks.{lookups_of}
use Rattle.leaf_search.proofs.LeafSteps.{handed}
use Rattle.leaf_search.proofs.QueryCounts.{set_counted}
use Rattle.leaf_search.proofs.query_counts.set_count.Goals as goal

pub returns-clause-only : goal.returns-clause-only
returns-clause-only c = λ documents p is can. c.count.ensures ∙ set_counted c.args.schema.now (view c.args.query.now) documents c.in_ok-bits.bits (c.in_ok-bits.ensures.only documents p is can)

pub returns-in_err-bits-clause-only : goal.returns-in_err-bits-clause-only
returns-in_err-bits-clause-only c = λ documents p is can.
    handed (λ (n : ℕ). n ≡ length (filter (λ d. meaning c.args.schema.now d.doc (view c.args.query.now)) documents)) (LacksLookups c.args.part.now c.args.schema.now documents p (lookups_of c.args.part.now.footer c.args.schema.now (view c.args.query.now)))
    c.from_residual.result c.in_err-bits.field-0.0 c.from_residual.ensures.1 (c.in_err-bits.ensures.only documents p is can)

pub returns-clause-reads : goal.returns-clause-reads
returns-clause-reads c = c.in_ok-bits.ensures.reads

pub returns-in_err-bits-clause-reads : goal.returns-in_err-bits-clause-reads
returns-in_err-bits-clause-reads c =
    met c.args.part.now (lookups_of c.args.part.now.footer c.args.schema.now (view c.args.query.now)) c.from_residual.result c.in_err-bits.field-0.0 c.from_residual.ensures.1 c.in_err-bits.ensures.reads
