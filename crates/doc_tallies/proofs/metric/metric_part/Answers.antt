use Rattle.doc_tallies.proofs.Metrics.{sole_column}
use Rattle.doc_tallies.proofs.metric.metric_part.Goals as goal

pub returns-clause-only : goal.returns-clause-only
returns-clause-only c = λ s documents kind field of are below.
    c.metric_of.ensures.only s documents field c.if-not-has_one_value.ensures of (sole_column s documents field c.args.columns.now c.index-columns-0.result are c.index-columns-0.is) below
