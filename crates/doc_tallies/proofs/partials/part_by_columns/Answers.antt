use Rattle.std.proofs.Common.{sym, subst}
use Rattle.agg_nested.specs.Partials.{FlatStands}
use Rattle.agg_nested.specs.declared.request.FlatAgg.{FlatAgg}
use Rattle.doc_tallies.proofs.partials.part_by_columns.Goals as goal

pub returns-in-Some-clause-known : goal.returns-in-Some-clause-known
returns-in-Some-clause-known c =
    let known = c.in-Some.ensures.known c.in-Metric.kind c.in-Metric.field in
    let stands = subst (λ (a : FlatAgg). FlatStands a c.in-Some.flat known.0) (sym c.in-Metric.is) known.1 in
    record { documents = known.0; stands = c.part_alone-in-Some.ensures c.args.asked.now known.0 (c.is_empty.ensures.0 c.if-not-is_empty.false) stands; many = known.2 }
