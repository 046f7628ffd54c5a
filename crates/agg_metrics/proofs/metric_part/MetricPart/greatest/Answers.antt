use Rattle.std.proofs.Common.{arith, sym, ap}
use Rattle.std.proofs.lemmas.Int.{ints}
use Rattle.agg_metrics.specs.Metrics.{greatest_of}
use Rattle.agg_metrics.proofs.Parts.{none_is}
use Rattle.agg_metrics.proofs.metric_part.MetricPart.greatest.Goals as goal

pub returns-else-self : goal.returns-else-self
returns-else-self c = λ counted values h. let n = none_is c.args.self.now counted values h (omega (arith, ints)) in ap greatest_of (sym n)
