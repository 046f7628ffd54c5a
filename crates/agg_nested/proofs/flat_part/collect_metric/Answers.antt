use Rattle.std.proofs.Common.{ap, length, arith}
use Rattle.agg_nested.proofs.Flats.{metric_room, metric_more}
use Rattle.agg_nested.proofs.flat_part.collect_metric.Goals as goal

pub add_first-requires-clause-room : goal.add_first-requires-clause-room
add_first-requires-clause-room c =
    let few = c.requires.2 in
    metric_room c.args.field _ c.requires.0 c.count.new.self (omega arith) c.requires.1.few (omega arith) (c.count.ensures _ _ c.requires.1.stands)

pub returns : goal.returns
returns c = λ docs h.
    metric_more c.args.field _ docs c.args.doc.now c.add_first.new.part (ap length c.values_of.ensures) (omega arith) h.few
    (rw c.first_whole.ensures.value at (c.add_first.ensures _ _ (c.count.ensures _ _ h.stands)))
