use Rattle.std.proofs.Common.{sym, ◌∙◌, arith}
use Rattle.agg_nested.proofs.Flats.{metric_room, metric_more}
use Rattle.doc_tallies.proofs.metric.add_value.Goals as goal

pub add_first-requires-clause-room : goal.add_first-requires-clause-room
add_first-requires-clause-room c =
    let few = c.requires.3 in
    let one = c.values_there.ensures.few in
    metric_room c.requires.0 _ c.requires.1 c.count.new.self (omega arith) c.requires.2.few (omega arith) (c.count.ensures _ _ c.requires.2.stands)

pub returns : goal.returns
returns c = λ field docs doc h is.
    let one = c.values_there.ensures.few in
    metric_more field _ docs doc c.add_first.new.part (c.values_there.ensures.value ∙ sym is.many) (omega arith) h.few
    (rw (c.whole_there.ensures.value, ← is.first) at (c.add_first.ensures _ _ (c.count.ensures _ _ h.stands)))
