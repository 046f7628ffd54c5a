use Rattle.agg_model.specs.Counting.{signed, unsigned, truth, datetime}
use Rattle.agg_model.proofs.ranking.all_values.Goals as goal

pub push_wholes-requires : goal.push_wholes-requires
push_wholes-requires c = λ z. c.requires (signed z)

pub push_wholes-requires-2 : goal.push_wholes-requires-2
push_wholes-requires-2 c = λ z. c.requires (unsigned z)

pub push_wholes-requires-3 : goal.push_wholes-requires-3
push_wholes-requires-3 c = λ z. c.requires (truth z)

pub push_wholes-requires-4 : goal.push_wholes-requires-4
push_wholes-requires-4 c = λ z. c.requires (datetime z)
