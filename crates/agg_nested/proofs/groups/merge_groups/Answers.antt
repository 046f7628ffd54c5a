use Rattle.agg_model.specs.Counting.{text, signed, unsigned, truth, datetime}
use Rattle.agg_nested.specs.Spots.{value, step, range}
use Rattle.agg_nested.proofs.groups.merge_groups.Goals as goal

pub merge_texts-requires : goal.merge_texts-requires
merge_texts-requires c = λ t. c.requires (value (text t))

pub merge_wholes-requires : goal.merge_wholes-requires
merge_wholes-requires c = λ z. c.requires (value (signed z))

pub merge_wholes-requires-2 : goal.merge_wholes-requires-2
merge_wholes-requires-2 c = λ z. c.requires (value (unsigned z))

pub merge_wholes-requires-3 : goal.merge_wholes-requires-3
merge_wholes-requires-3 c = λ z. c.requires (value (truth z))

pub merge_wholes-requires-4 : goal.merge_wholes-requires-4
merge_wholes-requires-4 c = λ z. c.requires (value (datetime z))

pub merge_wholes-requires-5 : goal.merge_wholes-requires-5
merge_wholes-requires-5 c = λ z. c.requires (step z)

pub merge_places-requires : goal.merge_places-requires
merge_places-requires c = λ n. c.requires (range n)
