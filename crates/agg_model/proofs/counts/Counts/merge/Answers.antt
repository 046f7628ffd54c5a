use Rattle.agg_model.specs.Counting.{text, signed, unsigned, truth, datetime}
use Rattle.agg_model.proofs.counts.Counts.merge.Goals as goal

pub merge_texts-requires-clause-mine : goal.merge_texts-requires-clause-mine
merge_texts-requires-clause-mine c = λ q. c.requires.mine.tallies (text q)

pub merge_texts-requires-clause-yours : goal.merge_texts-requires-clause-yours
merge_texts-requires-clause-yours c = λ q. c.requires.yours.tallies (text q)

pub merge_wholes-requires-clause-mine : goal.merge_wholes-requires-clause-mine
merge_wholes-requires-clause-mine c = λ q. c.requires.mine.tallies (signed q)

pub merge_wholes-requires-clause-yours : goal.merge_wholes-requires-clause-yours
merge_wholes-requires-clause-yours c = λ q. c.requires.yours.tallies (signed q)

pub merge_wholes-requires-2-clause-mine : goal.merge_wholes-requires-2-clause-mine
merge_wholes-requires-2-clause-mine c = λ q. c.requires.mine.tallies (unsigned q)

pub merge_wholes-requires-2-clause-yours : goal.merge_wholes-requires-2-clause-yours
merge_wholes-requires-2-clause-yours c = λ q. c.requires.yours.tallies (unsigned q)

pub merge_wholes-requires-3-clause-mine : goal.merge_wholes-requires-3-clause-mine
merge_wholes-requires-3-clause-mine c = λ q. c.requires.mine.tallies (truth q)

pub merge_wholes-requires-3-clause-yours : goal.merge_wholes-requires-3-clause-yours
merge_wholes-requires-3-clause-yours c = λ q. c.requires.yours.tallies (truth q)

pub merge_wholes-requires-4-clause-mine : goal.merge_wholes-requires-4-clause-mine
merge_wholes-requires-4-clause-mine c = λ q. c.requires.mine.tallies (datetime q)

pub merge_wholes-requires-4-clause-yours : goal.merge_wholes-requires-4-clause-yours
merge_wholes-requires-4-clause-yours c = λ q. c.requires.yours.tallies (datetime q)
