use Rattle.agg_model.proofs.finishing.finish.Goals as goal

pub shown_in_all-count-requires-clause-parts : goal.shown_in_all-count-requires-clause-parts
shown_in_all-count-requires-clause-parts c = (c.args.partial.now.documents, rw c.as_slice.ensures c.requires.partial.parts)

pub answers-requires-clause-parts : goal.answers-requires-clause-parts
answers-requires-clause-parts c = (c.args.partial.now.documents, rw c.as_slice-2.ensures c.requires.partial.parts)
