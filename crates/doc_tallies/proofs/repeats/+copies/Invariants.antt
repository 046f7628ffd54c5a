use Rattle.doc_tallies.proofs.repeats.+copies.Given as goal

abbrev pub decreases-copies : goal.decreases-copies
decreases-copies l = l.times
