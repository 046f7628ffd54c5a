use Rattle.doc_tallies.proofs.repeats.+valueless_partial.Given as goal

abbrev pub decreases-valueless_partial : goal.decreases-valueless_partial
decreases-valueless_partial l = l.count
