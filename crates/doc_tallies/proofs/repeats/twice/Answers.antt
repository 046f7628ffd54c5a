use Rattle.std.proofs.Common.{[]}
use Rattle.doc_tallies.proofs.repeats.twice.Goals as goal

pub returns-clause-stands : goal.returns-clause-stands
returns-clause-stands c = λ docs h.
    c.in_ok-merge_nested-2.ensures.stands docs docs (c.in_ok-merge_nested.ensures.stands [] docs c.in_ok-partial.ensures.stands h) h
