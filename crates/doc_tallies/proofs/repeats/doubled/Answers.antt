use Rattle.std.proofs.Common.{[]}
use Rattle.doc_tallies.proofs.repeats.doubled.Goals as goal

pub returns-clause-stands : goal.returns-clause-stands
returns-clause-stands c = λ docs half.
    c.in_ok-merge_partials-2.ensures.stands docs docs (c.in_ok-merge_partials.ensures.stands [] docs c.in_ok-partial.ensures.stands half) half
