use Rattle.leaf_search.proofs.NumberLists.{members_given, members_within}
use Rattle.leaf_search.proofs.numbers.numbers_in.Goals as goal

pub returns-clause-below : goal.returns-clause-below
returns-clause-below c = members_within c.numbers.result c.args.bits.now c.numbers.ensures

pub returns-clause-only : goal.returns-clause-only
returns-clause-only c = λ test documents set. members_given c.numbers.result test documents c.args.bits.now set c.numbers.ensures
