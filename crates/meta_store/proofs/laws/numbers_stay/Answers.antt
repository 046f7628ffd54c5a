use Rattle.meta_store.proofs.GivenUp.{GivenUp-more}
use Rattle.meta_store.proofs.Numbers.{shown_more}
use Rattle.meta_store.proofs.Staged.{HasStaged-more}
use Rattle.meta_store.proofs.laws.numbers_stay.Goals as goal

pub returns-clause-shown : goal.returns-clause-shown
returns-clause-shown c entries entry number e = shown_more entries entry number e

pub returns-clause-given_up : goal.returns-clause-given_up
returns-clause-given_up c reads entries entry number legal allowed g = GivenUp-more reads entries entry number legal allowed g

pub returns-clause-staged : goal.returns-clause-staged
returns-clause-staged c reads entries entry number delta facts legal allowed k = HasStaged-more reads entries entry number delta facts legal allowed k
