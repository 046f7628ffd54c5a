use Rattle.split_merge.specs.Numbering.{number_in}
use Rattle.split_merge.proofs.KeyListLemmas.{behind_key, goes_on, here, past_key, still_holds}
use Rattle.split_merge.proofs.key_lists.take_key.Goals as goal

pub returns-in_default-clause-walk : goal.returns-in_default-clause-walk
returns-in_default-clause-walk c = λ s last kept past walk not_below. past_key s last c.args.view.now c.args.walk.now c.args.key.now walk past not_below c.in_default.ensures

pub returns-in_default-clause-only : goal.returns-in_default-clause-only
returns-in_default-clause-only c = λ s last ds p kept past walk not_below is.
    λ ps h. still_holds s last c.args.view.now c.args.walk.now c.args.key.now walk past not_below c.in_default.ensures c.args.kept c.args.list.now (number_in c.args.numbers.now) ds p ps is h

pub returns-in-Ok-clause-walk : goal.returns-in-Ok-clause-walk
returns-in-Ok-clause-walk c = λ s last kept past walk not_below.
    behind_key s last c.args.view.now c.args.walk.now c.args.key.now walk c.in-Some.info c.in-Some.ensures c.advance.new.self c.advance.result c.advance.ensures.above c.advance.ensures.only

pub returns-in-Ok-clause-only : goal.returns-in-Ok-clause-only
returns-in-Ok-clause-only c = λ s last ds p kept past walk not_below is.
    let at = here s last c.args.view.now c.args.walk.now c.args.key.now walk c.in-Some.info c.in-Some.ensures ds p is in
    goes_on s last c.args.view.now c.args.walk.now c.args.key.now walk c.in-Some.info c.in-Some.ensures c.advance.new.self c.advance.result _ ds p is c.advance.ensures.only
    (c.in-Ok.ensures s ds p c.args.key.now is at.looked kept)

pub returns-in-Err-clause-only : goal.returns-in-Err-clause-only
returns-in-Err-clause-only c = λ s last ds p kept past walk not_below is.
    let at = here s last c.args.view.now c.args.walk.now c.args.key.now walk c.in-Some.info c.in-Some.ensures ds p is in
    c.in-Err.ensures s ds p c.args.key.now is at.looked kept
