use Rattle.std.proofs.Common.{◌∙◌, arith, sym}
use Rattle.std.specs.Option.{option_copied}
use Rattle.split_merge.proofs.FrontLemmas.{front_alone, front_least, within_of}
use Rattle.split_merge.proofs.key_lists.gather_front.Goals as goal

pub gather_alone-requires-clause-place : goal.gather_alone-requires-clause-place
gather_alone-requires-clause-place c = within_of c.args.front.walk c.args.front.key.now c.args.walks.now c.requires.front.at

pub returns-in-Ok-clause-front : goal.returns-in-Ok-clause-front
returns-in-Ok-clause-front c = (omega (arith, within_of c.args.front.walk c.args.front.key.now c.args.walks.now c.requires.front.at, c.in-Ok.ensures.size), c.in-Ok.ensures.others (option_copied c.args.front.bound) c.requires.front.others)

pub returns-in-Ok-clause-walks : goal.returns-in-Ok-clause-walks
returns-in-Ok-clause-walks c = λ s last kept past are.
    let f = c.args.front in
    let bound = option_copied f.bound in
    c.in-Ok.ensures.walks s last kept past are (front_least f.walk f.key.now bound c.args.walks.now c.requires.front) (front_alone f.walk f.key.now bound c.args.walks.now c.requires.front (sym c.is_alone.ensures ∙ c.if-is_alone.true))

pub returns-in-Ok-clause-only : goal.returns-in-Ok-clause-only
returns-in-Ok-clause-only c = λ s last lists kept past are of holds.
    let f = c.args.front in
    let bound = option_copied f.bound in
    c.in-Ok.ensures.only s last lists kept past are (front_least f.walk f.key.now bound c.args.walks.now c.requires.front)
    (front_alone f.walk f.key.now bound c.args.walks.now c.requires.front (sym c.is_alone.ensures ∙ c.if-is_alone.true)) of holds

pub returns-in-Err-clause-cause : goal.returns-in-Err-clause-cause
returns-in-Err-clause-cause c = λ s last kept past are.
    let f = c.args.front in
    c.in-Err.ensures.cause s last kept past are (front_least f.walk f.key.now (option_copied f.bound) c.args.walks.now c.requires.front)

pub returns-in-Ok-gather_key-clause-walks : goal.returns-in-Ok-gather_key-clause-walks
returns-in-Ok-gather_key-clause-walks c = λ s last kept past are.
    let f = c.args.front in
    c.in-Ok-gather_key.ensures.walks s last kept past are (front_least f.walk f.key.now (option_copied f.bound) c.args.walks.now c.requires.front)

pub returns-in-Ok-gather_key-clause-only : goal.returns-in-Ok-gather_key-clause-only
returns-in-Ok-gather_key-clause-only c = λ s last lists kept past are of holds.
    let f = c.args.front in
    c.in-Ok-gather_key.ensures.only s last lists kept past are (front_least f.walk f.key.now (option_copied f.bound) c.args.walks.now c.requires.front) of holds

pub returns-in-Err-gather_key-clause-cause : goal.returns-in-Err-gather_key-clause-cause
returns-in-Err-gather_key-clause-cause c = λ s last kept past are.
    let f = c.args.front in
    c.in-Err-gather_key.ensures.cause s last kept past are (front_least f.walk f.key.now (option_copied f.bound) c.args.walks.now c.requires.front)
