use Rattle.std.proofs.Common.{◌∙◌, Option, sym, subst}
use Rattle.term_dict.specs.Lent.{GivesFirst}
use Rattle.split_merge.proofs.WalkLemmas.{Found, gives_terms, next_above, no_fault, read}
use Rattle.split_merge.proofs.key_walks.KeyWalk.advance.Goals as goal

pub returns-then-not-is_below-clause-only : goal.returns-then-not-is_below-clause-only
returns-then-not-is_below-clause-only c = λ t ts gives rise.
    let g = c.in-Ok-Some.ensures.only ts gives.4 in
    absurd (next_above c.args.self.now c.in-Some.key c.in-Ok-Some.other c.in-Some._info c.in-Ok-Some.info t ts c.in-Some.is gives rise (subst (λ (o : Option Found). GivesFirst ts (read o)) c.in-Ok-Some.field-0-is g.0)
    (sym c.is_below.ensures ∙ c.if-not-is_below.true))

pub returns-else-not-is_below-clause-only : goal.returns-else-not-is_below-clause-only
returns-else-not-is_below-clause-only c = λ t ts gives rise.
    let g = c.in-Ok-Some.ensures.only ts gives.4 in
    gives_terms ts c.next.new.self _ (subst (λ (o : Option Found). GivesFirst ts (read o)) c.in-Ok-Some.field-0-is g.0) g.1

pub returns-in-Ok-None-clause-only : goal.returns-in-Ok-None-clause-only
returns-in-Ok-None-clause-only c = λ t ts gives rise.
    let g = c.in-Ok-None.ensures.only ts gives.4 in
    gives_terms ts c.next.new.self _ (subst (λ (o : Option Found). GivesFirst ts (read o)) c.in-Ok-None.field-0-is g.0) g.1

pub returns-in-Err-clause-only : goal.returns-in-Err-clause-only
returns-in-Err-clause-only c = λ t ts gives rise. absurd (no_fault ts c.in-Err._fault (c.in-Err.ensures.only ts gives.4).0)
