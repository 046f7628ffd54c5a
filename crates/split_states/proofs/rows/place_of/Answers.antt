use Rattle.std.proofs.Common.{Ok, Err, rules, of_calls}
use Rattle.std.specs.Ordering.{nat_cmp}
use Rattle.std.proofs.lemmas.Fn.{always_returns_same}
use Rattle.split_states.proofs.Rising.{place_found}
use Rattle.split_states.proofs.rows.place_of.Goals as goal

pub returns-in-Ok-clause-some : goal.returns-in-Ok-clause-some
returns-in-Ok-clause-some c =
    let facts = c.in-Ok.ensures in
    place_found c.args.number c.args.rows.now (Ok c.in-Ok.i) c.requires facts.bound
    (facts.position (λ o. nat_cmp o.number c.args.number) (always_returns_same _ _ _ (λ a r f called. search (rules, of_calls))))

pub returns-in-Err-clause-none : goal.returns-in-Err-clause-none
returns-in-Err-clause-none c =
    let facts = c.in-Err.ensures in
    place_found c.args.number c.args.rows.now (Err c.in-Err.field-0) c.requires facts.bound
    (facts.position (λ o. nat_cmp o.number c.args.number) (always_returns_same _ _ _ (λ a r f called. search (rules, of_calls))))
