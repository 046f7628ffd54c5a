use Rattle.std.proofs.Common.{Ok, Err, ◌∙◌, rules, of_calls}
use Rattle.std.specs.Ordering.{nat_cmp}
use Rattle.std.proofs.lemmas.List.{take_rest}
use Rattle.std.proofs.lemmas.Fn.{always_returns_same}
use Rattle.split_states.proofs.Stamped.{from_halves}
use Rattle.split_states.proofs.stamps.stamps_from.Goals as goal

pub returns-in-Ok : goal.returns-in-Ok
returns-in-Ok c =
    let facts = c.in-Ok.ensures in
    take_rest c.args.stamps.now c.in-Ok.place
    ∙ from_halves c.args.from c.args.stamps.now (Ok c.in-Ok.place) c.requires facts.bound
    (facts.position (λ o. nat_cmp o.number c.args.from) (always_returns_same _ _ _ (λ a r f called. search (rules, of_calls))))

pub returns-in-Err : goal.returns-in-Err
returns-in-Err c =
    let facts = c.in-Err.ensures in
    take_rest c.args.stamps.now c.in-Err.place
    ∙ from_halves c.args.from c.args.stamps.now (Err c.in-Err.place) c.requires facts.bound
    (facts.position (λ o. nat_cmp o.number c.args.from) (always_returns_same _ _ _ (λ a r f called. search (rules, of_calls))))
