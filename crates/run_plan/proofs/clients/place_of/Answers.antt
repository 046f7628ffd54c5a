use Rattle.std.proofs.Common.{◌∙◌, arith, sym}
use Rattle.std.proofs.lemmas.List.{length-map}
use Rattle.run_plan.proofs.Places.{place_below}
use Rattle.run_plan.specs.Asked.{names_of}
use Rattle.run_plan.specs.declared.clients.Asking.{Asking}
use Rattle.run_plan.proofs.clients.place_of.Goals as goal

pub returns-in_default-clause-exact : goal.returns-in_default-clause-exact
returns-in_default-clause-exact c has =
    let below = place_below c.args.client.now (names_of c.args.askings.now) c.in-Some.place.now (sym (c.in-Some.ensures.value ∙ has c.args.client.now)) in
    let same = length-map c.args.askings.now (λ (asking : Asking). asking.client) in
    absurd (omega (arith, below, same, c.if-place-askings.false))
