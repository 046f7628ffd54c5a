use Rattle.std.proofs.Common.{◌∙◌, arith, sym}
use Rattle.node_run.proofs.Places.{place_below}
use Rattle.node_run.proofs.drive.place_of.Goals as goal

pub returns-in_default-clause-exact : goal.returns-in_default-clause-exact
returns-in_default-clause-exact c = λ names same has.
    let below = place_below c.args.client.now names c.in-Some.place.now (sym (c.in-Some.ensures.value ∙ has c.args.client.now)) in
    absurd (omega (arith, below, same, c.if-place-clients.false))
