use Rattle.std.proofs.Common.{◌≡◌, sym, ◌∙◌, arith}
use Rattle.std.proofs.lemmas.Fmt.{decimal_injective}
use Rattle.node_run.proofs.Begins.{at_only}
use Rattle.node_run.proofs.line.at_line.Goals as goal

pub returns-then-moment-ge-MOMENT_END : goal.returns-then-moment-ge-MOMENT_END
returns-then-moment-ge-MOMENT_END c = λ line s.
    let is = at_only c.args.rest.now line s in
    let same : c.in_ok-moment.moment ≡ is.moment =
    decimal_injective c.in_ok-moment.moment is.moment (omega arith) (omega (arith, is.below)) (sym c.in_ok-moment.ensures ∙ is.digits) in
    omega (arith, same, is.below)
