use Rattle.std.proofs.Common.{rules}
use Rattle.std.proofs.lemmas.Int.{to_z-of_z}
use Rattle.std.specs.Int.RustNames.{FitsSigned}
use Rattle.doc_tallies.proofs.metric.add_first.Goals as goal
use mir.Syntax.{w128}

pub returns-in-Some : goal.returns-in-Some
returns-in-Some c =
    let fits : FitsSigned w128 c.in-Some.whole = search rules in
    rw c.in-Some.is (rw (to_z-of_z w128 c.in-Some.whole fits) at c.add.ensures)
