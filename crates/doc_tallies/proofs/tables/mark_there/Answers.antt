use Rattle.std.proofs.Common.{◌≡◌, sym, ◌∙◌, arith, rules}
use Rattle.std.proofs.lemmas.Int.{ints, to_z-of_z}
use Rattle.std.specs.Int.RustNames.{FitsSigned}
use mir.Syntax.{w128}
use Rattle.doc_tallies.proofs.Tabling.{mark_between}
use Rattle.doc_tallies.proofs.tables.mark_there.Goals as goal

pub returns-then-mark_of-mark : goal.returns-then-mark_of-mark
returns-then-mark_of-mark c = λ n at.
    let ends = c.in_ok-low.ensures n at in
    let fits : FitsSigned w128 c.mark_of-mark.result = search rules in
    let one : c.mark_of.result ≡ c.mark_of-mark.result = first_of (cc, omega (arith, ints), search (rules, c.if-mark_of-mark.true), grind (arith, ints, c.if-mark_of-mark.true)) in
    mark_between c.args.agg.now c.args.kind c.in_ok-low.low n c.in_ok-low.high c.requires ends.0 ends.1 (sym c.mark_of.ensures ∙ (one ∙ c.mark_of-mark.ensures))
    ∙ (sym c.mark_of-mark.ensures ∙ sym (to_z-of_z w128 c.mark_of-mark.result fits))
