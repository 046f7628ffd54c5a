use Rattle.std.proofs.Common.{◌≡◌, ℕ, ◌+◌, ◌*◌, drop, get_or, subst, arith}
use Rattle.doc_sets.proofs.Steps.{none_behind}
use Rattle.leaf_search.specs.FileRanges.{AddsParts}
use Rattle.leaf_search.specs.Shown.{StartOf}
use Rattle.leaf_search.proofs.ShownParts.{each_next, each_none}
use Rattle.leaf_search.proofs.shown.name_starts.Goals as goal

pub loop-number-preserved : goal.loop-number-preserved
loop-number-preserved c = λ new adds.
    let ns = c.args.numbers.now in
    let i = c.loop-number.number-index in
    let fits = c.type_inv.numbers i in
    let first : AddsParts (StartOf (get_or ns i 0)) c.loop-number.ranges c.name_part.new.ranges =
    subst (λ (k : ℕ). AddsParts (λ at size. (at ≡ 4 + 8 * k) × (size ≡ 16)) c.loop-number.ranges c.name_part.new.ranges) c.from.ensures (c.in_ok-name_part.ensures (omega (arith, c.from.ensures, fits))) in
    c.loop-number.invariant new (each_next StartOf ns i c.loop-number.ranges c.name_part.new.ranges new c.loop-number-test.true first adds)

pub returns : goal.returns
returns c = c.loop-number.invariant c.loop-number.ranges (each_none StartOf (drop c.loop-number.number-index c.args.numbers.now) c.loop-number.ranges (none_behind c.args.numbers.now c.loop-number.number-index c.loop-number-test.false))
