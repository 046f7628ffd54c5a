use Rattle.std.proofs.Common.{◌<◌, drop, get_or, length}
use Rattle.std.proofs.lemmas.List.Elements.{Contains-get_or}
use Rattle.doc_sets.specs.Faults.{LacksPart}
use Rattle.doc_sets.proofs.Causes.{cause_wider, handed_on}
use Rattle.doc_sets.proofs.Steps.{none_behind}
use Rattle.doc_tallies.proofs.TimeValues.{stands}
use Rattle.leaf_search.specs.FileRanges.{AddsParts}
use Rattle.leaf_search.specs.Shown.{BytesOf, OfEach, StartOf}
use Rattle.leaf_search.proofs.ShownParts.{each_next, each_none}
use Rattle.leaf_search.proofs.shown.name_shown.Goals as goal

pub loop-number-preserved : goal.loop-number-preserved
loop-number-preserved c = λ s documents p new part below adds.
    let ns = c.args.numbers.now in
    let i = c.loop-number.number-index in
    let lt : i < length ns = c.loop-number-test.true in
    let at = stands documents (get_or ns i 0) (below i 0 lt) in
    c.loop-number.invariant s documents p new part below
    (each_next (BytesOf p documents) ns i c.loop-number.ranges c.name_bytes.new.ranges new lt (c.in_ok-name_bytes.ensures s documents p at.document part at.here) adds)

pub returns-in_err-name_bytes : goal.returns-in_err-name_bytes
returns-in_err-name_bytes c = λ s documents p part below.
    let v = c.args.view.now in
    let ns = c.args.numbers.now in
    let i = c.loop-number.number-index in
    let lt : i < length ns = c.loop-number-test.true in
    let n = get_or ns i 0 in
    let at = stands documents n (below i 0 lt) in
    let e = c.in_err-name_bytes.field-0.0 in
    handed_on (λ (u : Unit {0}). AddsParts (OfEach (BytesOf p documents) ns) c.args.ranges.now c.name_bytes.new.ranges) (LacksPart (OfEach StartOf ns) v.pieces) c.from_residual.result e c.from_residual.ensures.1
    (cause_wider (StartOf n) (OfEach StartOf ns) v.pieces e (λ a l h. record { number = n; among = Contains-get_or ns i 0 lt; is_part = h }) (c.in_err-name_bytes.ensures s documents p at.document part at.here))

pub returns : goal.returns
returns c = λ s documents p part below.
    c.loop-number.invariant s documents p c.loop-number.ranges part below
    (each_none (BytesOf p documents) (drop c.loop-number.number-index c.args.numbers.now) c.loop-number.ranges (none_behind c.args.numbers.now c.loop-number.number-index c.loop-number-test.false))
