use Rattle.std.proofs.Common.{◌<◌, ℕ, List, length, get_or, refl, ap, sym, ◌∙◌}
use Rattle.std.proofs.lemmas.List.{take_all}
use Rattle.doc_tallies.specs.Times.{lies_within, numbers_within}
use Rattle.doc_tallies.proofs.TimeValues.{lies_is, stands, within_step}
use Rattle.doc_tallies.proofs.times.times_in.Goals as goal

pub loop-number-preserved : goal.loop-number-preserved
loop-number-preserved c = λ s documents field of ts is limited below.
    let times = c.args.times in
    let i = c.loop-number.number-index in
    let ns = c.args.numbers.now in
    let n : ℕ = get_or ns i 0 in
    let lt : i < length ns = c.loop-number-test.true in
    let at = stands documents n (below i 0 lt) in
    within_step (lies_within s times documents) ns c.loop-number.within.items c.push_if.new.numbers.items i n c.lies_in-kept.result lt refl
    (c.loop-number.invariant s documents field of ts is limited below)
    (c.lies_in-kept.ensures s documents field at.document of ts is limited at.here ∙ sym (lies_is s times documents n at.document at.here))
    c.in_ok-push_if.ensures

pub returns : goal.returns
returns c = λ s documents field of ts is limited below.
    c.loop-number.invariant s documents field of ts is limited below
    ∙ ap (λ (xs : List ℕ). numbers_within s c.args.times documents xs) (take_all c.loop-number.number-index c.args.numbers.now c.loop-number-test.false)
