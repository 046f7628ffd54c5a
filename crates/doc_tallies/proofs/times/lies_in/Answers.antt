use Rattle.std.proofs.Common.{◌≡◌, ◌&&◌, Some, None, false, ap, sym, ◌∙◌, arith, to_z, of_z, w64, to_z-of_z}
use Rattle.query_ast.specs.Meaning.{from_start, before_end}
use Rattle.doc_tallies.proofs.TimeValues.{time_first, within_is}
use Rattle.doc_tallies.proofs.times.lies_in.Goals as goal

pub returns-in-Some : goal.returns-in-Some
returns-in-Some c = λ s documents field d of ts is limited got.
    let times = c.args.times in
    let t = time_first times s documents field c.args.number c.args.column.now d (Some c.in-Some.turned) of ts is got (c.in-Some.ensures.only is.texts is.entries is.holds) in
    let back : to_z w64 (of_z w64 c.signed.result) ≡ c.signed.result = grind (arith, to_z-of_z) in
    let z : to_z w64 (of_z w64 c.signed.result) ≡ t.second = back ∙ c.signed.ensures.only t.second t.turned_is t.fits in
    sym (within_is s times d.doc field c.is_within.result limited ts (t.within ∙ sym (c.is_within.ensures ∙ ap (λ x. from_start times.start x && before_end times.end x) z)))

pub returns-in-None : goal.returns-in-None
returns-in-None c = λ s documents field d of ts is limited got.
    sym (within_is s c.args.times d.doc field false limited ts
    (time_first c.args.times s documents field c.args.number c.args.column.now d None of ts is got (c.in-None.ensures.only is.texts is.entries is.holds)))
