use Rattle.std.proofs.Common.{true, false, refl}
use Rattle.split_build.proofs.SaidLemmas.{added_placed, added_plain, on_places, on_three}
use Rattle.split_build.proofs.terms.TermLog.add.Goals as goal

pub returns-then-kept : goal.returns-then-kept
returns-then-kept c = λ s kept.
    on_three c.push.result _ _ _ _ c.push.ensures.numbers c.push.ensures.documents (on_places c.push.result true _ c.push.ensures.places) (λ numbers documents places log h.
    added_placed s log (record { key = c.args.key.now; document = c.args.document; place = c.args.place }) c.args.kept c.in_ok-number.number c.args.self.now
    (record { keys = c.number_of.new.keys; hints = c.number_of.new.hints; placed = c.push.new.self; plain = c.args.self.now.plain }) c.if-kept.true kept c.in_ok-number.ensures.grown c.in_ok-number.ensures.number
    (record { numbers = numbers; documents = documents; places = places }) refl h)

pub returns-else-kept : goal.returns-else-kept
returns-else-kept c = λ s kept.
    on_three c.push-else-kept.result _ _ _ _ c.push-else-kept.ensures.numbers c.push-else-kept.ensures.documents (on_places c.push-else-kept.result false _ c.push-else-kept.ensures.places) (λ numbers documents places log h.
    added_plain s log (record { key = c.args.key.now; document = c.args.document; place = c.args.place }) c.args.kept c.in_ok-number.number c.args.self.now
    (record { keys = c.number_of.new.keys; hints = c.number_of.new.hints; placed = c.args.self.now.placed; plain = c.push-else-kept.new.self }) c.if-kept.false kept c.in_ok-number.ensures.grown c.in_ok-number.ensures.number
    (record { numbers = numbers; documents = documents; places = places }) refl h)
