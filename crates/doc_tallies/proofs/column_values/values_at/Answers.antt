use Rattle.std.proofs.Common.{◌+◌, ◌-◌, ◌∷◌, [], ◌++◌, List, ap, ◌∙◌, arith}
use Rattle.std.proofs.lemmas.List.{take_all}
use Rattle.doc_value.specs.declared.doc.Value.{Value}
use Rattle.doc_value.specs.Documents.{values_in}
use Rattle.split_bundle.specs.Held.{IsHeldValue}
use Rattle.doc_tallies.proofs.FieldValues.{each_at, kind_at}
use Rattle.doc_tallies.proofs.Owned.{owned, place_of, past_all}
use Rattle.doc_tallies.proofs.Taken.{take_push}
use Rattle.doc_tallies.proofs.column_values.values_at.Goals as goal

pub loop-place-preserved : goal.loop-place-preserved
loop-place-preserved c = λ documents d is got of_kind held.
    let f = c.args.field.now in
    let vs = values_in d.doc f.number in
    let own = owned is.texts f.number c.args.document documents d is.entries is.are_entries got in
    let range = c.values_of-from.ensures.only is.texts is.entries is.holds in
    let from = c.values_of-from.result.0 in
    let place = c.loop-place.place in
    let j = place - from in
    let at = place_of is.texts c.args.document vs is.entries own from c.values_of-from.result.1 place range.0 range.1 c.loop-place.auto.place c.loop-place-test.true in
    let pushed = c.in_ok-add_value.ensures is.texts is.entries at.entry at.value is.holds at.entry_is at.is_number (kind_at f.kind vs j at.value of_kind at.value_is) (each_at IsHeldValue vs j at.value held at.value_is) in
    pushed ∙ (ap (λ (xs : List Value). xs ++ at.value ∷ []) (c.loop-place.invariant documents d is got of_kind held) ∙ take_push vs j (place + 1 - from) at.value (let le = c.loop-place.auto.place in omega arith) at.value_is)

pub returns : goal.returns
returns c = λ documents d is got of_kind held.
    let f = c.args.field.now in
    let vs = values_in d.doc f.number in
    let own = owned is.texts f.number c.args.document documents d is.entries is.are_entries got in
    let range = c.values_of-from.ensures.only is.texts is.entries is.holds in
    let from = c.values_of-from.result.0 in
    let place = c.loop-place.place in
    c.loop-place.invariant documents d is got of_kind held ∙ take_all (place - from) vs (past_all is.texts c.args.document vs is.entries own from c.values_of-from.result.1 place range.0 range.1 c.loop-place-test.false)
