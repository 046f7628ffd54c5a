use Rattle.std.proofs.Common.{◌≡◌, Some, slice_get, IfOk, ap, sym, subst, ◌∙◌}
use Rattle.doc_value.specs.Documents.{IsOfKind}
use Rattle.doc_value.specs.declared.schema.Kind.TheVariants as kinds
use Rattle.doc_tallies.proofs.FieldValues.{text_value, text_in_list}
use Rattle.doc_tallies.proofs.column_values.value_of.Goals as goal

pub returns-in-Text : goal.returns-in-Text
returns-in-Text c = λ texts entries entry v holds got number kind held.
    let is : c.args.kind ≡ kinds.Text = cc in
    let found = text_value texts v entry.number (subst (λ k. IsOfKind k v) is kind) number in
    let same : c.value-number.result ≡ entry.number = c.value-number.ensures.only texts entries entry holds got in
    subst (λ w. IfOk c.text_of.result (λ o. o ≡ Some w)) (sym found.is) (c.text_of.ensures texts entries found.text holds (ap (λ n. slice_get texts n) same ∙ found.at))

pub returns-in-TextList : goal.returns-in-TextList
returns-in-TextList c = λ texts entries entry v holds got number kind held.
    let is : c.args.kind ≡ kinds.TextList = cc in
    let found = text_value texts v entry.number (text_in_list v (subst (λ k. IsOfKind k v) is kind)) number in
    let same : c.value-number.result ≡ entry.number = c.value-number.ensures.only texts entries entry holds got in
    subst (λ w. IfOk c.text_of-in-TextList.result (λ o. o ≡ Some w)) (sym found.is) (c.text_of-in-TextList.ensures texts entries found.text holds (ap (λ n. slice_get texts n) same ∙ found.at))
