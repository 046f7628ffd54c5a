use Rattle.std.proofs.Common.{◌≡◌, ◌∙◌, Option, Some, sym, subst, MatchResult}
use Rattle.doc_value.specs.declared.doc.Value.{Value}
use Rattle.query_ast.specs.Meaning.{equals_some}
use Rattle.doc_value.specs.Documents.{values_in}
use Rattle.query_ast.specs.Spelled.{spelled}
use Rattle.doc_sets.specs.Asking.{LacksLookups}
use Rattle.doc_sets.specs.Needed.{LacksKeys}
use Rattle.doc_sets.specs.Sets.{IsSetOf}
use Rattle.doc_sets.specs.Texts.{lookups_for, value_keys}
use Rattle.doc_sets.proofs.Looked.{keys_lack, wider_result}
use Rattle.doc_sets.proofs.TextLaws.{spelled_kind}
use Rattle.doc_sets.proofs.texts.spelled_documents.Goals as goal

pub returns-in-Some-clause-only : goal.returns-in-Some-clause-only
returns-in-Some-clause-only c = λ s documents p is got on no_text.
    let n = c.args.number in
    let f = c.args.field.now in
    let v = c.args.part.now in
    let text = c.args.text.now in
    let spells : spelled f.kind text ≡ Some c.in-Some.value = sym c.in_ok-value.ensures ∙ c.in-Some.is in
    subst (λ (o : Option Value). MatchResult c.value_documents.result (IsSetOf (λ d. equals_some o (values_in d n)) documents) (LacksLookups v s documents p (lookups_for (value_keys n o)))) (sym spells)
    (wider_result (IsSetOf (λ d. equals_some (Some c.in-Some.value) (values_in d n)) documents) (LacksKeys v s documents p (value_keys n (Some c.in-Some.value))) (LacksLookups v s documents p (lookups_for (value_keys n (Some c.in-Some.value))))
    c.value_documents.result (keys_lack v s documents p (value_keys n (Some c.in-Some.value)))
    (c.value_documents.ensures.only s documents p is got on no_text (spelled_kind f.kind text c.in-Some.value spells)))
