use Rattle.doc_sets.proofs.ReadLookups.{each_reads}
use Rattle.doc_sets.specs.Reads.{ReadsAll}
use Rattle.std.proofs.Common.{◌≡◌, ◌∙◌, ◌<◌, List, length, sym, subst, MatchResult}
use Rattle.query_ast.specs.FieldTokens.{field_tokens}
use Rattle.query_ast.specs.Meaning.{each_holds, each_stands}
use Rattle.doc_value.specs.Documents.{values_in}
use Rattle.text_tokens.specs.declared.tokens.Token.{Token}
use Rattle.doc_sets.specs.Asking.{LacksLookups}
use Rattle.doc_sets.specs.Needed.{LacksKeys, token_keys}
use Rattle.doc_sets.specs.Texts.{lookups_for}
use Rattle.doc_sets.proofs.Looked.{keys_lack, wider_result}
use Rattle.doc_sets.specs.Sets.{IsSetOf}
use Rattle.doc_sets.proofs.TextLaws.{each_some, some_tokens}
use Rattle.doc_sets.proofs.WalkSteps.{result_alike_sets}
use Rattle.doc_sets.proofs.texts.gathered_documents.Goals as goal

pub returns-clause-only : goal.returns-clause-only
returns-clause-only c = λ s documents p is got on kind.
    let n = c.args.number in
    let f = c.args.field.now in
    let v = c.args.part.now in
    let text = c.args.text.now in
    let tok : c.as_slice-2.result.now ≡ field_tokens f text = c.as_slice-2.ensures ∙ c.in_ok-tokens.ensures in
    let some : 0 < length (field_tokens f text) = some_tokens c.as_slice.result.now (field_tokens f text) (c.as_slice.ensures ∙ c.in_ok-tokens.ensures) (sym c.is_empty.ensures ∙ c.if-is_empty.false) in
    let keys = token_keys n (field_tokens f text) in
    wider_result (IsSetOf (λ d. each_holds f (field_tokens f text) (values_in d n)) documents) (LacksKeys v s documents p keys) (LacksLookups v s documents p (lookups_for keys)) c.each_documents.result (keys_lack v s documents p keys)
    (result_alike_sets (LacksKeys v s documents p (token_keys n (field_tokens f text))) c.each_documents.result (λ d. each_stands f (field_tokens f text) (values_in d n)) (λ d. each_holds f (field_tokens f text) (values_in d n)) documents
    (λ d. each_some f (field_tokens f text) (values_in d n) some)
    (subst (λ (ts : List Token). MatchResult c.each_documents.result (IsSetOf (λ d. each_stands f ts (values_in d n)) documents) (LacksKeys v s documents p (token_keys n ts))) tok
    (c.each_documents.ensures.only s documents p is got on kind)))

pub returns-clause-reads : goal.returns-clause-reads
returns-clause-reads c =
    let n = c.args.number in
    let v = c.args.part.now in
    let tok : c.as_slice-2.result.now ≡ field_tokens c.args.field.now c.args.text.now = c.as_slice-2.ensures ∙ c.in_ok-tokens.ensures in
    subst (λ (ts : List Token). ReadsAll v (lookups_for (token_keys n ts)) c.each_documents.result) tok (each_reads v (token_keys n c.as_slice-2.result.now) c.each_documents.result c.each_documents.ensures.reads)
