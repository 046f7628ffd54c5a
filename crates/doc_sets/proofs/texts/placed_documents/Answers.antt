use Rattle.doc_sets.specs.Reads.{ReadsAll}
use Rattle.std.proofs.Common.{◌≡◌, ◌∙◌, ◌≤◌, ◌⊎◌, true, List, length, sym, subst, MatchResult}
use Rattle.query_ast.specs.FieldTokens.{field_tokens}
use Rattle.query_ast.specs.Meaning.{phrase_holds}
use Rattle.doc_value.specs.Documents.{values_in}
use Rattle.text_tokens.specs.declared.tokens.Token.{Token}
use Rattle.doc_sets.specs.Asked.{AreBehindFirst}
use Rattle.doc_sets.specs.Asking.{LacksLookups}
use Rattle.doc_sets.specs.Needed.{token_keys}
use Rattle.doc_sets.specs.Texts.{lookups_for}
use Rattle.doc_sets.specs.Sets.{IsSetOf}
use Rattle.doc_sets.proofs.PhraseTokens.{tokens_behind, can_phrase}
use Rattle.doc_sets.proofs.texts.placed_documents.Goals as goal

pub returns-clause-only : goal.returns-clause-only
returns-clause-only c = λ s documents p is got on kind place.
    let n = c.args.number in
    let f = c.args.field.now in
    let v = c.args.part.now in
    let text = c.args.text.now in
    let tok : c.as_slice.result.now ≡ field_tokens f text = c.as_slice.ensures ∙ c.in_ok-tokens.ensures in
    let can = subst (λ (ts : List Token). (f.positions ≡ true) ⊎ (length ts ≤ 1)) (sym tok) (can_phrase f.positions (length (field_tokens f text)) (place kind)) in
    let behind = subst AreBehindFirst (sym tok) (tokens_behind f text) in
    subst (λ (ts : List Token). MatchResult c.phrase_documents.result (IsSetOf (λ d. phrase_holds f ts (values_in d n)) documents) (LacksLookups v s documents p (lookups_for (token_keys n ts)))) tok
    (c.phrase_documents.ensures.only s documents p is got on kind can behind)

pub returns-clause-reads : goal.returns-clause-reads
returns-clause-reads c =
    let tok : c.as_slice.result.now ≡ field_tokens c.args.field.now c.args.text.now = c.as_slice.ensures ∙ c.in_ok-tokens.ensures in
    subst (λ (ts : List Token). ReadsAll c.args.part.now (lookups_for (token_keys c.args.number ts)) c.phrase_documents.result) tok c.phrase_documents.ensures.reads
