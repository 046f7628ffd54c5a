use Rattle.std.proofs.Common.{List, ℕ, subst, sym, MatchResult}
use Rattle.query_ast.specs.Meaning.{quoted_holds, word_holds}
use Rattle.doc_value.specs.Documents.{values_in}
use Rattle.doc_sets.specs.Asking.{LacksLookups}
use Rattle.doc_sets.specs.Sets.{IsSetOf}
use Rattle.doc_sets.specs.Texts.{text_lookups}
use Rattle.query_ast.specs.Askable.{CanPlace}
use Rattle.doc_sets.proofs.TextLaws.{item_quoted, item_word}
use Rattle.doc_sets.proofs.texts.item_documents.Goals as goal

pub returns-then-item-clause-only : goal.returns-then-item-clause-only
returns-then-item-clause-only c = λ s documents p is got on place.
    let n = c.args.number in
    let f = c.args.field.now in
    let v = c.args.part.now in
    item_quoted v s documents p n f c.args.item.now c.quoted_documents.result c.if-item.true
    (subst (λ (t : List ℕ). MatchResult c.quoted_documents.result (IsSetOf (λ d. quoted_holds f t (values_in d n)) documents) (LacksLookups v s documents p (text_lookups f n t))) c.as_str.ensures
    (c.quoted_documents.ensures.only s documents p is got on (subst (CanPlace f) (sym c.as_str.ensures) (place c.if-item.true))))

pub returns-else-item-clause-only : goal.returns-else-item-clause-only
returns-else-item-clause-only c = λ s documents p is got on place.
    let n = c.args.number in
    let f = c.args.field.now in
    let v = c.args.part.now in
    item_word v s documents p n f c.args.item.now c.word_documents.result c.if-item.false
    (subst (λ (t : List ℕ). MatchResult c.word_documents.result (IsSetOf (λ d. word_holds f t (values_in d n)) documents) (LacksLookups v s documents p (text_lookups f n t))) c.as_str-else-item.ensures
    (c.word_documents.ensures.only s documents p is got on))
