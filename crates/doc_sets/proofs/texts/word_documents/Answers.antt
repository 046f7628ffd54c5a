use Rattle.std.proofs.Common.{◌≡◌, ◌∙◌, sym, true, false}
use Rattle.query_ast.specs.Meaning.{is_text}
use Rattle.doc_sets.proofs.texts.word_documents.Goals as goal

pub returns-then-not-field-clause-only : goal.returns-then-not-field-clause-only
returns-then-not-field-clause-only c = λ s documents p is got on.
    let kind : is_text c.args.field.now.kind ≡ true = sym c.is_text.ensures ∙ c.if-is_text.true in
    let unplaced : c.args.field.now.positions ≡ false = c.if-not-field.true in
    rw (kind, unplaced) (c.gathered_documents.ensures.only s documents p is got on kind)
