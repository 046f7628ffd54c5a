use Rattle.std.proofs.Common.{◌∙◌, sym}
use Rattle.doc_sets.proofs.TextLaws.{quoted_text, quoted_value}
use Rattle.doc_sets.proofs.texts.quoted_documents.Goals as goal

pub returns-then-is_text-clause-only : goal.returns-then-is_text-clause-only
returns-then-is_text-clause-only c = λ s documents p is got on place.
    let kind = sym c.is_text.ensures ∙ c.if-is_text.true in
    quoted_text c.args.part.now s documents p c.args.number c.args.field.now c.args.text.now c.placed_documents.result kind (c.placed_documents.ensures.only s documents p is got on kind place)

pub returns-else-is_text-clause-only : goal.returns-else-is_text-clause-only
returns-else-is_text-clause-only c = λ s documents p is got on place.
    let kind = sym c.is_text.ensures ∙ c.if-is_text.false in
    quoted_value c.args.part.now s documents p c.args.number c.args.field.now c.args.text.now c.spelled_documents.result kind (c.spelled_documents.ensures.only s documents p is got on kind)
