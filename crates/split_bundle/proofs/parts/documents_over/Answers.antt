use Rattle.std.proofs.Common.{◌≡◌, true, false, [], sym, ◌∙◌}
use Rattle.std.proofs.lemmas.List.{append-nil}
use Rattle.term_postings.specs.Postings.{list_bytes}
use Rattle.split_bundle.proofs.Lent.{list_found, list_missing}
use Rattle.split_bundle.proofs.parts.documents_over.Goals as goal

pub returns-in-Ok-clause-only : goal.returns-in-Ok-clause-only
returns-in-Ok-clause-only c p list are same at =
    c.over.ensures.only false list [] [] at.are_documents at.docs
    (list_found p c.args.sections.now c.args.pieces.now are same c.args.info.now c.args.counted list at c.in-Ok.lists.now c.in-Ok.ensures.exact ∙ sym (append-nil (list_bytes c.args.counted list)))
    (λ told. absurd (let never : false ≡ true = told in cc))

pub returns-in-Err-clause-only : goal.returns-in-Err-clause-only
returns-in-Err-clause-only c p list are same at = list_missing p c.args.sections.now c.args.pieces.now are same c.args.info.now c.args.counted list at c.in-Err.fault c.in-Err.ensures.exact
