use Rattle.std.proofs.Common.{[], true, sym, ◌∙◌, inl, inr}
use Rattle.std.proofs.lemmas.List.{append-nil}
use Rattle.term_postings.specs.Postings.{list_bytes, position_bytes}
use Rattle.split_bundle.proofs.Lent.{list_found, list_missing, places_found, places_missing}
use Rattle.split_bundle.proofs.parts.cursor_over.Goals as goal

pub returns-in-Ok-places_part-clause-only : goal.returns-in-Ok-places_part-clause-only
returns-in-Ok-places_part-clause-only c p list are same at =
    c.over.ensures.only true list [] [] at.are_documents at.docs
    (list_found p c.args.sections.now c.args.pieces.now are same c.args.info.now c.args.positions list at c.in-Ok.lists.now c.in-Ok.ensures.exact ∙ sym (append-nil (list_bytes c.args.positions list)))
    (λ told. places_found c.args.positions p c.args.sections.now c.args.pieces.now c.args.info.now list c.in-Ok-places_part.places.now are same at c.in-Ok-places_part.ensures ∙ sym (append-nil (position_bytes list)))

pub returns-in-Err-places_part-clause-only : goal.returns-in-Err-places_part-clause-only
returns-in-Err-places_part-clause-only c p list are same at =
    inr (places_missing c.args.positions p c.args.sections.now c.args.pieces.now c.args.info.now list c.in-Err-places_part.fault are same at c.in-Err-places_part.ensures)

pub returns-in-Err-clause-only : goal.returns-in-Err-clause-only
returns-in-Err-clause-only c p list are same at =
    inl (list_missing p c.args.sections.now c.args.pieces.now are same c.args.info.now c.args.positions list at c.in-Err.fault c.in-Err.ensures.exact)
