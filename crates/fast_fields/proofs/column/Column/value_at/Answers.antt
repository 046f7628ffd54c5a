use Rattle.std.proofs.Common.{◌∙◌, subst, Some, ap, sym, ℕ, arith}
use Rattle.fast_fields.specs.Readers.{count_below}
use Rattle.fast_fields.specs.Lookups.{IsBound}
use Rattle.fast_fields.proofs.Looked.{value_is, value_past, value_other}
use Rattle.fast_fields.proofs.Places.{get_some, first_there, first_past, first_other}
use Rattle.fast_fields.proofs.column.Column.value_at.Goals as goal
use Rattle.fast_fields.proofs.column.Column.value_at.Goals.{else-place-self-via-then-place-self+else-document_of-document, else-place-self-via-else-place-self}

pub returns-then-document_of-document-clause-only : goal.returns-then-document_of-document-clause-only
returns-then-document_of-document-clause-only c texts es h =
    let count = c.places_below-place.ensures.only texts es h ∙ ap (λ (d : ℕ). count_below d es) c.from.ensures in
    let e = get_some es c.places_below-place.result (omega (arith, h.count_is)) in
    let document = sym (c.document_of.ensures.only texts es e.0 h e.1) ∙ c.if-document_of-document.true in
    ap (λ (n : ℕ). Some n) (c.value.ensures.only texts es e.0 h e.1) ∙ sym (first_there c.args.document es c.places_below-place.result e.0 h.fits.rise count e.1 document)

pub returns-clause-only : goal.returns-clause-only
returns-clause-only c texts es h =
    let count = c.places_below-place.ensures.only texts es h ∙ ap (λ (d : ℕ). count_below d es) c.from.ensures in
    elim c.else-place-self.branch [
      | else-place-self-via-then-place-self+else-document_of-document w ↦
          let e = get_some es c.places_below-place.result (omega (arith, h.count_is)) in
          sym (first_other c.args.document es c.places_below-place.result e.0 h.fits.rise count e.1 (λ same. w.if-document_of-document.false (w.document_of.ensures.only texts es e.0 h e.1 ∙ same)))
      | else-place-self-via-else-place-self w ↦ sym (first_past c.args.document es h.fits.rise (omega (arith, h.count_is, count)))
    ]

pub returns-then-document_of-document-clause-exact : goal.returns-then-document_of-document-clause-exact
returns-then-document_of-document-clause-exact c =
    let bound = subst (λ (d : ℕ). IsBound c.args.self.now d c.places_below-place.result) c.from.ensures c.places_below-place.ensures.exact in
    let same = sym c.document_of.ensures.exact ∙ c.if-document_of-document.true in
    (c.places_below-place.result, bound, ap (λ (n : ℕ). Some n) c.value.ensures.exact ∙ sym (value_is c.args.self.now c.args.document c.places_below-place.result (omega arith) same))

pub returns-clause-exact : goal.returns-clause-exact
returns-clause-exact c =
    let bound = subst (λ (d : ℕ). IsBound c.args.self.now d c.places_below-place.result) c.from.ensures c.places_below-place.ensures.exact in
    elim c.else-place-self.branch [
      | else-place-self-via-then-place-self+else-document_of-document w ↦
          (c.places_below-place.result, bound, sym (value_other c.args.self.now c.args.document c.places_below-place.result (λ same. w.if-document_of-document.false (w.document_of.ensures.exact ∙ same))))
      | else-place-self-via-else-place-self w ↦ (c.places_below-place.result, bound, sym (value_past c.args.self.now c.args.document c.places_below-place.result (omega arith)))
    ]
