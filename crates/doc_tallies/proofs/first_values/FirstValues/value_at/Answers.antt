use Rattle.std.proofs.Common.{◌≡◌, ◌<◌, ◌-◌, ℕ, Some, ap, sym, subst, ◌∙◌, arith}
use Rattle.fast_fields.specs.Lookups.{IsBetween, document_of}
use Rattle.fast_fields.specs.Readers.{count_below}
use Rattle.fast_fields.proofs.Bounds.{between_counts}
use Rattle.fast_fields.proofs.Places.{first_there, get_some}
use Rattle.doc_tallies.proofs.first_values.FirstValues.value_at.Goals as goal

pub returns-then-follows-clause-only : goal.returns-then-follows-clause-only
returns-then-follows-clause-only c = λ texts es h.
    let d = c.args.document in
    let column = c.args.self.now.column in
    let same : c.document_of.result ≡ c.args.document = omega arith in
    let follows : c.args.self.now.next ≡ c.args.document = omega arith in
    let here : document_of c.args.self.now.column c.args.document ≡ c.args.document = sym c.document_of.ensures.exact ∙ same in
    let between : IsBetween c.args.self.now.column c.args.document c.args.document c.args.document = record {
      order = omega arith;
      within = omega arith;
      before = subst (λ (n : ℕ). 0 < n → document_of c.args.self.now.column (n - 1) < n) follows c.args.self.now.behind.before;
      behind = λ lt. omega (arith, here);
    } in
    let counts = between_counts column texts es d d d h between in
    let at : c.args.document ≡ count_below c.args.document es = omega (arith, counts.0, counts.1) in
    let e = get_some es d (omega (arith, h.count_is)) in
    ap (λ (n : ℕ). Some n) (c.value.ensures.only texts es e.0 h e.1)
    ∙ sym (first_there d es d e.0 h.fits.rise at e.1 (sym (c.document_of.ensures.only texts es e.0 h e.1) ∙ same))
