use Rattle.std.proofs.Common.{◌+◌, ◌-◌, ◌/◌, ◌∙◌, ℕ, ap, sym, subst, ◌<◌, ◌≡◌, ◌≤◌, arith}
use Rattle.fast_fields.proofs.Places.{get_some, count_up, count_down}
use Rattle.fast_fields.specs.Lookups.{document_of}
use Rattle.fast_fields.proofs.Bounds.{between_counts}
use Rattle.fast_fields.proofs.column.Column.places_below.Goals as goal

pub loop-low-init : goal.loop-low-init
loop-low-init c =
    let b = c.near-low.ensures in
    (b.order, b.within, λ texts es h. between_counts c.args.self.now texts es c.args.document c.near-low.result.0 c.near-low.result.1 h c.near-low.ensures, b.before, b.behind)

pub loop-low-preserved-then-from-document : goal.loop-low-preserved-then-from-document
loop-low-preserved-then-from-document c = (
  omega arith,
  omega (arith, c.loop-low.invariant.1),
  λ texts es h.
      let middle = c.loop-low.low + (c.loop-low.high - c.loop-low.low) / 2 in
      let e = get_some es (c.loop-low.low + (c.loop-low.high - c.loop-low.low) / 2) (omega (arith, h.count_is, c.loop-low.invariant.1)) in
      let document = c.document_of.ensures.only texts es e.0 h e.1 in
      (count_up c.args.document es (c.loop-low.low + (c.loop-low.high - c.loop-low.low) / 2) e.0 h.fits.rise e.1 (omega (arith, document)), (c.loop-low.invariant.2 texts es h).1),
  λ some.
      let middle : c.loop-low.low + (c.loop-low.high - c.loop-low.low) / 2 + 1 - 1 ≡ c.loop-low.low + (c.loop-low.high - c.loop-low.low) / 2 = omega arith in
      let document = c.document_of.ensures.exact ∙ ap (λ (n : ℕ). document_of c.args.self.now n) (sym middle) in
      omega (arith, document),
  c.loop-low.invariant.4,
)

pub loop-low-preserved : goal.loop-low-preserved
loop-low-preserved c = (
  omega arith,
  omega (arith, c.loop-low.invariant.1),
  λ texts es h.
      let e = get_some es (c.loop-low.low + (c.loop-low.high - c.loop-low.low) / 2) (omega (arith, h.count_is, c.loop-low.invariant.1)) in
      let document = c.document_of.ensures.only texts es e.0 h e.1 in
      ((c.loop-low.invariant.2 texts es h).0, count_down c.args.document es (c.loop-low.low + (c.loop-low.high - c.loop-low.low) / 2) e.0 h.fits.rise e.1 (omega (arith, document))),
  c.loop-low.invariant.3,
  λ some. let document = c.document_of.ensures.exact in omega (arith, document),
)

pub returns-clause-exact : goal.returns-clause-exact
returns-clause-exact c =
    let met : c.loop-low.high ≡ c.loop-low.low = omega arith in
    record {
      within = omega (arith, c.loop-low.invariant.1);
      before = c.loop-low.invariant.3;
      behind = subst (λ (n : ℕ). n < c.args.self.now.count → c.args.document ≤ document_of c.args.self.now n) met c.loop-low.invariant.4;
    }
