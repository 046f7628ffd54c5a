use Rattle.std.proofs.Common.{◌≡◌, ◌<◌, ◌+◌, ◌∙◌, Some, refl, ap, sym, ℕ, length, arith}
use Rattle.fast_fields.specs.Columns.{numbers, greatest_of}
use Rattle.fast_fields.proofs.Places.{get_some, greatest_step, greatest_end, of_some_cons}
use Rattle.fast_fields.specs.Lookups.{greatest_before}
use Rattle.fast_fields.proofs.Looked.{greatest_none, greatest_more, any_is}
use Rattle.fast_fields.proofs.column.Column.greatest.Goals as goal

pub loop-place-preserved : goal.loop-place-preserved
loop-place-preserved c = (
  λ texts es h.
      let e = get_some es c.loop-place.place (omega (arith, h.count_is)) in
      let value = c.value.ensures.only texts es e.0 h e.1 in
      let step = greatest_step es c.loop-place.place e.0 c.loop-place.greatest (greatest_of (numbers es)) e.1 (c.loop-place.invariant.0 texts es h) in
      omega (arith, step, value, c.max-greatest.ensures),
  omega (arith, c.max-greatest.ensures, c.value.ensures.exact, c.loop-place.invariant.1, greatest_more c.args.self.now c.loop-place.place (c.loop-place.place + 1) refl),
)

pub returns-clause-only : goal.returns-clause-only
returns-clause-only c texts es h =
    let some : 0 < length es = omega (arith, h.count_is) in
    ap (λ (n : ℕ). Some n) (greatest_end es c.loop-place.place c.loop-place.greatest (greatest_of (numbers es)) (omega (arith, h.count_is)) (c.loop-place.invariant.0 texts es h))
    ∙ sym (of_some_cons es (greatest_of (numbers es)) some)

pub loop-place-init : goal.loop-place-init
loop-place-init c = (λ texts es h. omega arith, greatest_none c.args.self.now)

pub returns-clause-exact : goal.returns-clause-exact
returns-clause-exact c =
    let all : c.loop-place.place ≡ c.args.self.now.count = omega arith in
    ap (λ (n : ℕ). Some n) (c.loop-place.invariant.1 ∙ ap (λ (n : ℕ). greatest_before c.args.self.now n) all)
    ∙ sym (any_is c.args.self.now (greatest_before c.args.self.now c.args.self.now.count) (omega arith))
