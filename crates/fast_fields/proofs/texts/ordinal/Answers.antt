use Rattle.std.proofs.Common.{◌≡◌, ◌+◌, ◌-◌, ◌/◌, ◌∙◌, ℕ, ap, sym, arith}
use Rattle.std.specs.Prelude.{slice_get}
use Rattle.fast_fields.specs.Texts.{texts_in}
use Rattle.fast_fields.proofs.Below.{among_at, stands_above, stands_not_above}
use Rattle.fast_fields.proofs.Gathered.{loan_at, no_loan}
use Rattle.fast_fields.proofs.texts.ordinal.Goals as goal

pub loop-low-preserved-then-is_below : goal.loop-low-preserved-then-is_below
loop-low-preserved-then-is_below c = (
  omega arith,
  c.loop-low.invariant.1,
  λ n is.
      let middle = c.loop-low.low + (c.loop-low.high - c.loop-low.low) / 2 in
      let at = loan_at c.args.texts.now (c.loop-low.low + (c.loop-low.high - c.loop-low.low) / 2) no_loan (omega (arith, c.loop-low.invariant.1)) in
      let above = stands_above (texts_in c.args.texts.now) (c.loop-low.low + (c.loop-low.high - c.loop-low.low) / 2) n _ c.args.text.now c.requires.rise at is (sym c.is_below.ensures ∙ c.if-is_below.true) in
      (omega arith, (c.loop-low.invariant.2 n is).1),
)

pub loop-low-preserved : goal.loop-low-preserved
loop-low-preserved c = (
  omega arith,
  omega (arith, c.loop-low.invariant.1),
  λ n is.
      let middle = c.loop-low.low + (c.loop-low.high - c.loop-low.low) / 2 in
      let at = loan_at c.args.texts.now (c.loop-low.low + (c.loop-low.high - c.loop-low.low) / 2) no_loan (omega (arith, c.loop-low.invariant.1)) in
      let above = stands_not_above (texts_in c.args.texts.now) (c.loop-low.low + (c.loop-low.high - c.loop-low.low) / 2) n _ c.args.text.now c.requires.rise at is (sym c.is_below.ensures ∙ c.if-is_below.false) in
      ((c.loop-low.invariant.2 n is).0, omega arith),
)

pub returns : goal.returns
returns c =
    let there = among_at (texts_in c.args.texts.now) c.args.text.now c.requires.among in
    let bounds = c.loop-low.invariant.2 there.0 there.2 in
    let place : c.loop-low.low ≡ there.0 = omega (arith, bounds.0, bounds.1) in
    ap (λ (n : ℕ). slice_get (texts_in c.args.texts.now) n) place ∙ there.2
