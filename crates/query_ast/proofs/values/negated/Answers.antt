use Rattle.std.proofs.Common.{◌≡◌, ℕ, ◌-◌, ◌^◌, ◌<◌, ◌≤◌, ℤ, Some, None, refl, ap, sym, ◌∙◌, arith}
use Rattle.std.specs.Prelude.{negsuc, zero, suc}
use Rattle.std.proofs.lemmas.Bool.{le-leb, lt-leb}
use Rattle.std.proofs.lemmas.Int.{ints}
use Rattle.query_ast.specs.Spelled.{negative}
use Rattle.query_ast.proofs.values.negated.Goals as goal

large : (n : ℕ) → 2 ^ 63 < n → negative n ≡ None
large n l = rw (lt-leb n (2 ^ 63) l) refl

small : (n : ℕ) (z : ℤ) → n ≤ 2 ^ 63 → (n ≡ 0 → ⊥) → z ≡ negsuc (n - 1) → negative n ≡ Some z
small zero z l p e = absurd (p refl)
small (suc n) z l p e = rw (le-leb (suc n) (2 ^ 63) l) (ap Some (sym (e ∙ ap negsuc (omega arith))))

pub overflow_cast-result : goal.overflow_cast-result
overflow_cast-result c = omega (arith, ints)

pub overflow_sub-result-else-size-eq0 : goal.overflow_sub-result-else-size-eq0
overflow_sub-result-else-size-eq0 c = omega (arith, ints)

pub overflow_sub-result-else-size-eq0-2 : goal.overflow_sub-result-else-size-eq0-2
overflow_sub-result-else-size-eq0-2 c = omega (arith, ints)

pub returns-then-size : goal.returns-then-size
returns-then-size c = sym (large c.args.size c.if-size.true)

pub returns-else-size-eq0 : goal.returns-else-size-eq0
returns-else-size-eq0 c = sym (small c.args.size _ c.if-size.false c.if-size-eq0.false (omega (arith, ints)))
