use Rattle.std.proofs.Common.{◌≡◌, ℕ, ℤ, arith, ne_eqb}
use Rattle.std.specs.Prelude.{◌/◌, ◌%◌, pos, negsuc}
use Rattle.std.proofs.lemmas.Int.{ints}
use Rattle.byte_fields.specs.Reading.{unzigzag}
use Rattle.byte_fields.proofs.take.unzigzag.Goals as goal

even : (n : ℕ) (z : ℤ) → n % 2 ≡ 0 → z ≡ pos (n / 2) → z ≡ unzigzag n
even n z h e = rw h e

odd : (n : ℕ) (z : ℤ) → (n % 2 ≡ 0 → ⊥) → z ≡ negsuc (n / 2) → z ≡ unzigzag n
odd n z h e = rw (ne_eqb (n % 2) 0 h) e

pub overflow_cast-half : goal.overflow_cast-half
overflow_cast-half c = omega (arith, ints)

pub overflow_sub-result : goal.overflow_sub-result
overflow_sub-result c = omega (arith, ints)

pub overflow_sub-result-else-number-eq0 : goal.overflow_sub-result-else-number-eq0
overflow_sub-result-else-number-eq0 c = omega (arith, ints)

pub returns-then-number-eq0 : goal.returns-then-number-eq0
returns-then-number-eq0 c = even c.args.number _ c.if-number-eq0.true (omega (arith, ints))

pub returns-else-number-eq0 : goal.returns-else-number-eq0
returns-else-number-eq0 c = odd c.args.number _ c.if-number-eq0.false (omega (arith, ints))
