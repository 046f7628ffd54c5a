use Rattle.std.proofs.Common.{◌≡◌, ◌<◌, ◌≤◌, ◌+◌, ◌-◌, ◌*◌, ◌^◌, ◌∙◌, ℕ, ap, subst, arith}
use Rattle.std.proofs.lemmas.Nat.{leading_length, pow-add}
use Rattle.fast_fields.specs.Packed.{IsWidth}
use Rattle.fast_fields.proofs.encode.width_of.Goals as goal

width_is : (n m : ℕ) → n < 2 ^ m → 2 ^ m ≤ 2 * n + 1 → IsWidth n m
width_is n m within most = record {
  within = within;
  fewest = λ some.
      (let power : 2 ^ m ≡ 2 * 2 ^ (m - 1) = ap (λ (k : ℕ). 2 ^ k) (omega arith) ∙ pow-add 2 1 (m - 1) in
      omega (arith, power, most));
}

pub returns-clause-width : goal.returns-clause-width
returns-clause-width c =
    let l = leading_length 64 c.args.number (omega arith) in
    subst (λ (w : ℕ). IsWidth c.args.number w) (omega (arith, l.1)) (width_is c.args.number l.0 l.2 l.3)
