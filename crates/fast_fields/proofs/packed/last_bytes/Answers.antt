use Rattle.std.proofs.Common.{◌≡◌, ◌+◌, ◌-◌, ◌*◌, ◌%◌, ◌^◌, ◌∙◌, ℕ, length, get_or, ap, arith}
use Rattle.fast_fields.proofs.Numbers.{none_left, byte_joined}
use Rattle.fast_fields.proofs.packed.last_bytes.Goals as goal

pub loop-step-init : goal.loop-step-init
loop-step-init c = none_left c.args.bytes.now (length c.args.bytes.now - 0) (omega arith)

pub loop-step-preserved : goal.loop-step-preserved
loop-step-preserved c =
    let place : length c.args.bytes.now - 1 - c.loop-step.step ≡ length c.args.bytes.now - (c.loop-step.step + 1) = omega arith in
    let byte = c.from.ensures ∙ ap (λ (i : ℕ). get_or c.args.bytes.now i 0) place in
    byte_joined c.args.bytes.now (length c.args.bytes.now - (c.loop-step.step + 1)) (length c.args.bytes.now - c.loop-step.step) c.loop-step.value
    ((c.loop-step.value * 256 % 2 ^ 64 + c.from.result) % 2 ^ 64) (λ i. omega (arith, c.type_inv.bytes i)) (omega arith) (omega (arith, c.requires.few)) (omega arith) c.loop-step.invariant
    (ap (λ (b : ℕ). (c.loop-step.value * 256 % 2 ^ 64 + b) % 2 ^ 64) byte)
