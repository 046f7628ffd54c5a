use Rattle.std.proofs.Common.{◌+◌, ◌-◌, ◌*◌, ◌/◌, ◌%◌, ◌^◌, ◌∙◌, ℕ, bit_and, ap, arith}
use Rattle.std.proofs.lemmas.Nat.{and_mask}
use Rattle.fast_fields.proofs.Numbers.{read_in_eight, read_in_nine}
use Rattle.fast_fields.proofs.packed.bits_from.Goals as goal

pub returns-then-shift-width-le64 : goal.returns-then-shift-width-le64
returns-then-shift-width-le64 c =
    let low = c.window.result / 2 ^ (c.args.start % 8) in
    ap (λ (m : ℕ). bit_and (c.window.result / 2 ^ (c.args.start % 8)) m) c.low_bits-mask.ensures ∙ and_mask (c.window.result / 2 ^ (c.args.start % 8)) c.args.width
    ∙ read_in_eight c.args.bytes.now (c.args.start / 8) (c.args.start % 8) c.args.width c.window.result c.args.start (λ i. omega (arith, c.type_inv.bytes i)) (omega (arith, c.requires.within))
    c.if-shift-width-le64.true (omega arith) c.window.ensures

pub returns : goal.returns
returns c =
    let low = (c.window.result / 2 ^ (c.args.start % 8) + c.from.result * 2 ^ (64 - c.args.start % 8) % 2 ^ 64) % 2 ^ 64 in
    ap (λ (m : ℕ). bit_and ((c.window.result / 2 ^ (c.args.start % 8) + c.from.result * 2 ^ (64 - c.args.start % 8) % 2 ^ 64) % 2 ^ 64) m) c.low_bits-mask.ensures
    ∙ and_mask ((c.window.result / 2 ^ (c.args.start % 8) + c.from.result * 2 ^ (64 - c.args.start % 8) % 2 ^ 64) % 2 ^ 64) c.args.width
    ∙ ap (λ (b : ℕ). (c.window.result / 2 ^ (c.args.start % 8) + b * 2 ^ (64 - c.args.start % 8) % 2 ^ 64) % 2 ^ 64 % 2 ^ c.args.width) c.from.ensures
    ∙ read_in_nine c.args.bytes.now (c.args.start / 8) (c.args.start % 8) c.args.width c.window.result c.args.start (λ i. omega (arith, c.type_inv.bytes i)) (omega (arith, c.requires.within))
    (omega arith) c.requires.narrow (omega arith) c.window.ensures
