use Rattle.std.proofs.Common.{◌≡◌, ◌+◌, ◌-◌, ◌∙◌, ℕ, List, ap, take, drop, length, arith, length-drop, length-append}
use Rattle.byte_fields.proofs.Pieces.{piece_read}
use Rattle.byte_fields.proofs.steps.take_piece.Goals as goal

pub returns-then-bytes-at-clause-only : goal.returns-then-bytes-at-clause-only
returns-then-bytes-at-clause-only c piece rest size e =
    omega (arith, ap (λ (l : List ℕ). length l) e, length-drop c.args.at c.args.bytes.now, length-append piece rest)

pub returns-clause-only : goal.returns-clause-only
returns-clause-only c piece rest size e =
    let got = piece_read c.args.bytes.now piece rest c.args.at c.args.len size e in
    let len : c.args.at + c.args.len - c.args.at ≡ c.args.len = omega arith in
    (ap (λ (n : ℕ). take n (drop c.args.at c.args.bytes.now)) len ∙ got.0, got.1)
