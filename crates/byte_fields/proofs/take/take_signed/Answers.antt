use Rattle.std.proofs.Common.{arith, ◌∙◌}
use Rattle.byte_fields.proofs.Others.{signed_found, signed_again}
use Rattle.byte_fields.proofs.take.take_signed.Goals as goal

pub returns-clause-found : goal.returns-clause-found
returns-clause-found c = signed_found c.args.bytes.now c.args.at c.signed_whole.result (λ i. omega (arith, c.type_inv.bytes i)) c.signed_whole.ensures

pub returns-clause-only : goal.returns-clause-only
returns-clause-only c = λ z rest fits e. c.signed_whole.ensures ∙ signed_again c.args.bytes.now c.args.at z rest fits e
