use Rattle.std.proofs.Common.{arith, ◌∙◌}
use Rattle.byte_fields.proofs.Others.{four_found, four_again}
use Rattle.byte_fields.proofs.take.take_four.Goals as goal

pub returns-clause-found : goal.returns-clause-found
returns-clause-found c = four_found c.args.bytes.now c.args.at c.four_whole.result (λ i. omega (arith, c.type_inv.bytes i)) c.four_whole.ensures

pub returns-clause-only : goal.returns-clause-only
returns-clause-only c = λ n rest fits e. c.four_whole.ensures ∙ four_again c.args.bytes.now c.args.at n rest fits e
