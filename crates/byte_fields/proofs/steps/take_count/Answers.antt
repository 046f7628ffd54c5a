use Rattle.std.proofs.Common.{arith, ◌∙◌}
use Rattle.byte_fields.proofs.Pieces.{count_found, count_again}
use Rattle.byte_fields.proofs.steps.take_count.Goals as goal

pub returns-clause-found : goal.returns-clause-found
returns-clause-found c = count_found c.args.bytes.now c.args.at c.count_whole.result (λ i. omega (arith, c.type_inv.bytes i)) c.count_whole.ensures

pub returns-clause-only : goal.returns-clause-only
returns-clause-only c = λ n rest fits e. c.count_whole.ensures ∙ count_again c.args.bytes.now c.args.at n rest fits e
