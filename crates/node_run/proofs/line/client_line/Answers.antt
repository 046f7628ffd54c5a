use Rattle.std.specs.Prelude.{codes, ◌++◌}
use Rattle.node_run.proofs.Bad.{handed_on}
use Rattle.node_run.proofs.Begins.{client_only}
use Rattle.node_run.proofs.Splitting.{client_is, first_in}
use Rattle.node_run.specs.Lines.{Spells}
use Rattle.node_run.specs.Seen.{seen}
use Rattle.node_run.proofs.line.client_line.Goals as goal

pub returns-in_err-client : goal.returns-in_err-client
returns-in_err-client c =
    let w = first_in (λ b. b.now) c.args.rest.now c.first_word.result.0.now c.first_word.result.1 c.first_word.ensures.word c.first_word.ensures.some c.first_word.ensures.none in
    handed_on (λ line. Spells (codes "client " ++ c.args.rest.now) (seen line)) c.from_residual.result c.in_err-client.field-0.0 c.from_residual.ensures.1
    (λ bad line s. bad (client_is c.args.rest.now c.first_word.result.0.now w.0 w.1 (client_only c.args.rest.now line s)))
    c.in_err-client.ensures
