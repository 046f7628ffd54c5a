use Rattle.input_lines.proofs.Asked.{unbroken, unnamed}
use Rattle.input_lines.proofs.Bad.{handed_on}
use Rattle.input_lines.proofs.Splitting.{first_in, rest_at_none}
use Rattle.input_lines.specs.Request.{Asks}
use Rattle.input_lines.proofs.request.read_request.Goals as goal

pub returns-in_err-client : goal.returns-in_err-client
returns-in_err-client c =
    let first = first_in (λ b. b.now) c.args.bytes.now c.first_word.result.0.now c.first_word.result.1 c.first_word.ensures.word c.first_word.ensures.some c.first_word.ensures.none in
    handed_on (Asks c.args.bytes.now) c.from_residual.result c.in_err-client.field-0.0 c.from_residual.ensures.1
    (unnamed c.args.bytes.now c.first_word.result.0.now first.0 first.1) c.in_err-client.ensures

pub returns-in_default : goal.returns-in_default
returns-in_default c =
    unbroken c.args.bytes.now c.first_word.result.0.now c.first_word.ensures.word
    (rest_at_none c.args.bytes.now c.first_word.result.0.now c.first_word.result.1 c.in_default.is c.first_word.ensures.none)
