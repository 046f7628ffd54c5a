use Rattle.search_api.proofs.Texts.{no_text, of_text, given}
use Rattle.search_api.proofs.reading.read_request.Goals as goal

pub returns-in_default : goal.returns-in_default
returns-in_default c = λ _. no_text c.args.text.now c.in_default.ensures.cases.0

pub returns-in-Ok-from_str : goal.returns-in-Ok-from_str
returns-in-Ok-from_str c =
    given c.request_in.result _ _
    (of_text c.args.text.now c.in-Ok.text.now _ c.in-Ok.ensures.cases.1 c.in-Ok.ensures.cases.0 c.in-Ok-from_str.ensures.ok)
    c.request_in.ensures
