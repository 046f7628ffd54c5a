use Rattle.std.proofs.Common.{arith}
use Rattle.doc_mapping.proofs.Answering.{answer-no_text, answer-text, answered}
use Rattle.doc_mapping.proofs.accepting.accept_by.Goals as goal

pub returns-in_default : goal.returns-in_default
returns-in_default c = λ _. answer-no_text c.args.config.now c.args.bytes.now (omega arith) c.in_default.ensures.cases.0

pub returns-in-Ok-from_str : goal.returns-in-Ok-from_str
returns-in-Ok-from_str c =
    answered c.accept_value.result _ _
    (answer-text c.args.config.now c.args.bytes.now c.in-Ok.text.now _ (omega arith) c.in-Ok.ensures.cases.1 c.in-Ok.ensures.cases.0 c.in-Ok-from_str.ensures.ok)
    c.accept_value.ensures
