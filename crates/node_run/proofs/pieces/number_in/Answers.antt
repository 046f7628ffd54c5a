use Rattle.std.proofs.Common.{sym}
use Rattle.node_run.proofs.Digits.{not_plain, parsed_of, unparsed, decimal_utf8}
use Rattle.node_run.proofs.pieces.number_in.Goals as goal

pub returns-then-not-is_plain : goal.returns-then-not-is_plain
returns-then-not-is_plain c = not_plain c.args.word.now (sym c.if-not-is_plain.ensures)

pub returns-in_default : goal.returns-in_default
returns-in_default c = λ n h is. c.in_default.ensures.cases.0 (decimal_utf8 c.args.word.now n h is)

pub returns-in-Ok-parse : goal.returns-in-Ok-parse
returns-in-Ok-parse c =
    parsed_of c.args.word.now c.in-Ok.text.now c.parse.result c.in-Ok-parse.number c.in-Ok.ensures.cases.0 (sym c.if-not-is_plain.ensures)
    c.in-Ok-parse.is c.parse.ensures.value.0

pub returns-in-Err : goal.returns-in-Err
returns-in-Err c =
    unparsed c.args.word.now c.in-Ok.text.now c.parse.result c.in-Err.field-0 c.in-Ok.ensures.cases.0 c.in-Err.is c.parse.ensures.value.0
