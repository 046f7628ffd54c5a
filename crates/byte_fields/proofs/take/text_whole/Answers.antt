use Rattle.byte_fields.proofs.Others.{text_is, text_is_not}
use Rattle.byte_fields.proofs.take.text_whole.Goals as goal

pub returns-in-Ok : goal.returns-in-Ok
returns-in-Ok c =
    rw c.in-Ok.ensures.cases.0 (text_is c.args.bytes.now c.args.at c.in_ok-piece.piece.now c.in_ok-piece.next c.in_ok-piece.ensures.exact c.in-Ok.ensures.cases.1)

pub returns-in-Err : goal.returns-in-Err
returns-in-Err c =
    text_is_not c.args.bytes.now c.args.at c.in_ok-piece.piece.now c.in_ok-piece.next c.in_ok-piece.ensures.exact c.in-Err.ensures.cases.0
