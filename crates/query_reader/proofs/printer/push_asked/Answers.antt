use Rattle.std.proofs.Common.{◌∷◌, []}
use Rattle.query_reader.specs.Printed.{Written, field_text}
use Rattle.query_reader.proofs.Pieces.{appends_then}
use Rattle.query_reader.proofs.printer.push_asked.Goals as goal

pub returns : goal.returns
returns c =
    appends_then c.push_piece.result c.args.out.now c.push_field.new.out c.push_piece.new.out (Written (field_text c.args.fields.now c.args.number) ∷ []) (Written c.args.asked.now ∷ []) c.in_ok-push_field.ensures c.push_piece.ensures
