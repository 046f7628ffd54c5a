use Rattle.std.proofs.Common.{[], ◌∷◌}
use Rattle.query_reader.specs.Printed.{Written, field_text, range_pieces}
use Rattle.query_reader.proofs.Pieces.{appends_then}
use Rattle.query_reader.proofs.printer.push_asked_range.Goals as goal

pub returns : goal.returns
returns c =
    appends_then c.push_range.result c.args.out.now c.push_field.new.out c.push_range.new.out (Written (field_text c.args.fields.now c.args.number) ∷ []) (range_pieces c.args.low.now c.args.high.now)
    c.in_ok-push_field.ensures c.push_range.ensures
