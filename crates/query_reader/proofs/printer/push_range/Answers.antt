use Rattle.std.proofs.Common.{rules, OnOk, List, [], ◌∷◌, ◌++◌}
use Rattle.query_reader.specs.Printed.{Piece, Appends, Written, opening, closing, edge_pieces}
use Rattle.query_reader.proofs.Pieces.{appends_then}
use Rattle.query_reader.proofs.printer.push_range.Goals as goal

pub returns : goal.returns
returns c =
    let low : Appends c.args.out.now c.push_piece.new.out (Written (opening c.args.low.now) ∷ []) = rw c.opening.ensures at c.in_ok-push_piece.ensures in
    let high : OnOk c.push_piece-3.result (Appends c.push_edge-2.new.out c.push_piece-3.new.out (Written (closing c.args.high.now) ∷ [])) = rw c.closing.ensures at c.push_piece-3.ensures in
    let low_edge : Appends c.push_piece.new.out c.push_edge.new.out (edge_pieces c.args.low.now) = search rules in
    let to : Appends c.push_edge.new.out c.push_piece-2.new.out (Written (32 ∷ 84 ∷ 79 ∷ 32 ∷ []) ∷ []) = search rules in
    let high_edge : Appends c.push_piece-2.new.out c.push_edge-2.new.out (edge_pieces c.args.high.now) = search rules in
    let last : List Piece = edge_pieces c.args.high.now ++ (Written (closing c.args.high.now) ∷ []) in
    appends_then c.push_piece-3.result c.args.out.now c.push_piece.new.out c.push_piece-3.new.out (Written (opening c.args.low.now) ∷ []) (edge_pieces c.args.low.now ++ (Written (32 ∷ 84 ∷ 79 ∷ 32 ∷ []) ∷ last)) low
    (appends_then c.push_piece-3.result c.push_piece.new.out c.push_edge.new.out c.push_piece-3.new.out (edge_pieces c.args.low.now) (Written (32 ∷ 84 ∷ 79 ∷ 32 ∷ []) ∷ last) low_edge
    (appends_then c.push_piece-3.result c.push_edge.new.out c.push_piece-2.new.out c.push_piece-3.new.out (Written (32 ∷ 84 ∷ 79 ∷ 32 ∷ []) ∷ []) last to
    (appends_then c.push_piece-3.result c.push_piece-2.new.out c.push_edge-2.new.out c.push_piece-3.new.out (edge_pieces c.args.high.now) (Written (closing c.args.high.now) ∷ []) high_edge high)))
