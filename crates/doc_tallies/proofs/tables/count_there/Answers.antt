use Rattle.std.proofs.Common.{◌≡◌, ◌+◌, ◌-◌, ◌/◌, ◌^◌, ℕ, Some, refl, arith}
use Rattle.std.proofs.lemmas.Option.{slice_get_read}
use Rattle.std.specs.List.{slice_get}
use Rattle.doc_tallies.specs.Tables.{StandsAt}
use Rattle.doc_tallies.proofs.Tabling.{table_counted, table_set}
use Rattle.doc_tallies.proofs.tables.count_there.Goals as goal

pub returns-clause-counted : goal.returns-clause-counted
returns-clause-counted c = λ agg kind table.
    let place : ℕ = (c.args.number - c.args.span.least) / 2 ^ c.args.span.shift in
    let here : slice_get c.args.cells.now.items ((c.args.number - c.args.span.least) / 2 ^ c.args.span.shift) ≡ Some c.index-cell.result.now = slice_get_read c.args.cells.now.items _ place c.index-cell.result.now refl (omega arith) c.index-cell.ensures in
    let at : StandsAt c.args.span ((c.args.number - c.args.span.least) / 2 ^ c.args.span.shift) c.args.number = record { least = omega arith; there = refl } in
    table_counted agg kind c.args.span c.args.cells.now.items place c.args.number c.args.document c.index-cell.result.now _ table here c.in-Some.is at

pub returns-clause-table : goal.returns-clause-table
returns-clause-table c = λ agg kind table.
    let place : ℕ = (c.args.number - c.args.span.least) / 2 ^ c.args.span.shift in
    let here : slice_get c.args.cells.now.items ((c.args.number - c.args.span.least) / 2 ^ c.args.span.shift) ≡ Some c.index-cell.result.now = slice_get_read c.args.cells.now.items _ place c.index-cell.result.now refl (omega arith) c.index-cell.ensures in
    table_set agg kind c.args.span c.args.cells.now.items place c.index-cell.result.now (record { mark = c.index-cell.result.now.mark; count = c.index-cell.result.now.count + 1; sample = c.args.document }) here refl table
