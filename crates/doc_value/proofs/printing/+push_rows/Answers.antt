use Rattle.std.proofs.lemmas.Result.{on_ok_weaker}
use Rattle.doc_value.proofs.Walk.{rows-step-by, rows-end}
use Rattle.doc_value.proofs.printing.+push_rows.Goals as goal

pub returns-in-empty : goal.returns-in-empty
returns-in-empty t c =
    on_ok_weaker c.push_closings.result (rows-end c.args.first c.args.opened.now c.args.rows.now _ _ c.in-empty.len_below) c.push_closings.ensures

pub returns-in_ok-push_row-in-len1-up-as_slice : goal.returns-in_ok-push_row-in-len1-up-as_slice
returns-in_ok-push_row-in-len1-up-as_slice t c =
    on_ok_weaker c.push_rows-in-len1-up-as_slice.result
    (rows-step-by c.args.first c.args.opened.now c.args.rows.now c.row-item.result c.as_slice.result.now c.as_slice-in-len1-up-as_slice.result.now
    c.args.out.now c.push_row.new.out _ c.in-len1-up.len_at_least c.row-item.is c.as_slice.ensures c.as_slice-in-len1-up-as_slice.ensures
    c.in-len1-up-as_slice.len_at_least c.in_ok-push_row-in-len1-up-as_slice.ensures)
    c.push_rows-in-len1-up-as_slice.ensures
