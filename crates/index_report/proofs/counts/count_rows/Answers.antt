use Rattle.std.proofs.Common.{◌≡◌, get_or, ap, sym, arith}
use Rattle.split_states.specs.declared.rows.Row.{Row}
use Rattle.index_report.proofs.Counting.{counts_more}
use Rattle.index_report.proofs.counts.count_rows.Goals as goal

pub loop-row-preserved : goal.loop-row-preserved
loop-row-preserved c =
    let row = c.row-item.result in
    let here : row ≡ get_or c.args.rows.now c.loop-row.row-index row = c.row-item.is in
    let more = counts_more row.state c.args.rows.now c.loop-row.row-index row c.loop-row-test.true (ap (λ (r : Row). r.state) (sym here)) in
    let facts = ap (λ (r : Row). r.facts) here in
    record {
      counted = cc (more, facts);
      staged = omega arith;
      published = omega arith;
      marked = omega arith;
      docs = omega arith;
      rejected = omega arith;
    }
