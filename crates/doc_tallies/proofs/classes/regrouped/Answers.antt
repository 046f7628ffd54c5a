use Rattle.std.proofs.Common.{◌≡◌, ◌+◌, ◌<◌, None, length, take, get_or, refl, arith}
use Rattle.std.proofs.lemmas.List.Sums.{sum_by_more}
use Rattle.doc_tallies.specs.declared.classes.Class.{Class}
use Rattle.doc_tallies.specs.Classes.{class_sum}
use Rattle.doc_tallies.proofs.Classing.{counted_sum, regroup_more, regroup_skip, sum_more, sum_skip}
use Rattle.doc_tallies.proofs.classes.regrouped.Goals as goal
use Rattle.doc_tallies.proofs.classes.regrouped.Goals.{else-cell-ne0-via-then-cell-ne0+else-not-count_many, else-cell-ne0-via-else-cell-ne0}

abbrev none : Class
none = record { mark = None; count = 0; sample = 0 }

pub loop-cell-preserved : goal.loop-cell-preserved
loop-cell-preserved c =
    let i = c.loop-cell.cell-index in
    let cells = c.args.cells.now in
    let old = c.args.classes.now.items in
    let mid = c.loop-cell.classes.items in
    let cell : Class = get_or c.args.cells.now c.loop-cell.cell-index none in
    let lt : c.loop-cell.cell-index < length c.args.cells.now = c.loop-cell-test.true in
    let next : class_sum (take (c.loop-cell.cell-index + 1) c.args.cells.now) ≡ class_sum (take c.loop-cell.cell-index c.args.cells.now) + cell.count = sum_by_more (λ (x : Class). x.count) c.args.cells.now c.loop-cell.cell-index none lt in
    elim c.else-cell-ne0.branch [
      | else-cell-ne0-via-then-cell-ne0+else-not-count_many w ↦
          let counted = w.if-not-count_many.ensures.counted in
          let new = w.count_many.new.classes.items in
          rw w.classes-is (record {
            size = omega (arith, w.if-not-count_many.ensures.len, c.loop-cell.invariant.size);
            total = sum_more (class_sum new) (class_sum mid) (class_sum old) (class_sum (take i cells)) (class_sum (take (i + 1) cells)) cell.count (counted_sum cell.mark cell.count cell.sample mid new counted) c.loop-cell.invariant.total next;
            marked = λ agg kind entries bound all before.
                regroup_more agg kind entries bound cells old mid new i none cell lt refl (λ zero. absurd (omega arith)) (all i none lt) counted (c.loop-cell.invariant.marked agg kind entries bound all before);
          })
      | else-cell-ne0-via-else-cell-ne0 w ↦
          let empty : cell.count ≡ 0 = omega arith in
          rw w.classes-is (record {
            size = c.loop-cell.invariant.size;
            total = sum_skip (class_sum mid) (class_sum old) (class_sum (take i cells)) (class_sum (take (i + 1) cells)) cell.count c.loop-cell.invariant.total next empty;
            marked = λ agg kind entries bound all before.
                regroup_skip agg kind entries bound cells old mid i none cell lt refl empty (c.loop-cell.invariant.marked agg kind entries bound all before);
          })
    ]
