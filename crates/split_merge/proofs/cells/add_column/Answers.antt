use Rattle.std.proofs.Common.{◌≡◌, ◌∙◌, ◌+◌, ◌++◌, ◌∷◌, [], ℕ, List, suc, length, sym, ap, subst, set, arith, Vec}
use Rattle.std.proofs.Math.ListN.{length-set}
use Rattle.std.specs.declared.alloc.Global.{Global}
use Rattle.split_bundle.specs.declared.placed.Placed.{Placed}
use Rattle.split_bundle.specs.Columns.{FastField}
use Rattle.split_build.specs.declared.columns.ColumnLog.{ColumnLog}
use Rattle.split_build.proofs.Zipped.{Partly, partly_set, partly_all}
use Rattle.split_merge.specs.Facts.{HasColumnOf, HaveColumns}
use Rattle.split_merge.specs.Lent.{Gains, value_of}
use Rattle.split_merge.proofs.CellGains.{column_gains, column_stays}
use Rattle.split_merge.proofs.cells.add_column.Goals as goal
use Rattle.split_merge.proofs.cells.add_column.Goals.{then-log-number+in_ok-add_cell, else-log-number}

pub loop-i-preserved : goal.loop-i-preserved
loop-i-preserved c =
    let next : suc c.loop-i.i ≡ c.loop-i.i + 1 = omega arith in
    let changed : (log : ColumnLog) → ((f : FastField) (ds : List Placed) (d e : Placed) → c.args.document ≡ length ds → Gains c.args.number (value_of c.args.value) d.doc e.doc → HasColumnOf (ds ++ d ∷ []) f c.index_mut-log.result.now → HasColumnOf (ds ++ e ∷ []) f log)
    → (fields : List FastField) (ds : List Placed) (d e : Placed) → c.args.document ≡ length ds → Gains c.args.number (value_of c.args.value) d.doc e.doc → HaveColumns (ds ++ d ∷ []) fields c.args.logs.now.items
    → Partly (HasColumnOf (ds ++ e ∷ [])) (HasColumnOf (ds ++ d ∷ [])) (c.loop-i.i + 1) fields (set c.loop-i.logs.items c.loop-i.i log) = λ log change fields ds d e last gains h.
    subst (λ (k : ℕ). Partly (HasColumnOf (ds ++ e ∷ [])) (HasColumnOf (ds ++ d ∷ [])) k fields (set c.loop-i.logs.items c.loop-i.i log)) next
    (partly_set (HasColumnOf (ds ++ e ∷ [])) (HasColumnOf (ds ++ d ∷ [])) c.loop-i.i fields c.loop-i.logs.items log c.index_mut-log.result.now (omega (arith, c.loop-i-test.true, c.loop-i.invariant.size))
    (λ f t. change f ds d e last gains (subst (λ (l : ColumnLog). HasColumnOf (ds ++ d ∷ []) f l) (sym c.index_mut-log.ensures.value) t))
    (c.loop-i.invariant.logs fields ds d e last gains h)) in
    elim c.if-log-number.branch [
      | then-log-number+in_ok-add_cell w ↦
          record {
            size = ap (λ (v : Vec ColumnLog Global). length v.items) w.logs-is ∙ length-set c.loop-i.logs.items c.loop-i.i w.add_cell.new.log ∙ c.loop-i.invariant.size;
            logs = λ fields ds d e last gains h.
                subst (λ (v : Vec ColumnLog Global). Partly (HasColumnOf (ds ++ e ∷ [])) (HasColumnOf (ds ++ d ∷ [])) (c.loop-i.i + 1) fields v.items) (sym w.logs-is)
                (changed w.add_cell.new.log (λ f ds d e last gains t. column_gains c.args.number (value_of c.args.value) ds d e gains f c.index_mut-log.result.now w.add_cell.new.log c.args.document last w.if-log-number.true w.in_ok-add_cell.ensures.number w.in_ok-add_cell.ensures.cells t)
                fields ds d e last gains h);
          }
      | else-log-number w ↦
          record {
            size = ap (λ (v : Vec ColumnLog Global). length v.items) w.logs-is ∙ length-set c.loop-i.logs.items c.loop-i.i c.index_mut-log.result.now ∙ c.loop-i.invariant.size;
            logs = λ fields ds d e last gains h.
                subst (λ (v : Vec ColumnLog Global). Partly (HasColumnOf (ds ++ e ∷ [])) (HasColumnOf (ds ++ d ∷ [])) (c.loop-i.i + 1) fields v.items) (sym w.logs-is)
                (changed c.index_mut-log.result.now (λ f ds d e last gains t. column_stays c.args.number (value_of c.args.value) ds d e gains f c.index_mut-log.result.now w.if-log-number.false t) fields ds d e last gains h);
          }
    ]

pub returns : goal.returns
returns c = λ fields ds d e last gains h.
    partly_all (HasColumnOf (ds ++ e ∷ [])) (HasColumnOf (ds ++ d ∷ [])) c.loop-i.i fields c.loop-i.logs.items (omega (arith, c.loop-i-test.false, c.loop-i.invariant.size)) (c.loop-i.invariant.logs fields ds d e last gains h)
