use Rattle.std.proofs.Common.{◌≡◌, ◌∙◌, ◌+◌, ◌++◌, ◌∷◌, [], ℕ, suc, sym, subst, set, arith}
use Rattle.std.proofs.Math.ListN.{length-set}
use Rattle.split_bundle.specs.Columns.{fast_fields}
use Rattle.split_build.specs.declared.columns.ColumnLog.{ColumnLog}
use Rattle.split_build.specs.HeldColumns.{HasRows}
use Rattle.split_build.proofs.CellLemmas.{rows_with}
use Rattle.split_build.proofs.Zipped.{Partly, partly_set, partly_all}
use Rattle.split_build.proofs.column_parts.add_columns.Goals as goal

pub loop-i-preserved : goal.loop-i-preserved
loop-i-preserved c = record {
  size = length-set c.loop-i.logs.items c.loop-i.i c.add.new.self ∙ c.loop-i.invariant.size;
  logs = λ s ds count h.
      let next : suc c.loop-i.i ≡ c.loop-i.i + 1 = omega arith in
      subst (λ (k : ℕ). Partly (HasRows (ds ++ c.args.placed.now ∷ [])) (HasRows ds) k (fast_fields s) (set c.loop-i.logs.items c.loop-i.i c.add.new.self)) next
      (partly_set (HasRows (ds ++ c.args.placed.now ∷ [])) (HasRows ds) c.loop-i.i (fast_fields s) c.loop-i.logs.items c.add.new.self c.index_mut.result.now (omega (arith, c.loop-i-test.true, c.loop-i.invariant.size))
      (λ f r. rows_with ds c.args.placed.now f c.index_mut.result.now c.add.new.self c.args.document c.as_slice.result.now count c.as_slice.ensures c.in_ok-add.ensures.number c.in_ok-add.ensures.cells
      (subst (λ (l : ColumnLog). HasRows ds f l) (sym c.index_mut.ensures.value) r))
      (c.loop-i.invariant.logs s ds count h));
}

pub returns : goal.returns
returns c = λ s ds count h.
    partly_all (HasRows (ds ++ c.args.placed.now ∷ [])) (HasRows ds) c.loop-i.i (fast_fields s) c.loop-i.logs.items (omega (arith, c.loop-i-test.false, c.loop-i.invariant.size)) (c.loop-i.invariant.logs s ds count h)
