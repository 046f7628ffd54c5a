use Rattle.std.proofs.Common.{◌≡◌, ◌+◌, ◌++◌, ◌∷◌, [], List, suc, ap, sym, subst, length, arith, Vec}
use Rattle.std.specs.declared.alloc.Global.{Global}
use Rattle.std.proofs.lemmas.List.{append-nil}
use Rattle.doc_value.specs.declared.schema.Field.{Field}
use Rattle.split_bundle.specs.Columns.{FastField, fast_from, fast_fields}
use Rattle.split_build.specs.declared.columns.ColumnLog.{ColumnLog}
use Rattle.split_build.specs.HeldColumns.{HasColumns, HasRows}
use Rattle.split_build.proofs.OnWay.{IsOnWay, go_on}
use Rattle.split_build.proofs.Zipped.{zip_push}
use Rattle.split_build.proofs.ColumnLemmas.{fast_yes, fast_no}
use Rattle.split_build.proofs.column_parts.column_logs.Goals as goal
use Rattle.split_build.proofs.column_parts.column_logs.Goals.{then-field+in_ok-push, else-field}

pub loop-field-preserved : goal.loop-field-preserved
loop-field-preserved c =
    let next : c.loop-field.number + 1 ≡ suc c.loop-field.number = omega arith in
    record {
      count = omega (arith, c.loop-field.invariant.count, ap (λ (fs : List Field). length fs) c.in-Some.ensures.cases.0);
      logs = elim c.if-field.branch [
        | then-field+in_ok-push w ↦
            let log = w.vacant.result in
            let rows : HasRows [] (record { number = c.loop-field.number; field = c.in-Some.field.now }) w.vacant.result = record { number = w.vacant.ensures.number; cells_are = w.vacant.ensures.cells } in
            subst (λ (v : Vec ColumnLog Global). IsOnWay {X = FastField} (λ fs. HasColumns [] fs v.items) (fast_from (c.loop-field.number + 1) c.in-Some.behind.now) (fast_fields c.args.schema.now)) (sym w.logs-is)
            (go_on (λ (fs : List FastField). HasColumns [] fs c.loop-field.logs.items) (λ (fs : List FastField). HasColumns [] fs w.push.new.self.items) (fast_from c.loop-field.number c.loop-field.rest.now) (record { number = c.loop-field.number; field = c.in-Some.field.now } ∷ []) (fast_from (c.loop-field.number + 1) c.in-Some.behind.now) (fast_fields c.args.schema.now)
            (fast_yes c.loop-field.number (c.loop-field.number + 1) c.in-Some.field.now c.loop-field.rest.now c.in-Some.behind.now c.in-Some.ensures.cases.0 w.if-field.true next)
            (λ fs h. subst (λ (ls : List ColumnLog). HasColumns [] (fs ++ record { number = c.loop-field.number; field = c.in-Some.field.now } ∷ []) ls) (sym w.in_ok-push.ensures.items)
            (zip_push (HasRows []) fs c.loop-field.logs.items (record { number = c.loop-field.number; field = c.in-Some.field.now }) w.vacant.result h rows))
            c.loop-field.invariant.logs)
        | else-field w ↦
            subst (λ (v : Vec ColumnLog Global). IsOnWay {X = FastField} (λ fs. HasColumns [] fs v.items) (fast_from (c.loop-field.number + 1) c.in-Some.behind.now) (fast_fields c.args.schema.now)) (sym w.logs-is)
            (go_on (λ (fs : List FastField). HasColumns [] fs c.loop-field.logs.items) (λ (fs : List FastField). HasColumns [] fs c.loop-field.logs.items) (fast_from c.loop-field.number c.loop-field.rest.now) [] (fast_from (c.loop-field.number + 1) c.in-Some.behind.now) (fast_fields c.args.schema.now)
            (fast_no c.loop-field.number (c.loop-field.number + 1) c.in-Some.field.now c.loop-field.rest.now c.in-Some.behind.now c.in-Some.ensures.cases.0 w.if-field.false next)
            (λ fs h. subst (λ (gs : List FastField). HasColumns [] gs c.loop-field.logs.items) (sym (append-nil fs)) h)
            c.loop-field.invariant.logs)
      ];
    }
