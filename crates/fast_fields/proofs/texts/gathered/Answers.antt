use Rattle.std.proofs.Common.{◌∷◌, List, ℕ, subst}
use Rattle.doc_value.specs.declared.doc.Value.{Value}
use Rattle.fast_fields.specs.declared.rows.ColumnRow.{ColumnRow}
use Rattle.fast_fields.specs.Columns.{Cell, cells, cells_of, SomeText}
use Rattle.fast_fields.proofs.Gathered.{some_left, some_right, row_gathered, rows_gathered}
use Rattle.fast_fields.proofs.texts.gathered.Goals as goal

abbrev AreSome : List Cell → List ColumnRow → Type 0
AreSome cs rows = (t : List ℕ) → SomeText (cells rows) t → SomeText cs t

pub loop-row-preserved : goal.loop-row-preserved
loop-row-preserved c =
    let r = c.in-Some.row.now in
    let some : AreSome (cells c.args.rows.now) (c.in-Some.row.now ∷ c.in-Some.behind.now) = subst (λ (l : List ColumnRow). AreSome (cells c.args.rows.now) l) c.in-Some.ensures.cases.0 c.loop-row.invariant.1 in (
      c.in_ok-gather_row.ensures.texts (cells c.args.rows.now) c.in-Some.row.now.document c.loop-row.invariant.0
          (λ t h. some t (some_left (cells_of c.in-Some.row.now.document c.in-Some.row.now.values) (cells c.in-Some.behind.now) t
          (subst (λ (l : List Value). SomeText (cells_of c.in-Some.row.now.document l) t) c.as_slice.ensures h))),
      λ t h. some t (some_right (cells_of c.in-Some.row.now.document c.in-Some.row.now.values) (cells c.in-Some.behind.now) t h),
      λ t h.
          row_gathered c.loop-row.rest.now c.in-Some.behind.now c.in-Some.row.now c.as_slice.result.now c.loop-row.all.items c.gather_row.new.all.items t c.in-Some.ensures.cases.0 c.as_slice.ensures
          (c.in_ok-gather_row.ensures.each c.in-Some.row.now.document t) (c.loop-row.invariant.2 t h),
    )

pub returns-clause-each : goal.returns-clause-each
returns-clause-each c t h = rows_gathered c.loop-row.rest.now c.loop-row.all.items t c.in_default.ensures.cases (c.loop-row.invariant.2 t h)
