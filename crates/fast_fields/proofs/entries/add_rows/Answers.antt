use Rattle.std.proofs.Common.{◌++◌, ◌∷◌, List, ap, length, subst, arith}
use Rattle.std.proofs.lemmas.List.{nil_from_length}
use Rattle.doc_value.specs.declared.doc.Value.{Value}
use Rattle.fast_fields.specs.Columns.{AreGrown, SomeText, cells, cells_of}
use Rattle.fast_fields.specs.Texts.{EachIsAmong, texts_in}
use Rattle.fast_fields.specs.declared.rows.ColumnRow.{ColumnRow}
use Rattle.fast_fields.proofs.Gathered.{some_left, some_right}
use Rattle.fast_fields.proofs.Grown.{before_row, no_rows, one_row, all_rows, row_count}
use Rattle.fast_fields.proofs.entries.add_rows.Goals as goal

pub add_row-requires-clause-among : goal.add_row-requires-clause-among
add_row-requires-clause-among c t some =
    let among : EachIsAmong (cells (c.in-Some.row.now ∷ c.in-Some.behind.now)) (texts_in c.args.texts.now) = subst (λ (l : List ColumnRow). EachIsAmong (cells l) (texts_in c.args.texts.now)) c.in-Some.ensures.cases.0 c.loop-row.invariant.1 in
    among t (some_left (cells_of c.in-Some.row.now.document c.in-Some.row.now.values) (cells c.in-Some.behind.now) t
    (subst (λ (l : List Value). SomeText (cells_of c.in-Some.row.now.document l) t) c.as_slice.ensures some))

pub add_row-requires-clause-room : goal.add_row-requires-clause-room
add_row-requires-clause-room c =
    omega (arith, c.loop-row.invariant.2, row_count c.in-Some.row.now c.loop-row.rest.now c.in-Some.behind.now c.in-Some.ensures.cases.0, ap (λ (l : List Value). length l) c.as_slice.ensures)

pub loop-row-init : goal.loop-row-init
loop-row-init c = (rw c.requires.none (no_rows (texts_in c.args.texts.now) c.args.rows.now c.requires.rise), c.requires.among, c.requires.room)

pub loop-row-preserved : goal.loop-row-preserved
loop-row-preserved c =
    let texts = texts_in c.args.texts.now in
    let r = c.in-Some.row.now in
    let h = c.loop-row.invariant.0 in
    let among : EachIsAmong (cells (c.in-Some.row.now ∷ c.in-Some.behind.now)) (texts_in c.args.texts.now) = subst (λ (l : List ColumnRow). EachIsAmong (cells l) (texts_in c.args.texts.now)) c.in-Some.ensures.cases.0 c.loop-row.invariant.1 in
    let before = before_row (texts_in c.args.texts.now) r c.loop-row.rest.now c.in-Some.behind.now c.args.rows.now c.loop-row.entries.items c.in-Some.ensures.cases.0 h in (
      one_row (texts_in c.args.texts.now) r c.loop-row.rest.now c.in-Some.behind.now c.args.rows.now c.loop-row.entries.items c.add_row.new.entries.items c.in-Some.ensures.cases.0 h
          (subst (λ (l : List Value). AreGrown (texts_in c.args.texts.now) c.in-Some.row.now.document (c.loop-row.invariant.0.front ++ cells_of c.in-Some.row.now.document l) c.add_row.new.entries.items) c.as_slice.ensures
          (c.add_row.ensures.grown h.front before)),
      λ t some. among t (some_right (cells_of c.in-Some.row.now.document c.in-Some.row.now.values) (cells c.in-Some.behind.now) t some),
      omega (
        arith,
        c.loop-row.invariant.2,
        c.add_row.ensures.len,
        c.add_row.ensures.capacity,
        row_count c.in-Some.row.now c.loop-row.rest.now c.in-Some.behind.now c.in-Some.ensures.cases.0,
        ap (λ (l : List Value). length l) c.as_slice.ensures,
      ),
    )

pub returns : goal.returns
returns c = all_rows (texts_in c.args.texts.now) c.loop-row.rest.now c.args.rows.now c.loop-row.entries.items (nil_from_length c.loop-row.rest.now c.in_default.ensures.cases) c.requires.few c.loop-row.invariant.0
