use Rattle.std.proofs.Common.{rules, ◌≡◌, ◌+◌, ◌++◌, ◌∷◌, [], drop, OnOk, ◌∙◌, refl, ap, sym, subst, append_assoc, append-nil, add-one}
use Rattle.std.proofs.Math.Seq.{drop-cons}
use Rattle.std.proofs.Math.ListN.{drop_of_length-le}
use Rattle.query_ast.specs.Sought.{view, view_all}
use Rattle.query_ast.specs.Sought as sought
use Rattle.query_ast.specs.declared.query.Query.{the_lemmas}
use Rattle.query_reader.specs.Printed.{Written, Spells, Appends, printed, printed_all, asked, word_text, quote_text, inner, bracket_before, bracket_behind, blank_and, blank_or}
use Rattle.query_reader.proofs.Pieces.{appends_more, appends_then, spells_more}
use Rattle.query_reader.proofs.Each.{row_all}
use Rattle.query_reader.proofs.printer.+print.Goals as goal

pub push_query-returns-in-Word : goal.push_query-returns-in-Word
push_query-returns-in-Word t c =
    let is : view c.args.query.now ≡ sought.Word c.in-Word.field c.in-Word.text = search (rules, the_lemmas) in
    subst (λ q. OnOk c.push_asked_word.result (Appends c.args.out.now c.push_asked_word.new.out (printed c.args.fields.now q))) (sym is)
    (subst (λ w. OnOk c.push_asked_word.result (Appends c.args.out.now c.push_asked_word.new.out (asked c.args.fields.now c.in-Word.field (word_text w)))) c.as_str.ensures c.push_asked_word.ensures)

pub push_query-returns-in-Quoted : goal.push_query-returns-in-Quoted
push_query-returns-in-Quoted t c =
    let is : view c.args.query.now ≡ sought.Quoted c.in-Quoted.field c.in-Quoted.text = search (rules, the_lemmas) in
    subst (λ q. OnOk c.push_asked_quote.result (Appends c.args.out.now c.push_asked_quote.new.out (printed c.args.fields.now q))) (sym is)
    (subst (λ w. OnOk c.push_asked_quote.result (Appends c.args.out.now c.push_asked_quote.new.out (asked c.args.fields.now c.in-Quoted.field (quote_text w)))) c.as_str-in-Quoted.ensures c.push_asked_quote.ensures)

pub push_query-returns-in-Prefix : goal.push_query-returns-in-Prefix
push_query-returns-in-Prefix t c =
    let is : view c.args.query.now ≡ sought.Prefix c.in-Prefix.field c.in-Prefix.text = search (rules, the_lemmas) in
    subst (λ q. OnOk c.push_asked_prefix.result (Appends c.args.out.now c.push_asked_prefix.new.out (printed c.args.fields.now q))) (sym is)
    (subst (λ w. OnOk c.push_asked_prefix.result (Appends c.args.out.now c.push_asked_prefix.new.out (asked c.args.fields.now c.in-Prefix.field (word_text w ++ 42 ∷ [])))) c.as_str-in-Prefix.ensures c.push_asked_prefix.ensures)

pub push_query-returns-in-Range : goal.push_query-returns-in-Range
push_query-returns-in-Range t c =
    let is : view c.args.query.now ≡ sought.Range c.in-Range.field c.in-Range.low c.in-Range.high = search (rules, the_lemmas) in
    subst (λ q. OnOk c.push_asked_range.result (Appends c.args.out.now c.push_asked_range.new.out (printed c.args.fields.now q))) (sym is)
    c.push_asked_range.ensures

pub push_query-returns-in-AnyOf : goal.push_query-returns-in-AnyOf
push_query-returns-in-AnyOf t c =
    let is : view c.args.query.now ≡ sought.AnyOf c.in-AnyOf.field c.in-AnyOf.items = search (rules, the_lemmas) in
    subst (λ q. OnOk c.push_asked_set.result (Appends c.args.out.now c.push_asked_set.new.out (printed c.args.fields.now q))) (sym is)
    c.push_asked_set.ensures

pub push_query-returns-in_ok-push_piece-in-Not : goal.push_query-returns-in_ok-push_piece-in-Not
push_query-returns-in_ok-push_piece-in-Not t c =
    let is : view c.args.query.now ≡ sought.Not (view c.in-Not.query.value) = search (rules, the_lemmas) in
    let mark : Appends c.args.out.now c.push_piece-in-Not.new.out (Written (78 ∷ 79 ∷ 84 ∷ 32 ∷ []) ∷ []) = search rules in
    let body : OnOk c.push_inner.result (Appends c.push_piece-in-Not.new.out c.push_inner.new.out (inner (view c.in-Not.query.value) (printed c.args.fields.now (view c.in-Not.query.value)))) =
    subst (λ v. OnOk c.push_inner.result (Appends c.push_piece-in-Not.new.out c.push_inner.new.out (inner (view v) (printed c.args.fields.now (view v))))) c.deref.ensures c.push_inner.ensures in
    subst (λ q. OnOk c.push_inner.result (Appends c.args.out.now c.push_inner.new.out (printed c.args.fields.now q))) (sym is)
    (appends_then c.push_inner.result c.args.out.now c.push_piece-in-Not.new.out c.push_inner.new.out (Written (78 ∷ 79 ∷ 84 ∷ 32 ∷ []) ∷ []) (inner (view c.in-Not.query.value) (printed c.args.fields.now (view c.in-Not.query.value))) mark body)

pub push_inner-returns : goal.push_inner-returns
push_inner-returns t c =
    let before : Appends c.args.out.now c.push_piece.new.out (Written (bracket_before (view c.args.query.now)) ∷ []) = rw c.bracket_before.ensures at c.in_ok-push_piece.ensures in
    let behind : OnOk c.push_piece-2.result (Appends c.push_query.new.out c.push_piece-2.new.out (Written (bracket_behind (view c.args.query.now)) ∷ [])) = rw c.bracket_behind.ensures at c.push_piece-2.ensures in
    appends_then c.push_piece-2.result c.args.out.now c.push_piece.new.out c.push_piece-2.new.out (Written (bracket_before (view c.args.query.now)) ∷ []) (printed c.args.fields.now (view c.args.query.now) ++ (Written (bracket_behind (view c.args.query.now)) ∷ [])) before
    (appends_then c.push_piece-2.result c.push_piece.new.out c.push_query.new.out c.push_piece-2.new.out (printed c.args.fields.now (view c.args.query.now)) (Written (bracket_behind (view c.args.query.now)) ∷ []) c.in_ok-push_query.ensures behind)

pub push_query-returns-in-And : goal.push_query-returns-in-And
push_query-returns-in-And t c =
    let is : view c.args.query.now ≡ sought.And (view_all c.in-And.parts.items) = search (rules, row_all, the_lemmas) in
    subst (λ q. OnOk c.push_all.result (Appends c.args.out.now c.push_all.new.out (printed c.args.fields.now q))) (sym is)
    (subst (λ ps. OnOk c.push_all.result (Appends c.args.out.now c.push_all.new.out (printed_all c.args.fields.now blank_and [] (view_all ps)))) c.as_slice.ensures.value c.push_all.ensures)

pub push_query-returns-in-Or : goal.push_query-returns-in-Or
push_query-returns-in-Or t c =
    let is : view c.args.query.now ≡ sought.Or (view_all c.in-Or.parts.items) = search (rules, row_all, the_lemmas) in
    subst (λ q. OnOk c.push_all-in-Or.result (Appends c.args.out.now c.push_all-in-Or.new.out (printed c.args.fields.now q))) (sym is)
    (subst (λ ps. OnOk c.push_all-in-Or.result (Appends c.args.out.now c.push_all-in-Or.new.out (printed_all c.args.fields.now blank_or [] (view_all ps)))) c.as_slice-in-Or.ensures.value c.push_all-in-Or.ensures)

pub push_all-loop-part-preserved : goal.push_all-loop-part-preserved
push_all-loop-part-preserved t c =
    let h = c.loop-part.invariant.2 in
    let step : Appends c.loop-part.out c.push_inner.new.out (Written c.loop-part.gap.now ∷ inner (view c.part-item.result) (printed c.args.fields.now (view c.part-item.result))) =
    appends_more c.loop-part.out c.push_piece.new.out c.push_inner.new.out (Written c.loop-part.gap.now ∷ []) (inner (view c.part-item.result) (printed c.args.fields.now (view c.part-item.result))) c.in_ok-push_piece.ensures c.in_ok-push_inner.ensures in
    let left : drop c.loop-part.part-index c.args.parts.now ≡ c.part-item.result ∷ drop (c.loop-part.part-index + 1) c.args.parts.now =
    drop-cons c.args.parts.now c.loop-part.part-index c.part-item.result c.loop-part-test.true
    ∙ (λ i. sym c.part-item.is i ∷ drop (sym (add-one c.loop-part.part-index) i) c.args.parts.now) in (
      c.loop-part.invariant.1,
      c.loop-part.invariant.1,
      (
        h.0 ++ step.0,
        step.1 ∙ ap (λ x. x ++ step.0) h.1 ∙ append_assoc c.args.out.now h.0 step.0,
        λ rest s. subst (Spells (printed_all c.args.fields.now c.args.between.now [] (view_all c.args.parts.now))) (sym (append_assoc h.0 step.0 rest))
            (h.2 (step.0 ++ rest) (subst (λ l. Spells (printed_all c.args.fields.now c.args.between.now c.loop-part.gap.now (view_all l)) (step.0 ++ rest)) (sym left)
            (spells_more (Written c.loop-part.gap.now ∷ inner (view c.part-item.result) (printed c.args.fields.now (view c.part-item.result))) (printed_all c.args.fields.now c.args.between.now c.args.between.now (view_all (drop (c.loop-part.part-index + 1) c.args.parts.now))) step.0 rest step.2 s))),
      ),
    )

pub push_all-returns : goal.push_all-returns
push_all-returns t c =
    let h = c.loop-part.invariant.2 in
    let none : drop c.loop-part.part-index c.args.parts.now ≡ [] = drop_of_length-le c.args.parts.now c.loop-part-test.false in (
      h.0,
      h.1,
      subst (Spells (printed_all c.args.fields.now c.args.between.now [] (view_all c.args.parts.now))) (append-nil h.0)
          (h.2 [] (subst (λ l. Spells (printed_all c.args.fields.now c.args.between.now c.loop-part.gap.now (view_all l)) []) (sym none) refl)),
    )
