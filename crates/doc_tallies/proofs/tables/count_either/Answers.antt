use Rattle.std.proofs.Common.{◌≡◌, ◌++◌, ℤ, List, Option, None, Some, ap, rules, arith, sym, subst, ◌∙◌}
use Rattle.std.proofs.lemmas.Grind.{common_steps}
use Rattle.std.specs.Option.{option_map}
use Rattle.doc_tallies.specs.Classes.{IsCounted}
use Rattle.doc_tallies.specs.Marks.{mark_of}
use Rattle.doc_tallies.specs.declared.classes.Class.{Class}
use Rattle.doc_tallies.proofs.Classing.{counted_back, counted_front}
use Rattle.doc_tallies.proofs.Tabling.{on_true}
use Rattle.doc_tallies.proofs.tables.count_either.Goals as goal

pub returns-then-count_there-clause-counted : goal.returns-then-count_there-clause-counted
returns-then-count_there-clause-counted c = λ table.
    let f = mark_of c.args.agg.now c.args.kind in
    let d = c.args.document in
    let cells = c.args.cells.now.items in
    let classes = c.args.classes.now.items in
    let new = c.count_there.new.cells.items in
    let counted = c.if-count_there.ensures.counted c.args.agg.now c.args.kind table in
    subst (λ (o : Option ℤ). IsCounted o 1 d (cells ++ classes) (new ++ classes)) (sym (ap (option_map f) c.in-Some.is))
    (counted_front (Some (f c.in-Some.number)) 1 d cells new classes counted)

pub returns-in-None-clause-counted : goal.returns-in-None-clause-counted
returns-in-None-clause-counted c = λ table.
    let f = mark_of c.args.agg.now c.args.kind in
    let d = c.args.document in
    let cells = c.args.cells.now.items in
    let classes = c.args.classes.now.items in
    let new = c.count_one.new.classes.items in
    on_true c.count_one.result (IsCounted None 1 d classes new) (IsCounted (option_map f c.args.value) 1 d (cells ++ classes) (cells ++ new))
    (λ counted. subst (λ (o : Option ℤ). IsCounted o 1 d (cells ++ classes) (cells ++ new)) (sym (ap (option_map f) c.in-None.is)) (counted_back None 1 d cells classes new counted))
    c.count_one.ensures.counted

pub returns-else-count_there-clause-counted : goal.returns-else-count_there-clause-counted
returns-else-count_there-clause-counted c = λ table.
    let f = mark_of c.args.agg.now c.args.kind in
    let d = c.args.document in
    let cells = c.args.cells.now.items in
    let classes = c.args.classes.now.items in
    let new = c.count_one-in-Some.new.classes.items in
    let kept : c.count_there.new.cells.items ≡ c.args.cells.now.items = first_of (search (rules, c.if-count_there.ensures.kept), grind (arith, common_steps, c.if-count_there.ensures.kept, c.if-count_there.false), cc) in
    on_true c.count_one-in-Some.result (IsCounted c.marked.result 1 d classes new) (IsCounted (option_map f c.args.value) 1 d (cells ++ classes) (c.count_there.new.cells.items ++ new))
    (λ counted. subst (λ (o : Option ℤ). IsCounted o 1 d (cells ++ classes) (c.count_there.new.cells.items ++ new)) (c.marked.ensures ∙ sym (ap (option_map f) c.in-Some.is))
    (subst (λ (cs : List Class). IsCounted c.marked.result 1 d (cells ++ classes) (cs ++ new)) (sym kept) (counted_back c.marked.result 1 d cells classes new counted)))
    c.count_one-in-Some.ensures.counted
