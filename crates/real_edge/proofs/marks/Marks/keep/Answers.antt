use Rattle.std.proofs.Common.{◌∙◌, ap, sym, subst, arith, List, ℕ}
use Rattle.std.proofs.lemmas.List.Elements.{All-set}
use Rattle.real_edge.specs.declared.marks.Places.{Places}
use Rattle.real_edge.specs.Growing.{bytes_of}
use Rattle.real_edge.specs.Lines.{IsMark}
use Rattle.real_edge.specs.Marks.{AreMarksOf}
use Rattle.real_edge.proofs.marks.Marks.keep.Goals as goal

pub returns-in-Some : goal.returns-in-Some
returns-in-Some c files marks mark =
    let one : Places = c.index_mut.result.now in
    let same = ap (λ (p : Places). p.partition) c.index_mut.ensures.value ∙ c.in-Some.ensures.1 one in
    All-set (AreMarksOf files) c.args.self.now.held.items c.in-Some.at c.keep.new.self
    (c.keep.ensures.marks files
    (subst (AreMarksOf files) (sym c.index_mut.ensures.value) (marks c.in-Some.at one (let lt = c.in-Some.ensures.0 in omega (arith, lt, c.args.self.now.held.ok))))
    (subst (λ (name : List ℕ). IsMark (bytes_of files name) c.args.mark) (sym same) mark))
    marks
