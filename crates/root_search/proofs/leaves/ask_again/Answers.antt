use Rattle.std.proofs.Common.{List, refl, arith, subst, sym}
use Rattle.std.specs.List.{AllZip}
use Rattle.root_search.specs.Leaves.{GivesShare}
use Rattle.root_search.specs.declared.shares.SplitShare.{SplitShare}
use Rattle.root_search.proofs.Zipped.{at_place, zip_set}
use Rattle.root_search.proofs.leaves.ask_again.Goals as goal

pub returns-in-Ok : goal.returns-in-Ok
returns-in-Ok c = λ all.
    let r = c.args.request.now in
    let views = c.args.views.now in
    let gives = GivesShare c.args.schema.now r in
    let share : SplitShare = record { wanted = r.wanted; answer = c.in-Ok.answer } in
    let there = c.in-Some.ensures.lookup.3 in
    subst (λ (l : List SplitShare). AllZip gives views l) (sym c.set.ensures)
    (zip_set gives views c.args.shares.now c.args.place c.in-Some.view.now share all (at_place views c.args.place c.in-Some.view.now there.0 there.1)
    (record { asked = r; alike = record { query = refl; times = refl; order = refl; aggs = refl }; wanted = refl; some = c.requires.some; few = omega arith; is_leaf = c.in-Ok.ensures }))
