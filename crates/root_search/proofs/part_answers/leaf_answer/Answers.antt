use Rattle.std.proofs.Common.{List, subst, sym}
use Rattle.std.specs.List.{AllZip}
use Rattle.split_bundle.specs.declared.part_view.PartView.{PartView}
use Rattle.root_search.specs.PartAnswers.{IsViewOfPart}
use Rattle.root_search.proofs.Parting.{all_asked, all_lent, parted_at}
use Rattle.root_search.proofs.Unread.{part_refused, parts_answered}
use Rattle.root_search.proofs.part_answers.leaf_answer.Goals as goal

pub search_all-requires-clause-lent : goal.search_all-requires-clause-lent
search_all-requires-clause-lent g c = λ lives outlive.
    let parted = parted_at c.args.parts c.in_ok-parted.parted.footers.items c.in_ok-parted.parted.splits c.as_slice-splits.result.now c.as_slice-splits.ensures c.in_ok-parted.ensures in
    let seen = subst (λ (vs : List PartView). AllZip IsViewOfPart c.args.parts vs) (sym c.as_slice.ensures) (c.in_ok-views.ensures c.args.parts parted) in
    all_lent c.args.parts c.as_slice-splits.result.now c.as_slice.result.now parted.1 seen

pub returns-in-Ok-clause-only : goal.returns-in-Ok-clause-only
returns-in-Ok-clause-only g c =
    let parted = parted_at c.args.parts c.in_ok-parted.parted.footers.items c.in_ok-parted.parted.splits c.as_slice-splits.result.now c.as_slice-splits.ensures c.in_ok-parted.ensures in
    let seen = subst (λ (vs : List PartView). AllZip IsViewOfPart c.args.parts vs) (sym c.as_slice.ensures) (c.in_ok-views.ensures c.args.parts parted) in
    λ lists parts few asked. c.in-Ok.ensures.asked lists (all_asked c.args.schema.now c.args.ask.now.request c.args.parts c.as_slice.result.now lists asked seen parts) few asked

pub returns-clause-only : goal.returns-clause-only
returns-clause-only g c =
    let parted = parted_at c.args.parts c.in_ok-parted.parted.footers.items c.in_ok-parted.parted.splits c.as_slice-splits.result.now c.as_slice-splits.ensures c.in_ok-parted.ensures in
    let seen = subst (λ (vs : List PartView). AllZip IsViewOfPart c.args.parts vs) (sym c.as_slice.ensures) (c.in_ok-views.ensures c.args.parts parted) in
    λ lists parts few asked. c.fault_of.ensures.room (c.in-Err.ensures.asked lists (all_asked c.args.schema.now c.args.ask.now.request c.args.parts c.as_slice.result.now lists asked seen parts) few asked)

pub returns-in-Ok-clause-answered : goal.returns-in-Ok-clause-answered
returns-in-Ok-clause-answered g c =
    let parted = parted_at c.args.parts c.in_ok-parted.parted.footers.items c.in_ok-parted.parted.splits c.as_slice-splits.result.now c.as_slice-splits.ensures c.in_ok-parted.ensures in
    let seen = subst (λ (vs : List PartView). AllZip IsViewOfPart c.args.parts vs) (sym c.as_slice.ensures) (c.in_ok-views.ensures c.args.parts parted) in
    parts_answered c.args.schema.now c.args.ask.now.request c.args.parts c.as_slice.result.now c.in-Ok.answer seen c.in-Ok.ensures.each

pub returns-clause-refused : goal.returns-clause-refused
returns-clause-refused g c =
    let parted = parted_at c.args.parts c.in_ok-parted.parted.footers.items c.in_ok-parted.parted.splits c.as_slice-splits.result.now c.as_slice-splits.ensures c.in_ok-parted.ensures in
    let seen = subst (λ (vs : List PartView). AllZip IsViewOfPart c.args.parts vs) (sym c.as_slice.ensures) (c.in_ok-views.ensures c.args.parts parted) in
    part_refused c.args.schema.now c.args.ask.now.request c.args.parts c.as_slice-splits.result.now c.as_slice.result.now parted.1 seen c.in-Err.error c.fault_of.result c.in-Err.ensures.refused c.fault_of.ensures.place
