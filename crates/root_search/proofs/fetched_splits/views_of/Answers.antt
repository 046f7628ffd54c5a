use Rattle.std.proofs.Common.{◌+◌, List, arith, subst, sym, ◌∙◌}
use Rattle.split_bundle.specs.declared.part_view.PartView.{PartView}
use Rattle.root_search.proofs.Joining.{none_left}
use Rattle.root_search.proofs.Parting.{AreSeen, all_footers_seen, all_splits_seen, seeing_begun, seeing_next}
use Rattle.root_search.proofs.fetched_splits.views_of.Goals as goal

pub loop-split-init : goal.loop-split-init
loop-split-init c = λ parts parted. seeing_begun parts c.args.footers.items c.from_vec-left.result.items c.args.splits.now c.vacant-views.result c.from_vec-left.ensures.items c.vacant-views.ensures parted

pub loop-split-preserved : goal.loop-split-preserved
loop-split-preserved c = λ parts parted.
    let n = seeing_next parts c.args.splits.now c.loop-split.split-index c.loop-split.left.items c.pop_front.new.self.items c.loop-split.views c.in-Some.footer c.split-item.result (c.loop-split.invariant parts parted) c.in-Some.ensures.items c.loop-split-test.true c.split-item.is in
    let view = c.in_ok-view_of.ensures n.part n.footer_is (n.pieces_are ∙ sym c.as_slice.ensures) in
    subst (λ (vs : List PartView). AreSeen parts c.args.splits.now (c.loop-split.split-index + 1) c.pop_front.new.self.items vs) (sym c.in_ok-push.ensures.ok) (n.then c.in_ok-view_of.field-0 view)

pub returns-in_default : goal.returns-in_default
returns-in_default c = λ parts parted.
    all_footers_seen parts c.args.splits.now c.loop-split.split-index c.loop-split.left.items c.loop-split.views (c.loop-split.invariant parts parted) (none_left c.loop-split.left.items (c.in_default.ensures.items ∙ c.in_default.ensures.rest))

pub returns : goal.returns
returns c = λ parts parted. all_splits_seen parts c.args.splits.now c.loop-split.split-index c.loop-split.left.items c.loop-split.views (c.loop-split.invariant parts parted) (omega (arith, c.loop-split-test.false))
