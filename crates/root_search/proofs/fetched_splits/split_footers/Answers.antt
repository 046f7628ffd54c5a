use Rattle.std.proofs.Common.{◌∙◌}
use Rattle.root_search.proofs.Joining.{none_left}
use Rattle.root_search.proofs.Parting.{parting_begun, parting_done, parting_more}
use Rattle.root_search.proofs.fetched_splits.split_footers.Goals as goal

pub loop-part-init : goal.loop-part-init
loop-part-init c = parting_begun c.args.parts c.new-footers.result.items c.vacant-splits.result c.from_vec-left.result.items (c.from_vec-left.ensures.items ∙ c.into_vec.ensures) c.new-footers.ensures.items c.vacant-splits.ensures

pub loop-part-preserved : goal.loop-part-preserved
loop-part-preserved c =
    parting_more c.args.parts c.loop-part.footers.items c.push.new.self.items c.loop-part.splits c.push-in-Some.new.self c.loop-part.left.items c.pop_front.new.self.items c.in-Some.part c.loop-part.invariant c.in-Some.ensures.items
    c.in_ok-push.ensures.items c.in_ok-push-2.ensures.ok

pub returns : goal.returns
returns c = parting_done c.args.parts c.loop-part.footers.items c.loop-part.splits c.loop-part.left.items c.loop-part.invariant (none_left c.loop-part.left.items (c.in_default.ensures.items ∙ c.in_default.ensures.rest))
