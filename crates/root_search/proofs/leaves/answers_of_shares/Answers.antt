use Rattle.std.proofs.Common.{◌∙◌}
use Rattle.root_search.proofs.Joining.{none_left}
use Rattle.root_search.proofs.ShareJoins.{answering_begun, answering_done, answering_more}
use Rattle.root_search.proofs.leaves.answers_of_shares.Goals as goal

pub loop-share-init : goal.loop-share-init
loop-share-init c = answering_begun c.args.shares c.from_vec-left.result.items c.new-answers.result.items (c.from_vec-left.ensures.items ∙ c.into_vec.ensures) c.new-answers.ensures.items

pub loop-share-preserved : goal.loop-share-preserved
loop-share-preserved c = answering_more c.args.shares c.loop-share.left.items c.pop_front.new.self.items c.loop-share.answers.items c.push.new.self.items c.in-Some.share c.loop-share.invariant c.in-Some.ensures.items c.in_ok-push.ensures.items

pub returns : goal.returns
returns c = answering_done c.args.shares c.loop-share.left.items c.loop-share.answers.items c.loop-share.invariant (none_left c.loop-share.left.items (c.in_default.ensures.items ∙ c.in_default.ensures.rest))
