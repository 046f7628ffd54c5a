use Rattle.std.proofs.Common.{◌∷◌, ap, ◌∙◌}
use Rattle.root_search.proofs.Joining.{none_left}
use Rattle.root_search.proofs.ShareJoins.{sharing_begun, sharing_done, sharing_more}
use Rattle.root_search.proofs.leaves.shares_of.Goals as goal

pub loop-answer-init : goal.loop-answer-init
loop-answer-init c = sharing_begun c.args.wanted c.args.answers.items c.from_vec-left.result.items c.vacant-shares.result c.from_vec-left.ensures.items c.vacant-shares.ensures

pub loop-answer-preserved : goal.loop-answer-preserved
loop-answer-preserved c =
    sharing_more c.args.wanted c.args.answers.items c.loop-answer.left.items c.pop_front.new.self.items c.loop-answer.shares c.push.new.self c.in-Ok.answer c.loop-answer.invariant
    (c.in-Some.ensures.items ∙ ap (λ a. a ∷ c.pop_front.new.self.items) c.in-Ok.is) c.in_ok-push-in-Ok.ensures.ok

pub returns : goal.returns
returns c = sharing_done c.args.wanted c.args.answers.items c.loop-answer.left.items c.loop-answer.shares c.loop-answer.invariant (none_left c.loop-answer.left.items (c.in_default.ensures.items ∙ c.in_default.ensures.rest))
