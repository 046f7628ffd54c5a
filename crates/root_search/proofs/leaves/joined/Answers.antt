use Rattle.std.proofs.Common.{ap, ◌∷◌, ◌∙◌}
use Rattle.root_search.proofs.Joining.{all_joined, each_joined, fault_joined, full_joined, joining_begun, joining_more, next_counted, none_left, vacant_joined}
use Rattle.root_search.proofs.leaves.joined.Goals as goal

pub loop-answer-init : goal.loop-answer-init
loop-answer-init c =
    joining_begun c.args.request.now c.args.answers.items c.from_vec-left.result.items c.in_ok-all.all c.from_vec-left.ensures.items c.requires c.in_ok-all.ensures.counted (vacant_joined c.args.request.now c.in_ok-all.all c.in_ok-all.ensures.only c.in_ok-all.ensures.none)
    c.in_ok-all.ensures.only

pub returns-in-Err-clause-fault : goal.returns-in-Err-clause-fault
returns-in-Err-clause-fault c =
    fault_joined c.args.request.now c.args.answers.items c.loop-answer.left.items c.pop_front.new.self.items c.loop-answer.place c.loop-answer.all c.in-Err.fault c.fault_at.result c.loop-answer.invariant
    (c.in-Some.ensures.items ∙ ap (λ a. a ∷ c.pop_front.new.self.items) c.in-Err.is) c.fault_at.ensures

pub added-requires-clause-next : goal.added-requires-clause-next
added-requires-clause-next c =
    next_counted c.args.request.now c.args.answers.items c.loop-answer.left.items c.pop_front.new.self.items c.loop-answer.place c.loop-answer.all c.in-Ok.next c.loop-answer.invariant
    (c.in-Some.ensures.items ∙ ap (λ a. a ∷ c.pop_front.new.self.items) c.in-Ok.is)

pub returns-in_err-all-in-Ok-clause-fault : goal.returns-in_err-all-in-Ok-clause-fault
returns-in_err-all-in-Ok-clause-fault c =
    full_joined c.args.request.now c.args.answers.items c.loop-answer.left.items c.pop_front.new.self.items c.loop-answer.place c.loop-answer.all c.in-Ok.next c.in_err-all-in-Ok.field-0.0 c.from_residual-in_err-all-in-Ok.result c.loop-answer.invariant
    (c.in-Some.ensures.items ∙ ap (λ a. a ∷ c.pop_front.new.self.items) c.in-Ok.is) c.in_err-all-in-Ok.ensures.full c.from_residual-in_err-all-in-Ok.ensures.1

pub loop-answer-preserved : goal.loop-answer-preserved
loop-answer-preserved c =
    joining_more c.args.request.now c.args.answers.items c.loop-answer.left.items c.pop_front.new.self.items c.loop-answer.place c.loop-answer.all c.in-Ok.next c.in_ok-all-in-Ok.all c.loop-answer.invariant
    (c.in-Some.ensures.items ∙ ap (λ a. a ∷ c.pop_front.new.self.items) c.in-Ok.is) c.in_ok-all-in-Ok.ensures.counted c.in_ok-all-in-Ok.ensures.joined c.in_ok-all-in-Ok.ensures.only

pub returns-clause-only : goal.returns-clause-only
returns-clause-only c =
    all_joined c.args.request.now c.args.answers.items c.loop-answer.left.items c.loop-answer.place c.loop-answer.all c.loop-answer.invariant
    (none_left c.loop-answer.left.items (c.in_default.ensures.items ∙ c.in_default.ensures.rest))

pub returns-clause-each : goal.returns-clause-each
returns-clause-each c =
    each_joined c.args.request.now c.args.answers.items c.loop-answer.left.items c.loop-answer.place c.loop-answer.all c.loop-answer.invariant
    (none_left c.loop-answer.left.items (c.in_default.ensures.items ∙ c.in_default.ensures.rest))
