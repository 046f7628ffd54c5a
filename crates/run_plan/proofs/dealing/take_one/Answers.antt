use Rattle.std.proofs.Common.{◌≡◌, ◌∙◌, [], None, ap, arith, get_or, sym}
use Rattle.std.proofs.lemmas.List.{nil_from_length}
use Rattle.std.specs.declared.alloc.Global.{Global}
use Rattle.std.specs.declared.vec.Vec.{Vec}
use Rattle.run_plan.proofs.Deals.{none_case, none_there, took}
use Rattle.run_plan.proofs.dealing.take_one.Goals as goal

pub returns-then-owner-lists : goal.returns-then-owner-lists
returns-then-owner-lists g c rests held =
    let list = c.index-lists-owner.result in
    let same = ap (λ (v : Vec _ Global). v.items) c.index-lists-owner.is in
    took c.args.lists.now rests c.args.owner list c.pop.new.self c.pop.result held c.if-owner-lists.true c.index-lists-owner.is (same ∙ c.pop.ensures.items)
    (λ none. same ∙ nil_from_length _ (let e = none_case c.pop.result _ _ c.pop.ensures.cases none in let v = get_or c.args.lists.now c.args.owner c.index-lists-owner.result in omega (arith, e.0, v.ok.0)))

pub returns-else-owner-lists : goal.returns-else-owner-lists
returns-else-owner-lists g c rests held = none_there c.args.lists.now rests c.args.owner held c.if-owner-lists.false
