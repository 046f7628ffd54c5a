use Rattle.std.proofs.Common.{◌∙◌, add-one, ap, arith, get_or, map, reverse, subst, sym}
use Rattle.std.specs.declared.alloc.Global.{Global}
use Rattle.std.specs.declared.vec.Vec.{Vec}
use Rattle.std.specs.Prelude.{slice_set}
use Rattle.run_plan.specs.Dealing.{HoldBack}
use Rattle.run_plan.proofs.Deals.{TurnedUpTo, all_turned, none_turned, one_turned, turned_long}
use Rattle.run_plan.proofs.dealing.turn_all.Goals as goal

pub loop-i-init : goal.loop-i-init
loop-i-init g c = none_turned c.args.lists.now

pub loop-i-preserved : goal.loop-i-preserved
loop-i-preserved g c =
    subst (λ n. TurnedUpTo n c.args.lists.now (slice_set c.loop-i.lists c.loop-i.i c.reverse.new.self)) (sym (add-one c.loop-i.i))
    (one_turned c.loop-i.i c.args.lists.now c.loop-i.lists c.index-lists-i.result c.reverse.new.self c.loop-i.invariant (let long = turned_long c.loop-i.i c.args.lists.now c.loop-i.lists c.loop-i.invariant in let less = c.loop-i-test.true in omega (arith, long, less)) c.index-lists-i.is (c.reverse.ensures.items ∙ ap (λ (v : Vec _ Global). reverse v.items) (sym c.index-lists-i.is)))

pub returns : goal.returns
returns g c rests is = subst (HoldBack c.loop-i.lists) (sym is) (all_turned c.loop-i.i c.args.lists.now c.loop-i.lists c.loop-i.invariant (let long = turned_long c.loop-i.i c.args.lists.now c.loop-i.lists c.loop-i.invariant in let le = c.loop-i-test.false in omega (arith, long, le)))
