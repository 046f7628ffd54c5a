use Rattle.std.proofs.Common.{◌*◌, ◌^◌, ◌<◌, arith}
use Rattle.merge_policy.proofs.Levels.{bounded, grows, at_first, stepped, reached_next, only_level}
use Rattle.merge_policy.proofs.level.log_level.Goals as goal

pub loop-bound-init : goal.loop-bound-init
loop-bound-init c = record {
  bound_is = at_first c.args.least c.args.factor;
  reached = λ k e. absurd (omega arith);
  above = omega arith;
  below = omega arith;
}

pub loop-bound-preserved : goal.loop-bound-preserved
loop-bound-preserved c =
    let i = c.loop-bound.invariant in
    let more = grows c.loop-bound.bound c.args.factor (omega arith) (omega arith) in record {
      bound_is = stepped c.args.least c.args.factor c.loop-bound.level c.loop-bound.bound i.bound_is;
      reached = reached_next c.args.least c.args.factor c.args.docs c.loop-bound.level c.loop-bound.bound i.bound_is (omega arith);
      above = omega arith;
      below = bounded c.loop-bound.bound c.args.factor c.args.docs (omega arith) (omega arith) (omega arith);
    }

pub returns : goal.returns
returns c =
    let e = c.loop-bound.invariant.bound_is in
    let below : c.args.docs < c.args.least * c.args.factor ^ c.loop-bound.level = omega arith in
    only_level c.args.least c.args.factor c.args.docs (omega arith) c.loop-bound.level below c.loop-bound.invariant.reached
