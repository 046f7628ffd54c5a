use Rattle.std.proofs.Common.{drop, subst, Some, None}
use Rattle.std.proofs.lemmas.List.{take-map}
use Rattle.merge_policy.specs.declared.candidate.Candidate.{Candidate}
use Rattle.merge_policy.specs.Choice.{merge_factor, max_merge_factor}
use Rattle.merge_policy.specs.Walk.{IsWalked}
use Rattle.merge_policy.proofs.Levelled.{rest_is, ended, found_here, next_rises, go_on}
use Rattle.merge_policy.proofs.walk.first_merged.Goals as goal

pub returns-in-Some : goal.returns-in-Some
returns-in-Some c =
    let i = c.loop-start.invariant in
    let merged = found_here (merge_factor c.args.policy.now) (max_merge_factor c.args.policy.now) c.loop-start.start c.level_len.result c.args.list.now _ c.index-rest-0.result c.loop-start-test.true (rest_is c.loop-start.start c.args.list.now)
    c.level_len.ensures i.rise _ c.in-Some.ensures.some in
    i.same (Some _) (subst (λ l. IsWalked (merge_factor c.args.policy.now) (max_merge_factor c.args.policy.now) (drop c.loop-start.start c.args.list.now) (Some l)) (take-map (λ (d : Candidate). d.row.now) c.in-Some.len _) merged)

pub loop-start-preserved : goal.loop-start-preserved
loop-start-preserved c =
    let i = c.loop-start.invariant in record {
      rise = next_rises (merge_factor c.args.policy.now) (max_merge_factor c.args.policy.now) c.loop-start.start c.level_len.result c.args.list.now _ c.index-rest-0.result c.loop-start-test.true (rest_is c.loop-start.start c.args.list.now)
          c.level_len.ensures i.rise;
      same = λ r walked. i.same r (go_on (merge_factor c.args.policy.now) (max_merge_factor c.args.policy.now) c.loop-start.start c.level_len.result c.args.list.now _ c.index-rest-0.result c.loop-start-test.true
          (rest_is c.loop-start.start c.args.list.now) c.level_len.ensures i.rise c.in_default.ensures.none r walked);
    }

pub returns : goal.returns
returns c = c.loop-start.invariant.same None (ended (merge_factor c.args.policy.now) (max_merge_factor c.args.policy.now) c.loop-start.start c.args.list.now c.loop-start-test.false)
