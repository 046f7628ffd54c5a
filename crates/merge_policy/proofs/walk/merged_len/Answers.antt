use Rattle.std.proofs.Common.{arith}
use Rattle.merge_policy.proofs.Fitting.{Fitting, none_merged, some_merged}
use Rattle.merge_policy.proofs.walk.merged_len.Goals as goal

pub returns-then-len-lt2-clause-none : goal.returns-then-len-lt2-clause-none
returns-then-len-lt2-clause-none c =
    let f : Fitting c.args.level.now c.min-most.result c.fitting_len-len.result = record {
      within = c.fitting_len-len.ensures.within;
      fits = c.fitting_len-len.ensures.fits;
      longest = c.fitting_len-len.ensures.longest;
    } in
    none_merged _ _ c.min-most.result c.fitting_len-len.result c.args.level.now (omega arith) (omega arith) (λ n le within. omega arith) f c.if-len-lt2.true

pub returns-clause-some : goal.returns-clause-some
returns-clause-some c =
    let f : Fitting c.args.level.now c.min-most.result c.fitting_len-len.result = record {
      within = c.fitting_len-len.ensures.within;
      fits = c.fitting_len-len.ensures.fits;
      longest = c.fitting_len-len.ensures.longest;
    } in
    some_merged _ _ c.min-most.result c.fitting_len-len.result c.args.level.now (omega arith) (omega arith) (λ n le within. omega arith) f (omega arith) c.if-len-lt2.false
