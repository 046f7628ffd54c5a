use Rattle.std.proofs.Common.{◌+◌, ◌++◌, drop, arith}
use Rattle.term_postings.specs.Postings.{varints}
use Rattle.term_postings.proofs.Numbers.{not_failed, number_read, numbers_end, numbers_front}
use Rattle.split_merge.proofs.spelling.behind_numbers.Goals as goal

pub returns-in-Err-clause-only : goal.returns-in-Err-clause-only
returns-in-Err-clause-only c = λ numbers rest count fits e.
    let f = numbers_front c.args.bytes.now rest c.loop-number.at numbers c.loop-number._number (omega arith) (c.loop-number.invariant.1 numbers rest count fits e) fits in
    absurd (not_failed _ _ (c.in-Err.ensures.only f.0 (varints (drop (c.loop-number._number + 1) numbers) ++ rest) f.1 f.2))

pub loop-number-preserved : goal.loop-number-preserved
loop-number-preserved c = (
  c.in-Ok.ensures.found.within,
  λ numbers rest count fits e.
      let f = numbers_front c.args.bytes.now rest c.loop-number.at numbers c.loop-number._number (omega arith) (c.loop-number.invariant.1 numbers rest count fits e) fits in
      (number_read c.args.bytes.now (varints (drop (c.loop-number._number + 1) numbers) ++ rest) c.loop-number.at f.0 c.in-Ok.read.0 c.in-Ok.read.1 f.2
      (c.in-Ok.ensures.only f.0 (varints (drop (c.loop-number._number + 1) numbers) ++ rest) f.1 f.2)).1,
)

pub returns-clause-only : goal.returns-clause-only
returns-clause-only c = λ numbers rest count fits e.
    numbers_end c.args.bytes.now rest c.loop-number.at numbers c.loop-number._number (omega arith) (c.loop-number.invariant.1 numbers rest count fits e)
