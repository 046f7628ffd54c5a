use Rattle.std.proofs.Common.{arith, ◌-◌, ◌+◌, ◌%◌}
use Rattle.std.proofs.lemmas.List.{length-set}
use Rattle.meta_journal.proofs.Digits.{one_more, rest_more}
use Rattle.meta_journal.proofs.keys.twenty_digits.Goals as goal

pub loop-at-preserved : goal.loop-at-preserved
loop-at-preserved c =
    let i = c.loop-at.invariant in
    record {
      long = omega (arith, i.long, length-set c.loop-at.text (c.loop-at.at - 1) (c.loop-at.rest % 10 + 48));
      high = omega (arith, i.high);
      back = one_more c.loop-at.text c.loop-at.at c.args.number c.loop-at.rest c.loop-at-test.true i.high (omega (arith, i.long, i.high)) i.rest i.back;
      rest = rest_more c.loop-at.at c.args.number c.loop-at.rest c.loop-at-test.true i.high i.rest;
    }
