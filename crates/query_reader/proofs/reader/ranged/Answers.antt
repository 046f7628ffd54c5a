use Rattle.std.proofs.Common.{◌∙◌, sym, ap, arith, get_or}
use Rattle.query_reader.proofs.Specials.{range_more, range_done, range_ended, range_before, range_refused, range_whole, range_open}
use Rattle.query_reader.specs.Ranges.{range_step}
use Rattle.query_reader.proofs.reader.ranged.Goals as goal

pub returns-in-Done-clause-read : goal.returns-in-Done-clause-read
returns-in-Done-clause-read c = λ f fs. rw (c.edged.ensures.raw, c.edged.ensures.end, c.edged.ensures.free) (c.loop-at.invariant.reads f fs ∙ range_done c.args.text.now c.loop-at.at c.args.field c.args.from c.loop-at.mode f fs c.loop-at-test.true c.in-Done.range
    (ap (range_step c.loop-at.mode c.loop-at.at (get_or c.args.text.now c.loop-at.at 0)) (sym c.byte_kind.ensures) ∙ sym c.step_range.ensures ∙ c.in-Done.is))

pub returns-in-Ended-clause-read : goal.returns-in-Ended-clause-read
returns-in-Ended-clause-read c = λ f fs. rw (c.edged-in-Ended.ensures.raw, c.edged-in-Ended.ensures.end, c.edged-in-Ended.ensures.free) (c.loop-at.invariant.reads f fs ∙ range_ended c.args.text.now c.loop-at.at c.args.field c.args.from c.loop-at.mode f fs c.loop-at-test.true c.in-Ended.range
    (ap (range_step c.loop-at.mode c.loop-at.at (get_or c.args.text.now c.loop-at.at 0)) (sym c.byte_kind.ensures) ∙ sym c.step_range.ensures ∙ c.in-Ended.is))

pub returns-in-Before-clause-read : goal.returns-in-Before-clause-read
returns-in-Before-clause-read c = λ f fs. rw (c.edged-in-Before.ensures.raw, c.edged-in-Before.ensures.end, c.edged-in-Before.ensures.free) (c.loop-at.invariant.reads f fs ∙ range_before c.args.text.now c.loop-at.at c.args.field c.args.from c.loop-at.mode f fs c.loop-at-test.true c.in-Before.range
    (ap (range_step c.loop-at.mode c.loop-at.at (get_or c.args.text.now c.loop-at.at 0)) (sym c.byte_kind.ensures) ∙ sym c.step_range.ensures ∙ c.in-Before.is))

pub returns-in-Refused-clause-read : goal.returns-in-Refused-clause-read
returns-in-Refused-clause-read c = λ f fs. c.loop-at.invariant.reads f fs ∙ range_refused c.args.text.now c.loop-at.at c.args.field c.args.from c.loop-at.mode f fs c.loop-at-test.true
    (ap (range_step c.loop-at.mode c.loop-at.at (get_or c.args.text.now c.loop-at.at 0)) (sym c.byte_kind.ensures) ∙ sym c.step_range.ensures ∙ c.in-Refused.is)

pub loop-at-preserved : goal.loop-at-preserved
loop-at-preserved c = record {
  behind = omega arith;
  within = omega arith;
  reads = λ f fs. c.loop-at.invariant.reads f fs ∙ range_more c.args.text.now c.loop-at.at c.args.field c.args.from c.loop-at.mode f fs c.loop-at-test.true c.in-More.next
      (ap (range_step c.loop-at.mode c.loop-at.at (get_or c.args.text.now c.loop-at.at 0)) (sym c.byte_kind.ensures) ∙ sym c.step_range.ensures ∙ c.in-More.is);
}

pub returns-in-Some-clause-read : goal.returns-in-Some-clause-read
returns-in-Some-clause-read c = λ f fs. rw (c.edged-in-Some.ensures.raw, c.edged-in-Some.ensures.end, c.edged-in-Some.ensures.free) (c.loop-at.invariant.reads f fs ∙ range_whole c.args.text.now c.loop-at.at c.args.field c.args.from c.loop-at.mode c.in-Some.range f fs (omega arith) (sym c.in-Some.ensures))

pub returns-in-None-clause-read : goal.returns-in-None-clause-read
returns-in-None-clause-read c = λ f fs. c.loop-at.invariant.reads f fs ∙ range_open c.args.text.now c.loop-at.at c.args.field c.args.from c.loop-at.mode f fs (omega arith) (sym c.in-None.ensures)
