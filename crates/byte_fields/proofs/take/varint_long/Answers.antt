use Rattle.std.proofs.Common.{sym, ◌∙◌, inl, inr, arith}
use Rattle.byte_fields.proofs.Long.{last_read, not_minimal, too_large, one_more}
use Rattle.byte_fields.proofs.take.varint_long.Goals as goal

pub returns-then-start-last : goal.returns-then-start-last
returns-then-start-last c = sym (not_minimal c.args.bytes.now c.args.start c.in_ok-last.last c.in_ok-last.ensures.ok c.if-start-last.true (sym c.if-value-eq0.true ∙ c.from-value.ensures))

pub loop-at-init : goal.loop-at-init
loop-at-init c = record {
  behind = c.in_ok-last.ensures.ok.behind;
  before = omega arith;
  positive = λ lt zero. elim c.else-value-eq0.either [ inl both ↦ absurd (omega arith) | inr other ↦ other zero ];
  read = last_read c.args.bytes.now c.args.start c.in_ok-last.last c.from-value.result c.in_ok-last.ensures.ok c.from-value.ensures;
}

pub returns-then-value-ge-HIGH_END : goal.returns-then-value-ge-HIGH_END
returns-then-value-ge-HIGH_END c = sym (too_large c.args.bytes.now c.args.start c.in_ok-last.last c.loop-at.at c.loop-at.value c.in_ok-last.ensures.ok c.loop-at-test.true c.loop-at.invariant.before (c.loop-at.invariant.positive c.loop-at-test.true) c.if-value-ge-HIGH_END.true c.loop-at.invariant.read)

pub loop-at-preserved : goal.loop-at-preserved
loop-at-preserved c =
    let other = c.loop-at.invariant.positive c.loop-at-test.true in
    record {
      behind = omega arith;
      before = omega arith;
      positive = λ lt zero. other (omega (arith, zero));
      read = rw c.from.ensures (one_more c.args.bytes.now c.args.start c.in_ok-last.last c.loop-at.at c.loop-at.value c.in_ok-last.ensures.ok c.loop-at-test.true c.loop-at.invariant.before other c.if-value-ge-HIGH_END.false c.loop-at.invariant.read);
    }
