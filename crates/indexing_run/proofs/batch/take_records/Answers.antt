use Rattle.std.proofs.Common.{◌∙◌, sym}
use Rattle.std.proofs.Math.Logic.{∥∥₁_map}
use Rattle.indexing_run.proofs.Takes.{takes_next}
use Rattle.indexing_run.proofs.batch.take_records.Goals as goal

pub take-requires-clause-taken : goal.take-requires-clause-taken
take-requires-clause-taken c = ∥∥₁_map c.requires.taken (λ r. let now = c.loop-i.invariant.taken r.0 r.1 in (now.0, now.1))

pub loop-i-preserved : goal.loop-i-preserved
loop-i-preserved c = record {
  mapping = c.in_ok-take.ensures.mapping ∙ c.loop-i.invariant.mapping;
  taken = λ list h.
      let now = c.loop-i.invariant.taken list h in
      let next = c.in_ok-take.ensures.taken c.loop-i.i now.0 now.1 in (
        next.0,
        next.1,
        now.2 ∙ takes_next c.args.documents.now.mapping c.loop-i.documents.mapping c.args.partition.now c.args.from c.loop-i.i c.args.records.now c.index-records-i.result now.0 next.0 c.loop-i.documents.builder.weight
            c.loop-i.invariant.mapping c.loop-i-test.true c.index-records-i.is now.1.weight (sym c.are_heavy.ensures ∙ c.if-are_heavy.false) next.2,
      );
}
