use Rattle.std.proofs.Common.{◌++◌, ◌∷◌, [], ◌∙◌, ap, arith}
use Rattle.std.proofs.lemmas.List.{take_all}
use Rattle.source_checkpoint.specs.Deltas.{spans_of}
use Rattle.meta_store.proofs.Steps.{filled_next}
use Rattle.meta_store.proofs.spans.fill_spans.Goals as goal

pub loop-part-preserved : goal.loop-part-preserved
loop-part-preserved c = record {
  filled =
      c.push_reserved.ensures.items
      ∙ (ap (λ s. c.loop-part.spans.items ++ s ∷ []) c.behind.ensures
      ∙ filled_next c.args.opstamp c.args.parts.now c.loop-part.part-index c.part-item.result c.args.spans.now.items c.loop-part.spans.items c.loop-part-test.true c.part-item.is c.loop-part.invariant.filled);
  len = omega (arith, c.push_reserved.ensures.len, c.loop-part.invariant.len);
  room = c.push_reserved.ensures.capacity ∙ c.loop-part.invariant.room;
}

pub returns : goal.returns
returns c = c.loop-part.invariant.filled ∙ ap (λ l. c.args.spans.now.items ++ spans_of c.args.opstamp l) (take_all c.loop-part.part-index c.args.parts.now (omega arith))
