use Rattle.std.proofs.Common.{◌∙◌, sym, subst, arith}
use Rattle.meta_store.specs.Lying.{LiesSo}
use Rattle.meta_store.proofs.Retiring.{begins_there}
use Rattle.meta_store.proofs.Steps.{passes, ends_there}
use Rattle.meta_store.proofs.spans.join_range.Goals as goal

pub places-preserved-in-Before : goal.places-preserved-in-Before
places-preserved-in-Before c = record {
  passed =
      c.places.invariant.passed
      ∙ passes c.places.range c.index.result.now c.places.ranges.items c.places.place (omega arith) c.index.ensures
      (subst (λ k. LiesSo k c.index.result.now c.places.range) c.in-Before.is c.lie_of.ensures);
  within = omega arith;
  len = c.places.invariant.len;
  room = c.places.invariant.room;
}

pub places-preserved : goal.places-preserved
places-preserved c = record {
  passed =
      c.places.invariant.passed
      ∙ ends_there c.places.range c.index.result.now c.remove.result c.places.ranges.items c.remove.new.self.items c.places.place (omega arith) c.index.ensures c.remove.ensures.value
      (subst (λ k. LiesSo k c.index.result.now c.places.range) c.in-EndsThere.is c.lie_of.ensures) c.remove.ensures.by_index.2;
  within = omega (arith, c.remove.ensures.len);
  len = omega (arith, c.remove.ensures.len, c.places.invariant.len);
  room = omega (arith, c.remove.ensures.capacity, c.places.invariant.room);
}

pub returns-in-BeginsThere-clause-items : goal.returns-in-BeginsThere-clause-items
returns-in-BeginsThere-clause-items c =
    begins_there c.places.range c.index.result.now c.index_mut.result.now c.places.ranges.items c.places.place (omega arith) c.index.ensures c.index_mut.ensures.value
    (subst (λ k. LiesSo k c.index.result.now c.places.range) c.in-BeginsThere.is c.lie_of.ensures)
    ∙ sym c.places.invariant.passed
