use Rattle.std.proofs.Common.{[], ◌∷◌, ◌∙◌, ◌≤◌, ◌<◌, ap, sym, length, arith, take}
use Rattle.std.specs.Prelude.{filter}
use Rattle.object_store.specs.Kept.{state_of}
use Rattle.object_store.specs.Late.{Held, held_of, is_due, begun}
use Rattle.object_store.proofs.Landings.{HasLanded-trans}
use Rattle.object_store.proofs.Due.{landed_late, due_lands, front_stays, not_due, none_due}
use Rattle.object_store.proofs.kept.Kept.land.Goals as goal

pub loop-at-preserved-then-is_due : goal.loop-at-preserved-then-is_due
loop-at-preserved-then-is_due c =
    let h = held_of c.loop-at.self in
    let lt : c.loop-at.at < length c.loop-at.self.late.items = omega arith in
    let l = c.index.result.now in
    let due = sym c.is_due.ensures ∙ c.if-is_due.true in
    let landed = landed_late h c.loop-at.at l (held_of c.land_one.new.self) c.index.ensures (c.land_one.ensures.held l) in
    record {
      lands = HasLanded-trans (state_of c.args.self.now) (state_of c.loop-at.self) (state_of c.land_one.new.self) c.loop-at.invariant.lands (c.loop-at.at ∷ [], c.land_one.ensures.lands);
      same = ap (begun c.args.made) landed ∙ due_lands c.args.made c.loop-at.at h l lt c.index.ensures due c.loop-at.invariant.passed ∙ c.loop-at.invariant.same;
      passed = ap (λ (n : Held). filter (is_due c.args.made) (take c.loop-at.at n.late)) landed ∙ front_stays c.args.made c.loop-at.at c.loop-at.self.late.items lt c.loop-at.invariant.passed;
    }

pub loop-at-preserved : goal.loop-at-preserved
loop-at-preserved c =
    let lt : c.loop-at.at < length c.loop-at.self.late.items = omega arith in
    record {
      lands = c.loop-at.invariant.lands;
      same = c.loop-at.invariant.same;
      passed = not_due c.args.made c.loop-at.at c.loop-at.self.late.items c.index.result.now lt c.index.ensures (sym c.is_due.ensures ∙ c.if-is_due.false) c.loop-at.invariant.passed;
    }

pub returns-clause-due : goal.returns-clause-due
returns-clause-due c =
    let le : length c.loop-at.self.late.items ≤ c.loop-at.at = omega arith in
    none_due c.args.made c.loop-at.at (held_of c.loop-at.self) le c.loop-at.invariant.passed ∙ c.loop-at.invariant.same
