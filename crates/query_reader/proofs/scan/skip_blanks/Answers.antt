use Rattle.std.proofs.Common.{arith, ◌∙◌, refl, ap, ◌||◌, nat_lt, drop, ◌+◌, sym}
use Rattle.query_reader.proofs.Steps.{goes, free_or}
use Rattle.query_reader.specs.Machine.{run, state, After}
use Rattle.query_reader.specs.declared.kind.Kind.TheVariants.{Blank}
use Rattle.query_reader.proofs.scan.skip_blanks.Goals as goal

pub loop-at-preserved : goal.loop-at-preserved
loop-at-preserved c = record {
  behind = omega arith;
  within = omega arith;
  stays = λ m f fs h. c.loop-at.invariant.stays m f fs h ∙ goes c.args.text.now c.loop-at.at m f fs Blank _ (omega arith) (c.stands.ensures.0 c.if-stands.true) (h c.loop-at.at _);
  after = λ free f fs. c.loop-at.invariant.after free f fs ∙ goes c.args.text.now c.loop-at.at (After (free || nat_lt c.args.from c.loop-at.at)) f fs Blank _ (omega arith) (c.stands.ensures.0 c.if-stands.true) refl
      ∙ ap (λ b. run (c.loop-at.at + 1) (state (After b) f fs) (drop (c.loop-at.at + 1) c.args.text.now)) (sym (free_or free c.args.from (c.loop-at.at + 1) (omega arith)));
}
