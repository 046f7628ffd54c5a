use Rattle.std.proofs.Common.{refl, get_or}
use Rattle.real_edge.proofs.Parts.{first_at, first_more, first_end, not_slash}
use Rattle.real_edge.proofs.shelf_files.first_part.Goals as goal

pub loop-at-init : goal.loop-at-init
loop-at-init c = refl

pub loop-at-preserved : goal.loop-at-preserved
loop-at-preserved c = first_more c.args.name.now c.loop-at.at c.loop-at-test.true (not_slash (get_or c.args.name.now c.loop-at.at 0) c.if-name-at-eq47.false) c.loop-at.invariant

pub returns : goal.returns
returns c = first_end c.args.name.now c.loop-at.at c.loop-at-test.false c.loop-at.invariant

pub returns-then-name-at-eq47 : goal.returns-then-name-at-eq47
returns-then-name-at-eq47 c = first_at c.args.name.now c.loop-at.at c.loop-at-test.true c.if-name-at-eq47.true c.loop-at.invariant
