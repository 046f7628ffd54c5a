use Rattle.std.proofs.Common.{arith}
use Rattle.real_edge.proofs.Parts.{parts_more, all_taken}
use Rattle.real_edge.proofs.shelf_files.parts.Goals as goal

pub loop-object-init : goal.loop-object-init
loop-object-init c = λ o h begins. absurd (omega (arith, h.1))

pub loop-object-preserved : goal.loop-object-preserved
loop-object-preserved c =
    parts_more c.args.folder.now c.args.objects.now c.loop-object.object-index c.object-item.result c.loop-object.names c.add_part.new.names c.loop-object-test.true c.object-item.is
    (rw c.as_slice.ensures at c.in_ok-add_part.ensures.part) c.in_ok-add_part.ensures.rest c.loop-object.invariant

pub returns : goal.returns
returns c = λ o h begins. c.loop-object.invariant o (all_taken c.args.objects.now c.loop-object.object-index o (omega (arith, c.loop-object-test.false)) h) begins
