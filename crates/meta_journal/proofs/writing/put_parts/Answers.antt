use Rattle.std.proofs.Common.{length}
use Rattle.meta_journal.specs.Spelling.{part_spelled}
use Rattle.byte_fields.specs.Spelling.{varint}
use Rattle.meta_journal.proofs.Spelled.{more_written, all_written}
use Rattle.meta_journal.proofs.writing.put_parts.Goals as goal

pub loop-part-preserved : goal.loop-part-preserved
loop-part-preserved c =
    more_written part_spelled c.args.parts.now c.loop-part.part-index c.part-item.result c.part-item.result c.args.out.now.items (varint (length c.args.parts.now)) c.loop-part.out.items c.put_part.new.out.items c.loop-part-test.true c.part-item.is c.loop-part.invariant c.in_ok-put_part.ensures

pub returns : goal.returns
returns c = all_written part_spelled c.args.parts.now c.loop-part.part-index c.args.out.now.items (varint (length c.args.parts.now)) c.loop-part.out.items c.loop-part-test.false c.loop-part.invariant
