use Rattle.std.proofs.Common.{length, get_or, refl}
use Rattle.byte_fields.specs.Spelling.{varint}
use Rattle.meta_journal.proofs.Spelled.{more_written, all_written}
use Rattle.meta_journal.proofs.writing.put_numbers.Goals as goal

pub loop-number-preserved : goal.loop-number-preserved
loop-number-preserved c =
    more_written varint c.args.numbers.now c.loop-number.number-index (get_or c.args.numbers.now c.loop-number.number-index 0) 0 c.args.out.now.items (varint (length c.args.numbers.now)) c.loop-number.out.items c.put_varint-in-loop-number.new.out.items c.loop-number-test.true refl c.loop-number.invariant c.in_ok-put_varint-2.ensures.ok

pub returns : goal.returns
returns c = all_written varint c.args.numbers.now c.loop-number.number-index c.args.out.now.items (varint (length c.args.numbers.now)) c.loop-number.out.items c.loop-number-test.false c.loop-number.invariant
