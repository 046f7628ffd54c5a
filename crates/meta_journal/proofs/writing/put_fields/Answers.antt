use Rattle.std.proofs.Common.{length}
use Rattle.meta_journal.specs.Spelling.{field_spelled}
use Rattle.byte_fields.specs.Spelling.{varint}
use Rattle.meta_journal.proofs.Spelled.{more_written, all_written}
use Rattle.meta_journal.proofs.writing.put_fields.Goals as goal

pub loop-field-preserved : goal.loop-field-preserved
loop-field-preserved c =
    more_written field_spelled c.args.fields.now c.loop-field.field-index c.field-item.result c.field-item.result c.args.out.now.items (varint (length c.args.fields.now)) c.loop-field.out.items c.put_field.new.out.items c.loop-field-test.true c.field-item.is c.loop-field.invariant c.in_ok-put_field.ensures

pub returns : goal.returns
returns c = all_written field_spelled c.args.fields.now c.loop-field.field-index c.args.out.now.items (varint (length c.args.fields.now)) c.loop-field.out.items c.loop-field-test.false c.loop-field.invariant
