use Rattle.std.proofs.Common.{length, ℕ, List, ◌++◌, ap, ◌∙◌}
use Rattle.byte_fields.specs.Spelling.{byte_string}
use Rattle.byte_fields.specs.Spelling.{varint}
use Rattle.meta_journal.proofs.Spelled.{more_written, all_written}
use Rattle.meta_journal.proofs.writing.put_texts.Goals as goal

pub loop-text-preserved : goal.loop-text-preserved
loop-text-preserved c =
    more_written byte_string c.args.texts.now c.loop-text.text-index c.text-item.result c.text-item.result c.args.out.now.items (varint (length c.args.texts.now)) c.loop-text.out.items c.put_bytes.new.out.items c.loop-text-test.true c.text-item.is c.loop-text.invariant (c.in_ok-put_bytes.ensures.ok ∙ ap (λ (l : List ℕ). c.loop-text.out.items ++ byte_string l) c.as_slice.ensures)

pub returns : goal.returns
returns c = all_written byte_string c.args.texts.now c.loop-text.text-index c.args.out.now.items (varint (length c.args.texts.now)) c.loop-text.out.items c.loop-text-test.false c.loop-text.invariant
