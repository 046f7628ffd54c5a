use Rattle.std.proofs.Common.{◌∙◌}
use Rattle.meta_journal.proofs.Spelled.{entry_written}
use Rattle.meta_journal.proofs.writing.encode_entry.Goals as goal

pub returns : goal.returns
returns c =
    c.from_vec.ensures ∙ entry_written c.args.entry.now c.kind_number.result c.new-out.result.items c.extend_from_slice.new.self.items c.put_varint.new.out.items c.put_act.new.out.items
    c.kind_number.ensures c.new-out.ensures.items c.in_ok-extend_from_slice.ensures.items c.in_ok-put_varint.ensures.ok c.in_ok-put_act.ensures
