use Rattle.std.proofs.Common.{List, ◌++◌, ap, ◌∙◌}
use Rattle.doc_value.specs.declared.facts.FieldTags.{FieldTags}
use Rattle.meta_journal.specs.Spelling.{counted, field_spelled}
use Rattle.meta_journal.proofs.Spelled.{seven_written}
use Rattle.meta_journal.proofs.writing.put_facts.Goals as goal

pub returns : goal.returns
returns c =
    seven_written _ _ _ _ _ _ _ _ _ _ _ _ _ _ _ c.in_ok-put_varint.ensures.ok c.in_ok-put_varint-2.ensures.ok c.in_ok-put_varint-3.ensures.ok c.in_ok-put_varint-4.ensures.ok
    c.in_ok-extend_from_slice.ensures.items c.in_ok-put_times.ensures (c.in_ok-put_fields.ensures ∙ ap (λ (l : List FieldTags). c.put_times.new.out.items ++ counted field_spelled l) c.as_slice.ensures)
