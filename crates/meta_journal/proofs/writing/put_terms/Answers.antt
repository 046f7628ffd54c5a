use Rattle.std.proofs.Common.{length, ℕ, List, ◌++◌, ap, ◌∙◌}
use Rattle.byte_fields.specs.Spelling.{byte_string}
use Rattle.byte_fields.specs.Spelling.{varint}
use Rattle.meta_journal.proofs.Spelled.{more_written, all_written}
use Rattle.meta_journal.proofs.writing.put_terms.Goals as goal

pub loop-term-preserved : goal.loop-term-preserved
loop-term-preserved c =
    more_written byte_string c.args.terms.now c.loop-term.term-index c.term-item.result c.term-item.result c.args.out.now.items (varint (length c.args.terms.now)) c.loop-term.out.items c.put_bytes.new.out.items c.loop-term-test.true c.term-item.is c.loop-term.invariant (c.in_ok-put_bytes.ensures.ok ∙ ap (λ (l : List ℕ). c.loop-term.out.items ++ byte_string l) c.as_slice.ensures)

pub returns : goal.returns
returns c = all_written byte_string c.args.terms.now c.loop-term.term-index c.args.out.now.items (varint (length c.args.terms.now)) c.loop-term.out.items c.loop-term-test.false c.loop-term.invariant
