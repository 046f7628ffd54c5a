use Rattle.query_reader.specs.Printed.{hides_in_word}
use Rattle.query_reader.proofs.Hiding.{hidden_step}
use Rattle.query_reader.proofs.printer.push_escaped.Goals as goal

pub loop-byte-preserved : goal.loop-byte-preserved
loop-byte-preserved c =
    hidden_step hides_in_word c.loop-byte.out.items c.push_byte.new.out.items c.args.text.now _ c.loop-byte.byte-index c.hides.result c.loop-byte-test.true
    c.hides.ensures c.in_ok-push_byte.ensures c.loop-byte.invariant
