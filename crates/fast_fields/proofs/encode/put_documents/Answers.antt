use Rattle.std.proofs.Common.{◌<◌, length, arith}
use Rattle.fast_fields.proofs.Places.{document_put}
use Rattle.fast_fields.proofs.encode.put_documents.Goals as goal

pub loop-entry-preserved : goal.loop-entry-preserved
loop-entry-preserved c =
    let within : c.loop-entry.entry-index < length c.args.entries.now = omega arith in
    document_put c.loop-entry.out.items c.put_four.new.out.items _ c.args.entries.now c.loop-entry.entry-index _ within c.loop-entry.invariant c.in_ok-put_four.ensures.ok
