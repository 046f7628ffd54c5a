use Rattle.byte_fields.proofs.Streams.{read_front}
use Rattle.byte_fields.proofs.source.MemorySourceSource.read.Goals as goal

pub returns-clause-bytes : goal.returns-clause-bytes
returns-clause-bytes c =
    read_front c.args.self.now.at c.min-count.result c.args.self.now.content c.as_slice.result.now c.args.buffer.now c.copy_from_slice.new.self
    c.as_slice.ensures c.copy_from_slice.ensures.after c.min-count.ensures
