use Rattle.real_edge.proofs.memory_disk.found_piece.Goals as goal

pub returns-in-Ok-clause-reads : goal.returns-in-Ok-clause-reads
returns-in-Ok-clause-reads c = λ files name e. (c.args.content.now, e, c.in-Ok.ensures.piece)
