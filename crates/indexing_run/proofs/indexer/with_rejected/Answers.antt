use Rattle.std.proofs.Common.{arith}
use Rattle.indexing_run.proofs.indexer.with_rejected.Goals as goal

pub returns-clause-can : goal.returns-clause-can
returns-clause-can c = record {
  docs = c.requires.docs;
  rejected = omega arith;
  weight = c.requires.weight;
  size = c.requires.size;
  digest = c.requires.digest;
  times = c.requires.times;
  tags = c.requires.tags;
  rising = c.requires.rising;
}
