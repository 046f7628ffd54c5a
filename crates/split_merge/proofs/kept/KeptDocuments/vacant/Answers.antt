use Rattle.std.proofs.Common.{arith}
use Rattle.split_merge.proofs.kept.KeptDocuments.vacant.Goals as goal

pub returns : goal.returns
returns c = record {
  of_schema = tt;
  held = tt;
  weight = omega arith;
  bodies = c.vacant.ensures;
  facts = c.in_ok-vacant.ensures;
}
