use Rattle.std.proofs.Common.{arith}
use Rattle.split_build.proofs.TakenLemmas.{no_seconds}
use Rattle.split_build.proofs.builder.Builder.vacant.Goals as goal

pub returns : goal.returns
returns c = record {
  schema = c.in_ok-copy.ensures;
  are_documents = record { schema = c.requires; of_schema = tt; held = tt; light = omega arith };
  count = omega arith;
  weight = omega arith;
  bodies = c.vacant-2.ensures;
  said = c.in_ok-vacant.ensures c.args.schema.now;
  columns = c.in_ok-column_logs.ensures;
  tags = c.in_ok-tag_logs.ensures;
  times = no_seconds c.args.schema.now.timestamp;
}
