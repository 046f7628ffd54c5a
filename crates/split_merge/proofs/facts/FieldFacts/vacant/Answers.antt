use Rattle.std.proofs.Common.{refl, arith}
use Rattle.split_bundle.specs.Columns.{fast_fields}
use Rattle.split_build.proofs.TakenLemmas.{no_seconds}
use Rattle.split_merge.proofs.CellGains.{first_columns}
use Rattle.split_merge.proofs.facts.FieldFacts.vacant.Goals as goal

pub returns : goal.returns
returns c = record {
  count = omega arith;
  timestamp = refl;
  tags = c.in_ok-tag_logs.ensures;
  times = no_seconds c.args.schema.now.timestamp;
  columns = first_columns (fast_fields c.args.schema.now) _ c.in_ok-column_logs.ensures;
}
