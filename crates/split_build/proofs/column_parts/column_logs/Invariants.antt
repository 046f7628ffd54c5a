use Rattle.std.proofs.Common.{◌≡◌, ◌+◌, [], length}
use Rattle.split_bundle.specs.Columns.{FastField, fast_from, fast_fields}
use Rattle.split_build.specs.HeldColumns.{HasColumns}
use Rattle.split_build.proofs.OnWay.{IsOnWay}
use Rattle.split_build.proofs.column_parts.column_logs.Given as goal

abbrev pub invariant-loop-field : goal.invariant-loop-field
invariant-loop-field l = record {
  count : l.number + length l.rest ≡ length l.schema.fields;
  logs : IsOnWay {X = FastField} (λ fs. HasColumns [] fs l.logs.items) (fast_from l.number l.rest) (fast_fields l.schema);
}

abbrev pub decreases-loop-field : goal.decreases-loop-field
decreases-loop-field l = length l.rest
