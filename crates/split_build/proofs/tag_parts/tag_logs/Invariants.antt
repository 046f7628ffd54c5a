use Rattle.std.proofs.Common.{◌≡◌, ◌+◌, ℕ, [], length}
use Rattle.split_build.specs.HeldTags.{HasTags}
use Rattle.split_bundle.specs.Tagged.{tag_numbers}
use Rattle.split_build.proofs.OnWay.{IsOnWay}
use Rattle.split_build.proofs.tag_parts.tag_logs.Given as goal

abbrev pub invariant-loop-field : goal.invariant-loop-field
invariant-loop-field l = record {
  count : l.number + length l.rest ≡ length l.schema.fields;
  logs : IsOnWay {X = ℕ} (λ ns. HasTags [] ns l.logs.items) (tag_numbers l.number l.rest) (tag_numbers 0 l.schema.fields);
}

abbrev pub decreases-loop-field : goal.decreases-loop-field
decreases-loop-field l = length l.rest
