use Rattle.std.proofs.Common.{◌≡◌, ◌++◌, take, string_bytes}
use Rattle.std.specs.Prelude.{flat_map}
use Rattle.index_report.specs.Reports.{checkpoint_line}
use Rattle.index_report.proofs.describe.put_checkpoints.Given as goal

-- the lines of the checkpoints so far stand behind what was there
abbrev pub invariant-loop-checkpoint : goal.invariant-loop-checkpoint
invariant-loop-checkpoint l = string_bytes l.out ≡ string_bytes l.initial.out ++ flat_map checkpoint_line (take l.checkpoint-index l.checkpoints)
