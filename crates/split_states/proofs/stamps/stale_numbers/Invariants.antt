use Rattle.std.proofs.Common.{◌≡◌, take, map}
use Rattle.std.specs.Prelude.{filter}
use Rattle.split_states.specs.Due.{stamp_number, stamped_stale}
use Rattle.split_states.proofs.stamps.stale_numbers.Given as goal

abbrev pub invariant-loop-stamp : goal.invariant-loop-stamp
invariant-loop-stamp l = l.numbers ≡ map stamp_number (filter (stamped_stale l.now l.grace) (take l.stamp-index l.stamps))
