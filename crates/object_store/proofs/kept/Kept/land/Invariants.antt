use Rattle.std.proofs.Common.{◌≡◌, ◌-◌, [], take, vec_len}
use Rattle.std.specs.Prelude.{filter}
use Rattle.object_store.specs.Store.{HasLanded}
use Rattle.object_store.specs.Kept.{state_of}
use Rattle.object_store.specs.Late.{held_of, is_due, begun}
use Rattle.object_store.proofs.kept.Kept.land.Given as goal

-- what is due behind this place lands yet, and before it nothing is due
abbrev pub invariant-loop-at : goal.invariant-loop-at
invariant-loop-at l = record {
  lands : HasLanded (state_of l.fn.self) (state_of l.self);
  same : begun l.made (held_of l.self) ≡ begun l.made (held_of l.fn.self);
  passed : filter (is_due l.made) (take l.at l.self.late.items) ≡ [];
}

abbrev pub decreases-loop-at : goal.decreases-loop-at
decreases-loop-at l = vec_len l.self.late - l.at
