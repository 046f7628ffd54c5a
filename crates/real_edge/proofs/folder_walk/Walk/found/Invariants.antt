use Rattle.std.proofs.Common.{ℕ, List, ◌++◌, take}
use Rattle.std.specs.Prelude.{Contains}
use Rattle.real_edge.specs.Walk.{Meets}
use Rattle.real_edge.proofs.folder_walk.Walk.found.Given as goal

abbrev pub invariant-loop-name : goal.invariant-loop-name
invariant-loop-name l = (name : List ℕ) → Contains (take l.name-index l.names) name → Meets l.self.prefix l.self.after (l.folder ++ name) l.found
