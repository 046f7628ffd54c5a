use Rattle.std.proofs.Common.{◌≡◌, ◌++◌, take, drop}
use Rattle.split_build.specs.HeldDocuments.{with_name}
use Rattle.split_build.proofs.documents.place_for.Given as goal

abbrev pub invariant-loop-i : goal.invariant-loop-i
invariant-loop-i l = with_name l.name l.names ≡ take l.i l.names ++ with_name l.name (drop l.i l.names)
