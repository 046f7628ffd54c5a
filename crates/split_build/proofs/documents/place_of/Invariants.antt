use Rattle.std.proofs.Common.{◌≡◌, ◌+◌, drop}
use Rattle.split_bundle.specs.Documents.{place_among}
use Rattle.split_build.proofs.documents.place_of.Given as goal

abbrev pub invariant-loop-i : goal.invariant-loop-i
invariant-loop-i l = place_among l.partitions l.name ≡ l.i + place_among (drop l.i l.partitions) l.name
