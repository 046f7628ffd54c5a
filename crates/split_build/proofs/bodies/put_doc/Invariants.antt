use Rattle.std.proofs.Common.{◌≡◌, ◌++◌, length}
use Rattle.std.specs.List.{flat_map}
use Rattle.split_bundle.specs.Documents.{field_bytes}
use Rattle.split_bundle.specs.Held.{AreHeld}
use Rattle.split_build.proofs.bodies.put_doc.Given as goal

abbrev pub invariant-loop-field : goal.invariant-loop-field
invariant-loop-field l = record {
  bytes : l.out.items ++ flat_map field_bytes l.rest ≡ l.initial.out.items ++ flat_map field_bytes l.fields;
  held : AreHeld l.rest → AreHeld l.fields;
}

abbrev pub decreases-loop-field : goal.decreases-loop-field
decreases-loop-field l = length l.rest
