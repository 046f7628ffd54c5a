use Rattle.std.proofs.Common.{◌≡◌, map, take}
use Rattle.split_bundle.specs.Documents.{place_among}
use Rattle.split_build.proofs.documents.places_of.Given as goal

abbrev pub invariant-loop-name : goal.invariant-loop-name
invariant-loop-name l = l.places.items ≡ map (place_among l.partitions) (take l.name-index l.names)
