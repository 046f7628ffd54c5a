use Rattle.std.proofs.Common.{◌≡◌, true, take}
use Rattle.std.specs.List.{list_all}
use Rattle.object_store.specs.Key.{is_key_byte}
use Rattle.real_edge.proofs.object_names.is_object.Given as goal

abbrev pub invariant-loop-byte : goal.invariant-loop-byte
invariant-loop-byte l = list_all is_key_byte (take l.byte-index l.name) ≡ true
