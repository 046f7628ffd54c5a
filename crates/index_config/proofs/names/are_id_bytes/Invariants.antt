use Rattle.std.proofs.Common.{◌≡◌, drop}
use Rattle.std.specs.List.{list_all}
use Rattle.index_config.specs.Rules.{is_id_byte}
use Rattle.index_config.proofs.names.are_id_bytes.Given as goal

abbrev pub invariant-loop-byte : goal.invariant-loop-byte
invariant-loop-byte l = list_all is_id_byte l.text ≡ list_all is_id_byte (drop l.byte-index l.text)
