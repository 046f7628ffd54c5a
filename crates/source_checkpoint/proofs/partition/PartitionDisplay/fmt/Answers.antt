use Rattle.std.proofs.Common.{sym, subst}
use Rattle.std.specs.Prelude.{IsUtf8}
use Rattle.source_checkpoint.proofs.NameLemmas.{name_is_utf8}
use Rattle.source_checkpoint.proofs.partition.PartitionDisplay.fmt.Goals as goal

pub unreachable-requires : goal.unreachable-requires
unreachable-requires g c =
    c.in_default.ensures.cases.0 (subst IsUtf8 (sym c.as_bytes.ensures.value) (name_is_utf8 c.args.self.now c.as_bytes.ensures.good))
