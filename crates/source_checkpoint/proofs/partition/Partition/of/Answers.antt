use Rattle.source_checkpoint.proofs.NameLemmas.{fields_of, name_of}
use Rattle.source_checkpoint.proofs.partition.Partition.of.Goals as goal

pub invariant_of-result : goal.invariant_of-result
invariant_of-result c =
    let fields = fields_of c.args.name.now c.copy_from_slice.new.self c.copy_from_slice.ensures.after c.requires.short in
    (fields.0, fields.1, fields.2, name_of c.args.name.now c.copy_from_slice.new.self c.copy_from_slice.ensures.after c.requires)
