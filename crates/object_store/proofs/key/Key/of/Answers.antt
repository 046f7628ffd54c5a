use Rattle.object_store.proofs.KeyFields.{fields_of}
use Rattle.object_store.proofs.key.Key.of.Goals as goal

pub invariant_of-result : goal.invariant_of-result
invariant_of-result c = fields_of c.args.text.now c.copy_from_slice.new.self c.copy_from_slice.ensures.after c.requires
