use Rattle.std.proofs.Common.{arith}
use Rattle.byte_fields.proofs.ClientFields.{fields_of}
use Rattle.byte_fields.proofs.client.Client.from_text.Goals as goal

pub invariant_of-result : goal.invariant_of-result
invariant_of-result c = fields_of c.as_bytes-text.result.now c.copy_from_slice.new.self c.copy_from_slice.ensures.after (omega arith)
