use Rattle.std.proofs.Common.{arith}
use Rattle.split_bundle.proofs.DocNames.{partition_found}
use Rattle.split_bundle.proofs.documents.partition_in.Goals as goal

pub returns-in-Ok-from_text : goal.returns-in-Ok-from_text
returns-in-Ok-from_text c =
    partition_found c.args.footer.now c.args.table c.args.place c.in-Ok.name.now c.in-Ok-from_text.partition (omega arith) c.in-Ok.ensures c.in-Ok-from_text.ensures.ok.0 c.in-Ok-from_text.ensures.ok.1
