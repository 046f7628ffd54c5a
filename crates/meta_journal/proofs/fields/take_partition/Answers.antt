use Rattle.meta_journal.proofs.Names.{partition_read, partition_refused}
use Rattle.meta_journal.proofs.fields.take_partition.Goals as goal

pub returns-in-Ok-clause-exact : goal.returns-in-Ok-clause-exact
returns-in-Ok-clause-exact c = rw c.in-Ok.ensures.ok.0 (partition_read c.args.bytes.now c.args.at c.in_ok-text.text.now c.in_ok-text.next c.in_ok-text.ensures.exact c.in-Ok.ensures.ok.1)

pub returns-in-Err-clause-exact : goal.returns-in-Err-clause-exact
returns-in-Err-clause-exact c = partition_refused c.args.bytes.now c.args.at c.in_ok-text.text.now c.in_ok-text.next c.in-Err.field-0.at c.in_ok-text.ensures.exact c.in-Err.ensures.err
