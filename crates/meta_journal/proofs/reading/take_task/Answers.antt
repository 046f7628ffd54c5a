use Rattle.std.proofs.Common.{refl}
use Rattle.meta_journal.specs.declared.reading.Kind.TheVariants.{Task}
use Rattle.meta_journal.proofs.Acts.{task_read}
use Rattle.meta_journal.proofs.reading.take_task.Goals as goal

pub returns : goal.returns
returns c = record {
  exact = task_read c.args.bytes.now Task c.args.at c.in_ok-opstamp.opstamp c.in_ok-opstamp.next c.in_ok-text.text c.in_ok-text.next c.in_ok-fields.fields c.in_ok-fields.next c.in_ok-times.times c.in_ok-times.next
      refl c.in_ok-opstamp.ensures.exact c.in_ok-text.ensures.exact c.in_ok-fields.ensures.exact c.in_ok-times.ensures.exact;
}
