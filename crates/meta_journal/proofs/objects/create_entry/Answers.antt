use Rattle.std.proofs.Common.{Err}
use Rattle.object_store.specs.declared.store.CreateError.TheVariants as creates
use Rattle.meta_journal.specs.Journal.{Tries}
use Rattle.meta_journal.proofs.Calls.{told_same, memory_tried}
use Rattle.meta_journal.proofs.objects.create_entry.Goals as goal

pub returns-in-Ok-clause-tried : goal.returns-in-Ok-clause-tried
returns-in-Ok-clause-tried g c = rw (← c.in-Ok.ensures, ← c.meta_key.ensures, ← c.as_slice.ensures) c.create.ensures.step

pub returns-in-Err-clause-tried : goal.returns-in-Err-clause-tried
returns-in-Err-clause-tried g c = told_same (g.S.ObjectStore.told c.args.store.now) (Tries c.args.number c.args.entry.now (Err (creates.Memory c.in-Err.refused))) (memory_tried c.args.number c.args.entry.now c.in-Err.refused)
