use Rattle.object_store.proofs.Told.{told_map}
use Rattle.meta_journal.specs.declared.journal_error.JournalError.TheVariants.{Memory, StoreFault}
use Rattle.meta_journal.proofs.Calls.{piece_looked, absent_looked, refused_looked}
use Rattle.meta_journal.proofs.objects.stands.Goals as goal
use Rattle.meta_journal.proofs.objects.stands.Goals.{in-Ok, in-Err-Absent, in-Err-Failed, in-Err-Memory}

pub returns-clause-looks : goal.returns-clause-looks
returns-clause-looks g c = elim c.match-get.branch [
  | in-Ok w ↦ rw w.result-is (told_map _ _ (piece_looked c.args.number c.meta_key.result w.in-Ok.field-0 c.meta_key.ensures) w.in-Ok.ensures.step)
  | in-Err-Absent w ↦ rw w.result-is (told_map _ _ (absent_looked c.args.number c.meta_key.result c.meta_key.ensures) (rw w.in-Err-Absent.field-0-is at w.in-Err-Absent.ensures.step))
  | in-Err-Failed w ↦ rw w.result-is (told_map _ _ (refused_looked c.args.number c.meta_key.result w.in-Err-Failed.field-0 (StoreFault c.args.before w.faults.result) (λ s. tt)) w.in-Err-Failed.ensures.step)
  | in-Err-Memory w ↦ rw w.result-is (told_map _ _ (refused_looked c.args.number c.meta_key.result w.in-Err-Memory.field-0 (Memory w.in-Err-Memory.refused) (λ s. tt)) w.in-Err-Memory.ensures.step)
]
