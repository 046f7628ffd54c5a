use Rattle.std.proofs.Common.{◌<◌, ◌-◌, ◌^◌, List, ℕ, length, subst, arith}
use Rattle.object_store.proofs.Told.{told_map}
use Rattle.meta_journal.specs.declared.journal_error.JournalError.TheVariants.{Memory, StoreFault}
use Rattle.meta_journal.specs.Journal.{DecodesTo}
use Rattle.meta_journal.proofs.Calls.{all_of_it, piece_read, absent_read, refused_read}
use Rattle.meta_journal.proofs.objects.read_whole.Goals as goal

pub returns-in-Ok-clause-reads : goal.returns-in-Ok-clause-reads
returns-in-Ok-clause-reads g c =
    let small : length c.as_slice.result.now < 2 ^ 63 = omega arith in
    let piece : length c.in-Ok.piece.bytes < 2 ^ 63 = subst (λ (l : List ℕ). length l < 2 ^ 63) c.as_slice.ensures small in
    let decoded = subst (λ (l : List ℕ). DecodesTo l c.meta_key-key.result c.entry_of_object.result) c.as_slice.ensures c.entry_of_object.ensures in
    told_map _ _ (piece_read c.args.number c.meta_key-key.result (2 ^ 64 - 1) c.in-Ok.piece c.entry_of_object.result c.meta_key-key.ensures (all_of_it c.in-Ok.piece piece) decoded) c.in-Ok.ensures.step

pub returns-in-Err-Absent-clause-reads : goal.returns-in-Err-Absent-clause-reads
returns-in-Err-Absent-clause-reads g c = told_map _ _ (absent_read c.args.number c.meta_key-key.result (2 ^ 64 - 1) c.meta_key-key.ensures) (rw c.in-Err-Absent.field-0-is at c.in-Err-Absent.ensures.step)

pub returns-in-Err-Failed-clause-reads : goal.returns-in-Err-Failed-clause-reads
returns-in-Err-Failed-clause-reads g c = told_map _ _ (refused_read c.args.number c.meta_key-key.result (2 ^ 64 - 1) c.in-Err-Failed.field-0 (StoreFault c.args.before c.faults.result) (λ s. tt)) c.in-Err-Failed.ensures.step

pub returns-in-Err-Memory-clause-reads : goal.returns-in-Err-Memory-clause-reads
returns-in-Err-Memory-clause-reads g c = told_map _ _ (refused_read c.args.number c.meta_key-key.result (2 ^ 64 - 1) c.in-Err-Memory.field-0 (Memory c.in-Err-Memory.refused) (λ s. tt)) c.in-Err-Memory.ensures.step
